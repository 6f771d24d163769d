-- Sums over the places of a list.
-- Assumes nothing.
use Prim.Native.Nat.{ℕ, zero, suc, ◌+◌, ◌<◌}
use mathlib.Core.Path.{◌≡◌, refl, ap}
use mathlib.Core.Logic.{◌≢◌, ⊎_elim}
use mathlib.Core.Bool.{Bool, cond}
use mathlib.Core.List.{List, [], ◌∷◌, ◌++◌}
use native.Mathlib.Omega.{arith}
use native.Mathlib.Nat.{not-suc-le-zero, le_of_suc-le-suc, eq-or-lt_of_le}
use lib.ListN.{length, get_or}
use Rattle.lists.specs.Search.{how_many}

-- f at each place below n, added up
abbrev pub total : ℕ → (ℕ → ℕ) → ℕ
total zero f = 0
total (suc n) f = total n f + f n

pub total-same : (n : ℕ) (f g : ℕ → ℕ) → ((i : ℕ) → i < n → f i ≡ g i) → total n f ≡ total n g
total-same zero f g e = refl
total-same (suc n) f g e = omega (arith, total-same n f g (λ i h. e i (omega arith)), e n (omega arith))

-- one place changed
pub total-change : (n : ℕ) (f g : ℕ → ℕ) (p : ℕ) → p < n → ((i : ℕ) → i ≢ p → f i ≡ g i) → total n f + g p ≡ total n g + f p
total-change zero f g p h e = absurd (not-suc-le-zero h)
total-change (suc n) f g p h e =
    ⊎_elim (λ q. last q) (λ k. omega (arith, total-change n f g p k e, e n (omega arith))) (eq-or-lt_of_le (le_of_suc-le-suc h))
  where
    last : p ≡ n → total (suc n) f + g p ≡ total (suc n) g + f p
    last q = omega (arith, total-same n f g (λ i k. e i (omega arith)), ap f q, ap g q)

-- one element in front
pub total-cons : (n : ℕ) (f : ℕ → ℕ) → total (suc n) f ≡ f 0 + total n (λ i. f (suc i))
total-cons zero f = omega arith
total-cons (suc n) f = omega (arith, total-cons n f)

pub how_many-total : {A : Type 0} (p : A → Bool) (xs : List A) (d : A) → how_many p xs ≡ total (length xs) (λ i. cond (p (get_or xs i d)) 1 0)
how_many-total p [] d = refl
how_many-total p (x ∷ xs) d = omega (arith, how_many-total p xs d, total-cons (length xs) (λ i. cond (p (get_or (x ∷ xs) i d)) 1 0))

-- the elements of a list, each by its weight: weight 1 gives their number

abbrev pub tally : {A : Type 0} → (A → ℕ) → List A → ℕ
tally w [] = 0
tally w (x ∷ xs) = w x + tally w xs

module _ {A : Type 0} where
  pub tally-append : (w : A → ℕ) (xs ys : List A) → tally w (xs ++ ys) ≡ tally w xs + tally w ys
  tally-append w [] ys = omega arith
  tally-append w (x ∷ xs) ys = omega (arith, tally-append w xs ys)

  pub how_many-tally : (p : A → Bool) (xs : List A) → how_many p xs ≡ tally (λ x. cond (p x) 1 0) xs
  how_many-tally p [] = refl
  how_many-tally p (x ∷ xs) = rw (how_many-tally p xs)

  pub length-tally : (xs : List A) → length xs ≡ tally (λ x. 1) xs
  length-tally [] = refl
  length-tally (x ∷ xs) = omega (arith, length-tally xs)
