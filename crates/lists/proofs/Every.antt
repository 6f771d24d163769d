-- Laws of what holds of every element, and of tests that pass for every number below another, or for some.
-- Assumes nothing.
use Prim.Native.Nat.{ℕ, zero, suc, ◌<◌}
use mathlib.Core.Path.{◌≡◌, refl, sym, ap, ◌∙◌}
use mathlib.Core.Bool.{Bool, true, false, not, ◌&&◌, ◌||◌, false≢true, or-true, or-false}
use mathlib.Core.List.{List, [], ◌∷◌, ◌++◌, map}
use mathlib.Core.Logic.{⊎_elim, ◌↔◌}
use native.Mathlib.Omega.{arith}
use native.Mathlib.Nat.{not-suc-le-zero, le_of_suc-le-suc, eq-or-lt_of_le}
use lib.Dec.{eqb}
use lib.ListN.{length, get_or}
use borrow.Author.Tests.{eqb-true, eq-eqb}
use Rattle.lists.specs.Every.{every, each_below, some_below, Every}
use Rattle.lists.proofs.Bools.{and_left, and_right, not_both}

module _ {A : Type 0} where
  pub every_map : (P Q : A → Type 0) → ((a : A) → P a → Q a) → (xs : List A) → Every P xs → Every Q xs
  every_map P Q f [] h = tt
  every_map P Q f (x ∷ xs) h = (f x h.0, every_map P Q f xs h.1)

  pub every_both : (P Q R : A → Type 0) → ((a : A) → P a → Q a → R a) → (xs : List A) → Every P xs → Every Q xs → Every R xs
  every_both P Q R f [] h k = tt
  every_both P Q R f (x ∷ xs) h k = (f x h.0 k.0, every_both P Q R f xs h.1 k.1)

  pub every_snoc : (P : A → Type 0) (xs : List A) (x : A) → Every P xs → P x → Every P (xs ++ (x ∷ []))
  every_snoc P [] x h k = (k, tt)
  every_snoc P (y ∷ xs) x h k = (h.0, every_snoc P xs x h.1 k)

  pub every_at : (P : A → Type 0) (xs : List A) (d : A) → Every P xs → (i : ℕ) → i < length xs → P (get_or xs i d)
  every_at P [] d h i k = absurd (not-suc-le-zero k)
  every_at P (x ∷ xs) d h zero k = h.0
  every_at P (x ∷ xs) d h (suc i) k = every_at P xs d h.1 i (le_of_suc-le-suc k)

  pub every_is : (P : A → Type 0) (xs : List A) (d : A) → ((i : ℕ) → i < length xs → P (get_or xs i d)) → Every P xs
  every_is P [] d f = tt
  every_is P (x ∷ xs) d f = (f zero (omega arith), every_is P xs d (λ i h. f (suc i) (omega arith)))

pub every_mapped : {A B : Type 0} (P : B → Type 0) (Q : A → Type 0) (f : A → B) → ((a : A) → Q a → P (f a)) → (xs : List A) → Every Q xs → Every P (map f xs)
every_mapped P Q f g [] h = tt
every_mapped P Q f g (x ∷ xs) h = (g x h.0, every_mapped P Q f g xs h.1)

-- a list of tests, and the facts that they all pass

abbrev pub Passing : List Bool → Type 0
Passing [] = Unit {0}
Passing (b ∷ bs) = (b ≡ true) × Passing bs

pub parts : (bs : List Bool) → every bs ≡ true → Passing bs
parts [] e = tt
parts (true ∷ bs) e = (refl, parts bs e)
parts (false ∷ bs) e = absurd (false≢true e)

pub whole : (bs : List Bool) → Passing bs → every bs ≡ true
whole [] h = refl
whole (true ∷ bs) h = whole bs h.1
whole (false ∷ bs) h = h.0

pub below_at : (p : ℕ → Bool) (n : ℕ) → each_below n p ≡ true → (i : ℕ) → i < n → p i ≡ true
below_at p zero e i h = absurd (not-suc-le-zero h)
below_at p (suc n) e i h =
    let m = parts (each_below n p ∷ p n ∷ []) e in
    ⊎_elim (λ q. ap p q ∙ m.1.0) (λ k. below_at p n m.0 i k) (eq-or-lt_of_le (le_of_suc-le-suc h))

pub below_is : (p : ℕ → Bool) (n : ℕ) → ((i : ℕ) → i < n → p i ≡ true) → each_below n p ≡ true
below_is p zero f = refl
below_is p (suc n) f = whole (each_below n p ∷ p n ∷ []) (below_is p n (λ i h. f i (omega arith)), (f n (omega arith), tt))

-- a test that passes for some number below another
pub some_below_exactly : (p : ℕ → Bool) (n : ℕ) → (some_below n p ≡ true) ↔ ((i : ℕ) × (i < n) × (p i ≡ true))
some_below_exactly p zero = (λ e. absurd (false≢true e), λ h. absurd (not-suc-le-zero h.1))
some_below_exactly p (suc n) = (to (p n) refl (some_below_exactly p n).0, back (some_below_exactly p n).1)
  where
    Found : ℕ → Type 0
    Found m = (i : ℕ) × (i < m) × (p i ≡ true)

    to : (b : Bool) → p n ≡ b → (some_below n p ≡ true → Found n) → (some_below n p || b) ≡ true → Found (suc n)
    to true e f h = (n, omega arith, e)
    to false e f h = let m = f (sym (or-false (some_below n p)) ∙ h) in (m.0, omega (arith, m.1), m.2)

    back : (Found n → some_below n p ≡ true) → Found (suc n) → (some_below n p || p n) ≡ true
    back f h =
        ⊎_elim (λ e. let g : p n ≡ true = sym (ap p e) ∙ h.2 in rw g (or-true (some_below n p))) (λ k. rw (f (h.0, k, h.2)))
        (eq-or-lt_of_le (le_of_suc-le-suc h.1))

-- no two numbers that are held share a key: tested pair by pair, each with those below it

abbrev pub Apart : (ℕ → Bool) → (ℕ → ℕ) → Type 0
Apart held key = (i j : ℕ) → held i ≡ true → held j ≡ true → key i ≡ key j → i ≡ j

abbrev pub clash : (ℕ → Bool) → (ℕ → ℕ) → ℕ → ℕ → Bool
clash held key i j = (held i && held j) && eqb (key i) (key j)

pub apart_tested : (held : ℕ → Bool) (key : ℕ → ℕ) (n : ℕ) → ((i : ℕ) → held i ≡ true → i < n)
    → (each_below n (λ j. each_below j (λ i. not (clash held key i j))) ≡ true) ↔ Apart held key
apart_tested held key n within = (
  λ e i j x y k. let f = never e i j x y k in let g = never e j i y x (sym k) in omega arith,
  λ f.
      below_is (λ j. each_below j (λ i. not (clash held key i j))) n
      (λ j m. below_is (λ i. not (clash held key i j)) j (λ i h. rw (not_both (held i && held j) (eqb (key i) (key j)) (free f i j h)))),
)
  where
    never : each_below n (λ j. each_below j (λ i. not (clash held key i j))) ≡ true
        → (i j : ℕ) → held i ≡ true → held j ≡ true → key i ≡ key j → i < j → ⊥
    never e i j x y k h =
        let earlier = below_at (λ j. each_below j (λ i. not (clash held key i j))) n e j (within j y) in
        false≢true (rw (x, y, eq-eqb _ _ k) at (below_at (λ i. not (clash held key i j)) j earlier i h))

    free : Apart held key → (i j : ℕ) → i < j → (held i && held j) ≡ true → eqb (key i) (key j) ≡ true → ⊥
    free f i j h b k =
        let same = f i j (and_left (held i) (held j) b) (and_right (held i) (held j) b) (eqb-true (key i) (key j) k) in omega arith

-- what holds of each element and, past the end, of the default holds at every place
pub every_place : {A : Type 0} (P : ℕ → A → Type 0) (xs : List A) (d : A) → ((i : ℕ) → P i d) → ((i : ℕ) → i < length xs → P i (get_or xs i d))
    → (i : ℕ) → P i (get_or xs i d)
every_place P [] d past f i = past i
every_place P (x ∷ xs) d past f zero = f zero (omega arith)
every_place P (x ∷ xs) d past f (suc i) = every_place (λ i. P (suc i)) xs d (λ i. past (suc i)) (λ i h. f (suc i) (omega arith)) i
