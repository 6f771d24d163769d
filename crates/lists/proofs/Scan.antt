-- Laws of a search that goes from place to place.
-- Assumes nothing.
use Prim.Native.Nat.{ℕ, zero, suc, ◌+◌, ◌≤◌, ◌<◌}
use mathlib.Core.Path.{◌≡◌, refl, sym, ap, ◌∙◌}
use mathlib.Core.Bool.{Bool, true, false, ◌||◌, cond, false≢true}
use mathlib.Core.List.{List, [], ◌∷◌, map}
use native.Mathlib.Numerals.{add-one}
use native.Mathlib.Omega.{arith}
use native.Mathlib.Nat.{not-suc-le-zero, le_of_suc-le-suc}
use lib.ListN.{length, get_or, take, length-map}
use lib.Seq.{take-suc, length-take-le}
use Rattle.lists.specs.Search.{some_pass, first_place}
use Rattle.lists.proofs.Bools.{either, or_left, or_right}
use Rattle.lists.proofs.Search.{some_snoc}

pub length-of_map : (X Y : Type 0) (f : X → Y) (l : List X) (n : ℕ) → length (map f l) ≡ n → length l ≡ n
length-of_map X Y f l n e = sym (length-map l f) ∙ e

-- how many are in use, of an array of a known size
pub length-take_sized : {A : Type 0} (n size : ℕ) (l : List A) → n ≤ size → length l ≡ size → length (take n l) ≡ n
length-take_sized n size l h e = length-take-le n l (rw e h)

module _ {A : Type 0} (p : A → Bool) where
  -- whoever stands within the list and passes is found
  pub passes_at : (xs : List A) (i : ℕ) (d : A) → i < length xs → p (get_or xs i d) ≡ true → some_pass p xs ≡ true
  passes_at [] i d h e = absurd (not-suc-le-zero h)
  passes_at (x ∷ xs) zero d h e = rw e
  passes_at (x ∷ xs) (suc i) d h e =
      rw (passes_at xs i d (le_of_suc-le-suc h) e) (either (λ b. (b || true) ≡ true) refl refl (p x))

  -- the first that passes: none before it does
  pub first_is : (xs : List A) (i : ℕ) (d : A) → i < length xs → some_pass p (take i xs) ≡ false → p (get_or xs i d) ≡ true → first_place p xs ≡ i
  first_is [] i d h n e = absurd (not-suc-le-zero h)
  first_is (x ∷ xs) zero d h n e = rw e
  first_is (x ∷ xs) (suc i) d h n e =
      rw (or_left (p x) (some_pass p (take i xs)) n)
      (ap suc (first_is xs i d (le_of_suc-le-suc h) (or_right (p x) (some_pass p (take i xs)) n) e))

  pub first_below : (xs : List A) → some_pass p xs ≡ true → first_place p xs < length xs
  first_below [] e = absurd (false≢true e)
  first_below (x ∷ xs) e = go (p x) (first_below xs) e
    where
      go : (b : Bool) → (some_pass p xs ≡ true → first_place p xs < length xs) → (b || some_pass p xs) ≡ true
          → cond b 0 (suc (first_place p xs)) < suc (length xs)
      go true r h = omega arith
      go false r h = omega (arith, r h)

  -- one place further, and still none
  pub none_yet : (l : List A) (i : ℕ) (d : A) → i < length l → some_pass p (take i l) ≡ false → p (get_or l i d) ≡ false → some_pass p (take (i + 1) l) ≡ false
  none_yet l i d h n e = rw (add-one, take-suc l i d, some_snoc p (take i l) (get_or l i d), n) e
