-- Laws of a list without one place: closing up place after place, and a blank at the end.
-- Assumes nothing.
use Prim.Native.Nat.{ℕ, zero, suc, ◌+◌, ◌-◌, ◌≤◌, ◌<◌}
use mathlib.Core.Path.{◌≡◌, refl, ap, ◌∙◌}
use mathlib.Core.Bool.{Bool, false}
use mathlib.Core.List.{List, [], ◌∷◌, ◌++◌}
use native.Mathlib.Numerals.{add-one}
use native.Mathlib.Omega.{arith}
use native.Mathlib.Nat.{not-suc-le-zero, le_of_suc-le-suc}
use lib.ListN.{length, get_or, take, drop, set, replicate}
use lib.Seq.{take_at, drop_at}
use Rattle.lists.specs.Column.{padded}
use Rattle.lists.specs.Every.{Every}
use Rattle.lists.specs.Removal.{remove}
use Rattle.lists.specs.Search.{leave_out}

module _ {A : Type 0} where
  pub length-remove : (xs : List A) (i : ℕ) → i < length xs → suc (length (remove xs i)) ≡ length xs
  unfolding remove
  length-remove [] i h = absurd (not-suc-le-zero h)
  length-remove (x ∷ xs) zero h = refl
  length-remove (x ∷ xs) (suc i) h = ap suc (length-remove xs i (le_of_suc-le-suc h))

  pub remove-append : (xs ys : List A) (i : ℕ) → i < length xs → remove (xs ++ ys) i ≡ remove xs i ++ ys
  unfolding remove
  remove-append [] ys i h = absurd (not-suc-le-zero h)
  remove-append (x ∷ xs) ys zero h = refl
  remove-append (x ∷ xs) ys (suc i) h = ap (λ (r : List A). x ∷ r) (remove-append xs ys i (le_of_suc-le-suc h))

  -- a store at a place, from the list without that place
  pub set_remove : (l : List A) (k : ℕ) (b : A) → k < length l → set l k b ≡ take k (remove l k) ++ b ∷ drop k (remove l k)
  unfolding remove
  set_remove [] k b h = absurd (not-suc-le-zero h)
  set_remove (x ∷ xs) zero b h = refl
  set_remove (x ∷ xs) (suc k) b h = ap (λ (r : List A). x ∷ r) (set_remove xs k b (le_of_suc-le-suc h))

  shift_suc : (l : List A) (i : ℕ) (d : A) → suc i < length l → remove (set l i (get_or l (suc i) d)) (suc i) ≡ remove l i
  unfolding remove
  shift_suc [] i d h = absurd (not-suc-le-zero h)
  shift_suc (x ∷ []) zero d h = absurd (not-suc-le-zero (le_of_suc-le-suc h))
  shift_suc (x ∷ y ∷ ys) zero d h = refl
  shift_suc (x ∷ xs) (suc i) d h = ap (λ (r : List A). x ∷ r) (shift_suc xs i d (le_of_suc-le-suc h))

  -- what follows place i is copied there: now the next place is the one to go
  pub shift : (l : List A) (i : ℕ) (d : A) → i + 1 < length l → remove (set l i (get_or l (i + 1) d)) (i + 1) ≡ remove l i
  shift l i d h = rw add-one (shift_suc l i d (rw add-one at h))

  -- a blank stored at the last place, once the later ones are up by one
  pub closed : (size : ℕ) (b : A) (xs cur : List A) (at last : ℕ) → at < length xs → last + 1 ≡ length xs → length xs ≤ size → last < length cur
      → remove cur last ≡ remove (padded size b xs) at → set cur last b ≡ padded size b (remove xs at)
  unfolding padded
  closed size b xs cur at last h e k m p =
      let len : length (remove xs at) ≡ last = omega (arith, length-remove xs at h) in
      let q : remove cur last ≡ remove xs at ++ replicate (size - length xs) b = p ∙ remove-append xs (replicate (size - length xs) b) at h in
      let n : size - length (remove xs at) ≡ suc (size - length xs) = omega arith in
      rw (set_remove cur last b m, q, take_at (remove xs at) _ last len, drop_at (remove xs at) _ last len, n)

  -- where none passes, none is left out
  pub leave_none : (p : A → Bool) (xs : List A) → Every (λ x. p x ≡ false) xs → leave_out p xs ≡ xs
  leave_none p [] h = refl
  leave_none p (x ∷ xs) h = rw (h.0, leave_none p xs h.1)
