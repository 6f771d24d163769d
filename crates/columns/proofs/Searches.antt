-- Laws of a search of the first records of an array, place by place.
-- Assumes nothing.
use Rattle.std.specs.Prelude.{Option, Some, None}
use Prim.Native.Nat.{ℕ, ◌≤◌, ◌<◌}
use mathlib.Core.Path.{◌≡◌}
use mathlib.Core.Bool.{Bool, true, false}
use mathlib.Core.List.{List}
use native.Mathlib.Omega.{arith}
use lib.ListN.{length, get_or, take, length-take}
use lib.Seq.{get_or-take}
use Rattle.std.proofs.lemmas.List.{take_all}
use Rattle.lists.specs.Search.{some_pass}
use Rattle.lists.proofs.Search.{none_passes, first_passes}
use Rattle.lists.proofs.Scan.{passes_at, first_is, first_below}
use Rattle.columns.specs.Verdicts.{place_of}
use Rattle.columns.proofs.Verdicts.{none_there, one_there, place_there}

module _ {A : Type 0} (p : A → Bool) (l : List A) (i : ℕ) (none : some_pass p (take i l) ≡ false) where
  -- the search has come to i, and none before it passes
  pub found : (d : A) → i < length l → p (get_or l i d) ≡ true → Some i ≡ place_of p l
  unfolding place_of
  found d h e = rw (passes_at p l i d h e, first_is p l i d h none e)

  pub over : length l ≤ i → None ≡ place_of p l
  unfolding place_of
  over h = let e : some_pass p l ≡ false = rw (take_all i l h) at none in rw e

-- What a search of the first i has found.

module _ {A : Type 0} (p : A → Bool) (d : A) (xs : List A) (i : ℕ) {w : Option ℕ} (e : w ≡ place_of p (take i xs)) where
  pub none_before : p d ≡ false → w ≡ None → (j : ℕ) → j < i → p (get_or xs j d) ≡ false
  none_before n t j h = rw (← get_or-take i xs j d h) (none_passes p (take i xs) d n (none_there p (take i xs) e t) j)

  module _ {k : ℕ} (t : w ≡ Some k) where
    pub found_below : k < i
    found_below =
        let l : length (take i xs) ≤ i = rw length-take (omega arith) in
        omega (arith, place_there p (take i xs) e t, first_below p (take i xs) (one_there p (take i xs) e t))

    pub found_passes : p (get_or xs k d) ≡ true
    found_passes =
        let f : p (get_or (take i xs) k d) ≡ true = rw (place_there p (take i xs) e t) at (first_passes p (take i xs) d (one_there p (take i xs) e t)) in
        rw (get_or-take i xs k d found_below) at f
