-- Names of numbers: how long they are.
-- Assumes nothing.
use Prim.Native.Nat.{ℕ, ◌≤◌}
use mathlib.Core.Path.{◌≡◌, refl}
use mathlib.Core.Bool.{Bool, true, false}
use lib.ListN.{length, get_or, get_or-eq_default}
use lib.Dec.{ltb, leb}
use native.Mathlib.Omega.{arith}
use borrow.Author.Tests.{ltb-true, ltb-false, leb-true}
use Rattle.lists.specs.Letters.{letters}
use Rattle.lists.proofs.Every.{below_at}
use Rattle.rules.specs.Refusals.{number_names, name_of}

-- no name is longer than InvalidState
pub name_most : (n : ℕ) → length (name_of n) ≤ 12
unfolding name_of
name_most n = go (ltb n (length number_names)) refl
  where
    go : (b : Bool) → ltb n (length number_names) ≡ b → length (get_or number_names n (letters "unnamed")) ≤ 12
    go true e =
        leb-true (length (get_or number_names n (letters "unnamed"))) 12 (below_at (λ k. leb (length (get_or number_names k (letters "unnamed"))) 12) (length number_names) refl n (ltb-true n (length number_names) e))
    go false e = rw (get_or-eq_default number_names (letters "unnamed") {n = n} (ltb-false n (length number_names) e)) (omega arith)
