-- The walk of the soundness test over the leases.
-- Assumes nothing.
use Prim.Native.Nat.{ℕ, ◌+◌, ◌≤◌, ◌<◌}
use mathlib.Core.Path.{◌≡◌, refl, ◌∙◌}
use mathlib.Core.Bool.{Bool, true, ◌&&◌}
use native.Mathlib.Numerals.{add-one}
use native.Mathlib.Omega.{arith}
use borrow.Author.Count.{below_none, below_more}
use borrow.Author.Tests.{ltb-true}
use lib.Dec.{leb, ltb}
use Rattle.lists.proofs.Bools.{and_left, and_right}
use Rattle.lists.proofs.Every.{Passing}
use Rattle.rules.specs.Limits.{Limits}
use Rattle.rules.specs.Table.{at}
use Rattle.rules.specs.Columns.{RegistryColumns}
use Rattle.rules.specs.SoundTest.{lease_at, least}
use Rattle.columns.proofs.Clauses.{lease_tests}

module _ (L : Limits) (c : RegistryColumns) where
  -- the walk over the leases has come to k, and `bound` is the least identifier that may stand there
  pub record Rise (bound k : ℕ) : Type 0 where
    pub within : k ≤ c.active
    pub floor : bound ≡ least c k
    pub passed : (j : ℕ) → j < k → Passing (lease_tests L c j)

  pub rise_start : Rise 0 0
  rise_start = record { within = omega arith; floor = refl; passed = below_none (λ j. Passing (lease_tests L c j)) }

  abbrev pub in_order : ℕ → ℕ → Bool
  in_order bound k = leb bound (lease_at c k).id.0 && ltb (lease_at c k).id.0 c.counter

  pub id_below : (bound k : ℕ) → in_order bound k ≡ true → (lease_at c k).id.0 < c.counter
  id_below bound k e = ltb-true _ _ (and_right (leb bound (lease_at c k).id.0) (ltb (lease_at c k).id.0 c.counter) e)

  pub rise_on : {bound k : ℕ} → Rise bound k → k < c.active → in_order bound k ≡ true → (at c.publications (lease_at c k).publication).retained ≡ true
      → {next : ℕ} → next ≡ (lease_at c k).id.0 + 1 → Rise next (k + 1)
  rise_on {bound} {k} w h e r n =
      record {
        within = omega arith;
        floor = rw (add-one k) (n ∙ add-one (lease_at c k).id.0);
        passed = below_more (λ j. Passing (lease_tests L c j)) k w.passed (
          rw (← w.floor) (and_left (leb bound (lease_at c k).id.0) (ltb (lease_at c k).id.0 c.counter) e),
          (and_right (leb bound (lease_at c k).id.0) (ltb (lease_at c k).id.0 c.counter) e, (r, tt)),
        );
      }
