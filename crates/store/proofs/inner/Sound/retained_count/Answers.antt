-- `retained_count` meets its contract: each turn counts one record.
-- Assumes nothing.
use mathlib.Core.Logic.{inl, inr}
use native.Mathlib.Omega.{arith}
use Rattle.rules.proofs.Columns.{registry_columns, count_room, count_used}
use Rattle.store.specs.Columns.{columns_of}
use Rattle.store.proofs.Counting.{count_on, count_over, count_told}
use Rattle.store.proofs.inner.Sound.retained_count.Goals.{then-e, else-e}
use Rattle.store.proofs.inner.Sound.retained_count.Goals as goal

pub overflow_add-n : goal.overflow_add-n
overflow_add-n c =
    let r = registry_columns _ _ c.args.self.is in
    let m = count_room _ _ r in
    omega (arith, count_used _ _ r, c.loop-e.invariant.few)

pub loop-e-preserved : goal.loop-e-preserved
loop-e-preserved c =
    count_on c.loop-e.invariant _ c.loop-e-test.true (elim c.if-e.branch [ then-e w ↦ inl (w.if-e.true, w.n-is) | else-e w ↦ inr (w.if-e.false, w.n-is) ])

pub returns : goal.returns
returns c =
    count_told _ (columns_of c.args.self.store) (rw (c.publications-e-items.ensures, c.registry.ensures) at (count_over c.loop-e.invariant c.loop-e-test.false))
