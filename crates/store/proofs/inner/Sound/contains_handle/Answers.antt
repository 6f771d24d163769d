-- `contains_handle` meets its contract: each turn looks at one cell.
-- Assumes nothing.
use Rattle.store.proofs.Counting.{holds_at, one_holds, none_holds}
use Rattle.store.proofs.inner.Sound.contains_handle.Goals as goal

pub returns-then-is_both : goal.returns-then-is_both
returns-then-is_both c =
    one_holds c.args.self.is _ _ c.loop-i-test.true (holds_at c.args.self.is _ _ c.is_both.ensures c.if-is_both.true)

pub returns : goal.returns
returns c =
    none_holds c.args.self.is _ c.loop-i.auto.i-end c.loop-i-test.false c.loop-i.invariant
