-- `place` meets its contract: none before the place passes.
-- Assumes nothing.
use mathlib.Core.Path.{sym, ◌∙◌}
use native.Mathlib.Omega.{arith}
use Rattle.columns.proofs.Searches.{found, over}
use Rattle.columns.proofs.inner.search.place.Goals as goal

pub returns-then-is_met : goal.returns-then-is_met
returns-then-is_met g c =
    found _ _ _ c.loop-i.invariant c.index-records-i.result c.loop-i-test.true (rw (← c.index-records-i.is) (sym c.is_met.ensures ∙ c.if-is_met.true))

pub returns : goal.returns
returns g c =
    over _ c.args.records.now c.loop-i.i c.loop-i.invariant (omega arith)
