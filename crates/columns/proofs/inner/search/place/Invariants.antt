-- What the loop of `place` keeps: none before the place passes.
use mathlib.Core.Path.{◌≡◌}
use mathlib.Core.Bool.{false}
use lib.ListN.{take}
use Rattle.lists.specs.Search.{some_pass}
use Rattle.columns.proofs.inner.search.place.Given as goal

abbrev pub invariant-loop-i : goal.invariant-loop-i
invariant-loop-i g l = some_pass (g.W.Wanted.passes l.wanted) (take l.i l.records) ≡ false
