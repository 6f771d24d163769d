-- What the loop of `contains_handle` keeps.
use mathlib.Core.Path.{◌≡◌}
use mathlib.Core.Bool.{false}
use Rattle.lists.specs.Every.{some_below}
use Rattle.store.specs.Columns.{columns_of}
use Rattle.store.proofs.Counting.{holds}
use Rattle.store.proofs.inner.Sound.contains_handle.Given as goal

abbrev pub invariant-loop-i : goal.invariant-loop-i
invariant-loop-i l = some_below l.i (holds (columns_of l.self.store) l.handle) ≡ false
