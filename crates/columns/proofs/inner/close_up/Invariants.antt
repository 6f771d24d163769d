-- What each loop of `close_up` keeps, and what falls.
use Prim.Native.Nat.{◌≤◌, ◌-◌}
use mathlib.Core.Path.{◌≡◌}
use lib.ListN.{length}
use Rattle.lists.specs.Removal.{remove}
use Rattle.columns.proofs.inner.close_up.Given as goal

abbrev pub invariant-loop-i : goal.invariant-loop-i
invariant-loop-i l = (l.at ≤ l.i) × (l.i ≤ l.last) × (length l.leases ≡ 128) × (remove l.leases l.i ≡ remove l.initial.leases l.at)

abbrev pub decreases-loop-i : goal.decreases-loop-i
decreases-loop-i l = l.last - l.i
