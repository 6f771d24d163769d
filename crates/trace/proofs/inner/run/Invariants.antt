-- What each loop of `run` keeps, and what falls.
use Prim.Native.Nat.{◌-◌}
use lib.ListN.{length}
use Rattle.trace.proofs.Running.{Running}
use Rattle.trace.proofs.inner.run.Given as goal

abbrev pub invariant-loop-i : goal.invariant-loop-i
invariant-loop-i l = Running l.trace l.initial.out (length l.initial.out) l.initial.left.0 l.out l.left.0 l.blocks l.i l.at

abbrev pub decreases-loop-i : goal.decreases-loop-i
decreases-loop-i l = length l.trace - l.i
