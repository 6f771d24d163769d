-- No count is above the number of arguments.
use Rattle.std.proofs.Common.{◌≤◌}
use Rattle.vectors.proofs.main.Given as goal

abbrev pub invariant-loop-i : goal.invariant-loop-i
invariant-loop-i l = (l.same ≤ l.i) × (l.different ≤ l.i)
