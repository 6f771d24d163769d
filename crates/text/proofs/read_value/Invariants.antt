-- What the loop of `read_value` keeps.
use Rattle.std.proofs.Common.{◌-◌}
use Rattle.text.proofs.ValueTurns.{Scanned}
use Rattle.text.proofs.read_value.Given as goal

abbrev pub invariant-loop-i : goal.invariant-loop-i
invariant-loop-i l = Scanned l.lim l.s l.at l.i (l.i - l.at) l.acc
