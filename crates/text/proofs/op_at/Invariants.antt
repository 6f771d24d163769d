-- What the loop of `op_at` keeps.
use Rattle.text.proofs.OpTurns.{Passed}
use Rattle.text.proofs.op_at.Given as goal

abbrev pub invariant-loop-op : goal.invariant-loop-op
invariant-loop-op l = Passed l.s l.at l.op-index
