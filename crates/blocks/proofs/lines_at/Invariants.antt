-- What the loop of `lines_at` keeps.
use Rattle.text.specs.Ops.{row_of_op}
use Rattle.blocks.proofs.BlockTurns.{Taken}
use Rattle.blocks.proofs.lines_at.Given as goal

abbrev pub invariant-loop-k : goal.invariant-loop-k
invariant-loop-k l = Taken l.s l.at (row_of_op l.op) l.v l.i l.k
