-- `op_at` meets its contract: at each turn the rows from this one on decide.
-- Assumes nothing.
use Rattle.std.proofs.Common.{arith, rules}
use Rattle.text.proofs.OpRows.{ops_ordered}
use Rattle.text.proofs.OpTurns.{rows_start, rows_end, row_wrong, row_decides}
use Rattle.text.proofs.op_at.Goals as goal
use Rattle.text.proofs.op_at.Goals.{in-Err-Wrong, in_default, in_default-2}

pub loop-op-init : goal.loop-op-init
loop-op-init c =
    rows_start _ _

pub returns-then-not-matches : goal.returns-then-not-matches
returns-then-not-matches c =
    row_decides c.loop-op.invariant (omega arith) _ (rw (ops_ordered _ c.loop-op.op-index c.loop-op-test.true) at c.op_row-answer.ensures) (λ e. search rules)

pub loop-op-preserved : goal.loop-op-preserved
loop-op-preserved c =
    row_wrong c.loop-op.invariant (omega arith) _ (rw (ops_ordered _ c.loop-op.op-index c.loop-op-test.true) at c.op_row-answer.ensures) (search rules)

pub returns : goal.returns
returns c =
    rows_end c.loop-op.invariant (omega arith)
