-- `lines_at` meets its contract: at each turn the keys from this one on decide.
-- Assumes nothing.
use mathlib.Core.Path.{ap, ◌∙◌}
use native.Mathlib.Omega.{arith}
use Rattle.std.specs.Prelude.{Ok}
use Rattle.text.proofs.OpRows.{op_below}
use Rattle.blocks.proofs.BlockTurns.{lines_stop, lines_go_on, lines_end}
use Rattle.blocks.proofs.lines_at.Goals as goal

pub returns-in-Err : goal.returns-in-Err
returns-in-Err c =
    lines_stop c.loop-k.invariant (op_below c.args.op) (omega arith) _ _ (rw c.row_of-row.ensures at c.key_code.ensures) c.field_at.ensures _ c.in-Err.is

pub loop-k-preserved : goal.loop-k-preserved
loop-k-preserved c =
    lines_go_on c.loop-k.invariant (op_below c.args.op) (omega arith) _ _ (rw c.row_of-row.ensures at c.key_code.ensures) c.field_at.ensures _ _ c.in-Ok.is

pub returns : goal.returns
returns c =
    ap (λ x. Ok (x, c.loop-k.i)) c.command_of.ensures ∙ lines_end c.loop-k.invariant (op_below c.args.op) (omega arith)
