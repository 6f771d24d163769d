-- `run` on a sound store meets its contract: before each block, what is left to run decides.
-- Assumes nothing.
use mathlib.Core.Path.{sym, ◌∙◌}
use native.Mathlib.Omega.{arith}
use Rattle.blocks.proofs.Blocks.{block_next}
use Rattle.trace.proofs.Running.{run_starts, run_fills, run_breaks, run_goes_on, run_ends}
use Rattle.trace.proofs.inner.run.Goals as goal

pub loop-i-init : goal.loop-i-init
loop-i-init c =
    run_starts _ _ _ _ c.args.sound.is (omega arith)

pub returns-then-out-at-lt96 : goal.returns-then-out-at-lt96
returns-then-out-at-lt96 c =
    rw c.stopped.ensures (run_fills c.loop-i.invariant c.loop-i-test.true (omega arith))

pub returns-in_default : goal.returns-in_default
returns-in_default c =
    rw c.stopped-in_default.ensures (run_breaks c.loop-i.invariant c.loop-i-test.true (omega arith) _ (sym c.block_at.ensures ∙ c.in_default.is))

pub loop-i-smaller : goal.loop-i-smaller
loop-i-smaller c =
    omega (arith, block_next c.args.trace.now c.loop-i.i c.in-Ok.command c.in-Ok.next (sym c.block_at.ensures ∙ c.in-Ok.is))

pub loop-i-preserved : goal.loop-i-preserved
loop-i-preserved c =
    run_goes_on c.loop-i.invariant c.loop-i-test.true (omega arith)
    c.in-Ok.command c.in-Ok.next (sym c.block_at.ensures ∙ c.in-Ok.is)
    c.apply-applied.result c.apply-applied.ensures c.put_response_at-at.new.out c.put_response_at-at.result c.put_response_at-at.ensures.0 c.put_response_at-at.ensures.1

pub returns : goal.returns
returns c =
    rw c.stopped-2.ensures (run_ends c.loop-i.invariant c.loop-i-test.false)
