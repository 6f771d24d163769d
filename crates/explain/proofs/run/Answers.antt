-- A trace that is too long, or the run.
use Rattle.explain.proofs.Runs.{told_long, told_ran}
use Rattle.explain.proofs.run.Goals as goal

pub returns-then-input-gt65536 : goal.returns-then-input-gt65536
returns-then-input-gt65536 c = told_long c.args.input.now c.new-store.result c.new-store.ensures c.if-input-gt65536.true

pub returns : goal.returns
returns c = told_ran c.args.input.now c.new-store.result c.new-store.ensures c.if-input-gt65536.false _ c.run.ensures.comes_to.0
