-- `lease_broker_run` meets its contract: the run of an empty store, and its counts.
-- Assumes nothing.
use Rattle.embed.proofs.Handed.{run_handed}
use Rattle.embed.proofs.lease_broker_run.Goals as goal

pub returns : goal.returns
returns c =
    run_handed c.args.trace.now c.args.out.now c.new.result c.new.ensures c.run-r.result c.run-r.new.out c.run-r.ensures.comes_to c.from.result c.from.ensures
