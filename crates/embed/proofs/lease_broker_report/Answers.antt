-- `lease_broker_report` meets its contract: the report's number and length, one by one.
-- Assumes nothing.
use mathlib.Core.Path.{◌∙◌}
use Rattle.embed.proofs.lease_broker_report.Goals as goal

pub returns : goal.returns
returns c =
    (c.from.ensures ∙ c.report-r.ensures.tells.0.stop, c.report-r.ensures.tells.1, c.report-r.ensures.tells.0.written)
