-- `slot_publish_verdict` meets its contract: the store's row decides, and then the slot.
-- Assumes nothing.
use mathlib.Core.List.{[]}
use Rattle.rules.specs.Limits.{box}
use Rattle.columns.specs.Columns.{table_of}
use Rattle.columns.proofs.Verdicts.{none_there, one_there}
use Rattle.columns.proofs.Decisions.{slot_decides}
use Rattle.columns.proofs.inner.rows.slot_publish_verdict.Goals as goal

pub returns-in-None : goal.returns-in-None
returns-in-None c =
    slot_decides box (table_of c.args.publications.now [] 0) c.args.port c.args.slot c.publish_verdict.ensures c.in-Ok.is (none_there _ _ c.slot_place.ensures c.in-None.is)

pub returns-in-Some : goal.returns-in-Some
returns-in-Some c =
    slot_decides box (table_of c.args.publications.now [] 0) c.args.port c.args.slot c.publish_verdict.ensures c.in-Ok.is (one_there _ _ c.slot_place.ensures c.in-Some.is)
