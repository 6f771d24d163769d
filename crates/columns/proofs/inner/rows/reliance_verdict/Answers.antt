-- `reliance_verdict` meets its contract: what the search finds is the test.
-- Assumes nothing.
use Rattle.columns.proofs.Verdicts.{none_there, one_there}
use Rattle.columns.proofs.inner.rows.reliance_verdict.Goals as goal

pub returns-in-None : goal.returns-in-None
returns-in-None c =
    rw (none_there _ _ c.reliance_place.ensures c.in-None.is)

pub returns-in-Some : goal.returns-in-Some
returns-in-Some c =
    rw (one_there _ _ c.reliance_place.ensures c.in-Some.is)
