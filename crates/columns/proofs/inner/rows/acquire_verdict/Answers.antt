-- `acquire_verdict` meets its contract: an identifier that was given out leaves it to the record.
-- Assumes nothing.
use Rattle.columns.proofs.Verdicts.{not_known, known_there, known_is}
use Rattle.columns.proofs.inner.rows.acquire_verdict.Goals as goal

pub returns-in_default : goal.returns-in_default
returns-in_default c ls e =
    rw (not_known _ _ c.known.ensures c.in_default.is)

pub returns : goal.returns
returns c ls e =
    rw (known_there _ _ c.known.ensures c.in-Some.is, known_is _ _ c.known.ensures c.in-Some.is, (c.acquire_verdict.ensures ls e))
