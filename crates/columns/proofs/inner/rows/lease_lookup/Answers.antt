-- `lease_lookup` meets its contract: each return is the row's first test that holds.
-- Assumes nothing.
use borrow.Author.Tests.{lt-leb}
use Rattle.columns.proofs.Verdicts.{none_there, one_there, place_there}
use Rattle.columns.proofs.inner.rows.lease_lookup.Goals as goal

pub returns-in-None : goal.returns-in-None
returns-in-None c =
    rw (lt-leb _ _ c.if-counter-lease.false, none_there _ _ c.lease_place.ensures c.in-None.is)

pub returns-in-Some : goal.returns-in-Some
returns-in-Some c =
    rw (lt-leb _ _ c.if-counter-lease.false, one_there _ _ c.lease_place.ensures c.in-Some.is, place_there _ _ c.lease_place.ensures c.in-Some.is)
