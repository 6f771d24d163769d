-- `adopt_verdict` meets its contract: an identifier that was given out leaves it to the record, and then to the leases.
-- Assumes nothing.
use Rattle.rules.specs.Limits.{box}
use Rattle.columns.specs.Columns.{table_of}
use Rattle.columns.proofs.Verdicts.{not_known}
use Rattle.columns.proofs.Decisions.{stands, adopt_stopped, adopt_relies}
use Rattle.columns.proofs.inner.rows.adopt_verdict.Goals as goal

pub returns-in_default : goal.returns-in_default
returns-in_default c =
    rw (not_known _ _ c.known.ensures c.in_default.is)

pub returns-in-Err : goal.returns-in-Err
returns-in-Err c =
    adopt_stopped box (stands (table_of c.args.publications.now c.args.leases.now 0) c.args.id c.known.ensures c.in-Some.is) _ _ c.adopt_verdict.ensures c.in-Err.is

pub returns-in-Ok : goal.returns-in-Ok
returns-in-Ok c =
    adopt_relies box (stands (table_of c.args.publications.now c.args.leases.now 0) c.args.id c.known.ensures c.in-Some.is) _ _ c.adopt_verdict.ensures c.in-Ok.is c.reliance_verdict.ensures
