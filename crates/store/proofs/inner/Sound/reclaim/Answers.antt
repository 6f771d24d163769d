-- `reclaim` meets its contract: stopped it leaves the store, else one record is changed, and its cell is 0.
-- Assumes nothing.
use Rattle.store.proofs.Changing.{reclaim_refused, reclaim_done}
use Rattle.store.proofs.inner.Sound.reclaim.Goals as goal

pub returns-in-Err : goal.returns-in-Err
returns-in-Err c =
    rw c.refused.ensures (reclaim_refused c.args.self.is _ (rw (c.publications.ensures, c.leases.ensures, c.registry-registry.ensures) at c.reclaim_verdict.ensures) c.in-Err.is)

pub returns-in-Ok : goal.returns-in-Ok
returns-in-Ok c =
    reclaim_done c.args.self.is _ (rw (c.publications.ensures, c.leases.ensures, c.registry-registry.ensures) at c.reclaim_verdict.ensures) c.in-Ok.is
