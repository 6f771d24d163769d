-- `publish` meets its contract: stopped it leaves the store, else it stores the record and the handle at the next place.
-- Assumes nothing.
use Rattle.store.proofs.Publishing.{publish_refused, publish_done}
use Rattle.store.proofs.inner.Sound.publish.Goals as goal

pub returns-in-Err : goal.returns-in-Err
returns-in-Err c =
    rw c.rejected.ensures (publish_refused c.args.self.is _ (rw (c.publications.ensures, c.registry.ensures) at c.publish_verdict.ensures) _ _ _ c.in-Err.is)

pub returns-in-Ok : goal.returns-in-Ok
returns-in-Ok c =
    publish_done c.args.self.is _ (rw (c.publications.ensures, c.registry.ensures) at c.publish_verdict.ensures) _ _ _ c.in-Ok.is
