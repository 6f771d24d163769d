-- `reclaim` meets its contract: stopped it leaves the registry, else one record is changed.
-- Assumes nothing.
use mathlib.Core.Path.{refl}
use Rattle.rules.specs.RegistryRows.{reclaim}
use Rattle.registry.proofs.Steps.{told_refusal}
use Rattle.registry.proofs.Publications.{reclaim_done}
use Rattle.registry.proofs.inner.Sound.reclaim.Goals as goal

pub returns-in-Err : goal.returns-in-Err
returns-in-Err c =
    rw c.refused.ensures (told_refusal _ _ (reclaim c.args.id) (rw (c.publications.ensures, c.leases.ensures) at c.reclaim_verdict.ensures) c.args.self.is c.in-Err.is refl)

pub returns-in-Ok : goal.returns-in-Ok
returns-in-Ok c =
    reclaim_done c.args.self.is _ (rw (c.publications.ensures, c.leases.ensures) at c.reclaim_verdict.ensures) c.in-Ok.is
