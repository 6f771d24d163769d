-- `acquire` meets its contract: stopped it leaves the registry, else it stores the record after the last.
-- Assumes nothing.
use mathlib.Core.Path.{refl}
use Rattle.rules.specs.RegistryRows.{acquire}
use Rattle.rules.proofs.Columns.{active_used}
use Rattle.registry.proofs.Steps.{told_refusal}
use Rattle.registry.proofs.Leases.{acquire_done}
use Rattle.registry.proofs.inner.Sound.acquire.Goals as goal

pub returns-in-Err : goal.returns-in-Err
returns-in-Err c =
    rw c.refused.ensures (told_refusal _ _ (acquire c.args.id c.args.consumer) (rw (c.publications.ensures) at c.acquire_verdict.ensures _ (active_used _ _ c.args.self.is)) c.args.self.is c.in-Err.is refl)

pub returns-in-Ok : goal.returns-in-Ok
returns-in-Ok c =
    acquire_done c.args.self.is _ (rw (c.publications.ensures) at c.acquire_verdict.ensures _ (active_used _ _ c.args.self.is)) _ c.in-Ok.is
