-- `publish` meets its contract: stopped it leaves the registry, else it stores the record at the next place.
-- Assumes nothing.
use mathlib.Core.Path.{refl}
use Rattle.rules.specs.RegistryRows.{publish}
use Rattle.registry.proofs.Steps.{told_refusal}
use Rattle.registry.proofs.Publications.{publish_done}
use Rattle.registry.proofs.inner.Sound.publish.Goals as goal

pub returns-in-Err : goal.returns-in-Err
returns-in-Err c =
    rw c.refused.ensures (told_refusal _ _ (publish c.args.owner c.args.generation c.args.port c.args.slot) (rw c.publications.ensures at c.slot_publish_verdict.ensures) c.args.self.is c.in-Err.is refl)

pub returns-in-Ok : goal.returns-in-Ok
returns-in-Ok c =
    publish_done c.args.self.is _ _ (rw c.publications.ensures at c.slot_publish_verdict.ensures) _ _ c.in-Ok.is
