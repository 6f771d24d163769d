-- `adopt` meets its contract: stopped it leaves the registry, else one record is changed.
-- Assumes nothing.
use Rattle.rules.specs.RegistryRows.{adopt}
use Rattle.registry.proofs.Steps.{told_refusal}
use Rattle.registry.proofs.Publications.{adopt_done}
use Rattle.registry.proofs.inner.Sound.adopt.Goals as goal

pub returns-in-Ok : goal.returns-in-Ok
returns-in-Ok c =
    adopt_done c.args.self.is _ _ c.args.generation (rw (c.publications.ensures, c.leases.ensures) at c.adopt_verdict-answer.ensures) c.in-Ok.is

pub returns-in_default : goal.returns-in_default
returns-in_default c =
    told_refusal _ _ (adopt c.args.id c.args.owner c.args.generation) (rw (c.publications.ensures, c.leases.ensures) at c.adopt_verdict-answer.ensures) c.args.self.is c.in_default.is c.in_default.is
