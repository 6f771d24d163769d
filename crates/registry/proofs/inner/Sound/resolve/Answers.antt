-- `resolve` meets its contract: what the search finds is the row's answer.
-- Assumes nothing.
use Rattle.rules.specs.RegistryRows.{registry_step}
use Rattle.columns.proofs.Verdicts.{none_there, one_there, place_there}
use Rattle.registry.proofs.inner.Sound.resolve.Goals as goal

pub returns-in-None : goal.returns-in-None
unfolding registry_step
returns-in-None c =
    rw (none_there _ _ (rw c.publications.ensures at c.port_place.ensures) c.in-None.is)

pub returns-in-Some : goal.returns-in-Some
unfolding registry_step
returns-in-Some c =
    rw (one_there _ _ (rw c.publications.ensures at c.port_place.ensures) c.in-Some.is, place_there _ _ (rw c.publications.ensures at c.port_place.ensures) c.in-Some.is)
