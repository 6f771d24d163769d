-- `entry` meets its contract: what the lookup finds is the row's answer.
-- Assumes nothing.
use Rattle.rules.specs.RegistryRows.{registry_step}
use Rattle.columns.proofs.Verdicts.{not_known, known_there, known_is}
use Rattle.registry.proofs.inner.Sound.entry.Goals as goal

pub returns-in-None : goal.returns-in-None
unfolding registry_step
returns-in-None c =
    let k = rw c.publications.ensures at c.known.ensures in
    rw (not_known _ _ k c.in-None.is)

pub returns-in-Some : goal.returns-in-Some
unfolding registry_step
returns-in-Some c =
    let k = rw c.publications.ensures at c.known.ensures in
    rw (known_there _ _ k c.in-Some.is, known_is _ _ k c.in-Some.is)
