-- `is_sound` meets its contract: no clause reads the domain.
-- Assumes nothing.
use mathlib.Core.Path.{sym, ◌∙◌}
use Rattle.rules.specs.SoundTest.{registry_test}
use Rattle.registry.proofs.Guard.{sound_when}
use Rattle.registry.proofs.soundness.is_sound.Goals as goal

pub returns-clause-test : goal.returns-clause-test
unfolding registry_test
returns-clause-test c =
    c.is_sound.ensures

pub returns-clause-sound : goal.returns-clause-sound
unfolding registry_test
returns-clause-sound c =
    λ t. sound_when _ (sym c.is_sound.ensures ∙ t)
