-- A store that passes the test is sound: the fact that a `Sound` holds.
-- Assumes nothing.
use Rattle.store.proofs.inner.Sound.tested.Goals as goal

pub invariant_of-result : goal.invariant_of-result
invariant_of-result c =
    record { is = c.is_sound.ensures.sound c.if-is_sound.true }
