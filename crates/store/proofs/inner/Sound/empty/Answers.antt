-- `empty` meets its contract: the empty store is sound.
-- Assumes nothing.
use Rattle.rules.specs.Limits.{box}
use Rattle.rules.proofs.Called.{empty_columns_sound}
use Rattle.store.proofs.inner.Sound.empty.Goals as goal

pub invariant_of-result : goal.invariant_of-result
invariant_of-result c =
    record { is = rw c.empty.ensures (empty_columns_sound box c.args.domain) }
