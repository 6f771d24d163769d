-- `acquire_for` meets its contract: the registry's call, beside the same cells.
-- Assumes nothing.
use mathlib.Core.Path.{sym, ap}
use Rattle.store.specs.Answers.{answered_of}
use Rattle.store.proofs.Sharing.{shared_acquire}
use Rattle.store.proofs.inner.Sound.acquire_for.Goals as goal

pub returns : goal.returns
returns c =
    rw (c.beside_cells.ensures, c.acquire.ensures, c.registry.ensures) (sym (ap answered_of (shared_acquire c.args.self.is _ _ _)))
