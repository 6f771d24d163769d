-- `revoke` meets its contract: the registry's call, beside the same cells.
-- Assumes nothing.
use mathlib.Core.Path.{sym, ap}
use Rattle.store.specs.Answers.{answered_of}
use Rattle.store.proofs.Sharing.{shared_revoke}
use Rattle.store.proofs.inner.Sound.revoke.Goals as goal

pub returns : goal.returns
returns c =
    rw (c.beside_cells.ensures, c.revoke.ensures, c.registry.ensures) (sym (ap answered_of (shared_revoke c.args.self.is _)))
