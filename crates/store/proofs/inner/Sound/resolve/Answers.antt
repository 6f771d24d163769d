-- `resolve` meets its contract: the registry's call.
-- Assumes nothing.
use mathlib.Core.Path.{sym, ap}
use Rattle.registry.specs.Answers.{result_of}
use Rattle.store.proofs.Sharing.{shared_resolve}
use Rattle.store.proofs.inner.Sound.resolve.Goals as goal

pub returns : goal.returns
returns c =
    rw (c.resolve.ensures, c.registry.ensures) (sym (ap result_of (shared_resolve _ _ _)))
