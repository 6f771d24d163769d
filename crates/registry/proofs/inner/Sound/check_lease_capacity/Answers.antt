-- `check_lease_capacity` meets its contract: the verdict is the answer.
-- Assumes nothing.
use mathlib.Core.Path.{◌∙◌}
use lib.ListN.{take}
use Rattle.rules.proofs.Columns.{active_used}
use Rattle.registry.proofs.Leases.{capacity_told}
use Rattle.registry.proofs.inner.Sound.check_lease_capacity.Goals as goal

pub returns : goal.returns
returns c =
    c.capacity_verdict.ensures (take c.args.self.registry.active c.args.self.registry.leases) (active_used _ _ c.args.self.is) ∙ capacity_told _ _ _
