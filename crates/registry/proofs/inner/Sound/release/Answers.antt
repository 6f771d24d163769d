-- `release` meets its contract: stopped it leaves the registry, else the place found is closed up.
-- Assumes nothing.
use Rattle.rules.proofs.Columns.{active_room}
use Rattle.columns.proofs.Effects.{blank_leases}
use Rattle.columns.proofs.Passes.{lease_below}
use Rattle.registry.proofs.Leases.{release_refused, release_done}
use Rattle.registry.proofs.inner.Sound.release.Goals as goal

pub close_up-registry-requires : goal.close_up-registry-requires
close_up-registry-requires c =
    (lease_below c.args.self.is _ (rw c.leases.ensures at c.lease_lookup.ensures) c.in-Ok.is, active_room _ _ c.args.self.is, blank_leases c.args.self.is)

pub returns-in-Err : goal.returns-in-Err
returns-in-Err c =
    rw c.refused.ensures (release_refused c.args.self.is _ (rw c.leases.ensures at c.lease_lookup.ensures) c.in-Err.is)

pub returns-in-Ok : goal.returns-in-Ok
returns-in-Ok c =
    rw c.close_up-registry.ensures (release_done c.args.self.is _ (rw c.leases.ensures at c.lease_lookup.ensures) c.in-Ok.is)
