-- `lease` meets its contract: what the search finds is the row's answer.
-- Assumes nothing.
use native.Mathlib.Omega.{arith}
use Rattle.rules.specs.RegistryRows.{registry_step}
use Rattle.rules.specs.Table.{blank_lease}
use Rattle.rules.specs.Conditions.{is_lease}
use Rattle.rules.proofs.Columns.{active_room, lease_used}
use Rattle.columns.proofs.Verdicts.{none_there, one_there, place_there}
use Rattle.columns.proofs.Searches.{found_below}
use Rattle.registry.proofs.inner.Sound.lease.Goals as goal

pub offset_bounds-self-i : goal.offset_bounds-self-i
offset_bounds-self-i c =
    let k = found_below (is_lease c.args.id) blank_lease c.args.self.registry.leases c.args.self.registry.active (rw c.leases.ensures at c.lease_place.ensures) c.in-Some.is in let m = active_room _ _ c.args.self.is in omega arith

pub bounds-self-i : goal.bounds-self-i
bounds-self-i c =
    let k = found_below (is_lease c.args.id) blank_lease c.args.self.registry.leases c.args.self.registry.active (rw c.leases.ensures at c.lease_place.ensures) c.in-Some.is in let m = active_room _ _ c.args.self.is in omega arith

pub returns-in-None : goal.returns-in-None
unfolding registry_step
returns-in-None c =
    rw (none_there _ _ (rw c.leases.ensures at c.lease_place.ensures) c.in-None.is)

pub returns-in-Some : goal.returns-in-Some
unfolding registry_step
returns-in-Some c =
    rw (one_there _ _ (rw c.leases.ensures at c.lease_place.ensures) c.in-Some.is, place_there _ _ (rw c.leases.ensures at c.lease_place.ensures) c.in-Some.is, lease_used _ _ c.args.self.is)
