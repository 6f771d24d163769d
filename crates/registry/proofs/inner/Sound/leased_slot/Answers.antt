-- `leased_slot` meets its contract: the record found names a publication that was given out.
-- Assumes nothing.
use native.Mathlib.Omega.{arith}
use Rattle.rules.proofs.Columns.{count_room, active_room}
use Rattle.columns.proofs.Passes.{lease_below, named_below}
use Rattle.registry.proofs.Leases.{leased_slot_refused, leased_slot_done}
use Rattle.registry.proofs.inner.Sound.leased_slot.Goals as goal

pub offset_bounds-self-i : goal.offset_bounds-self-i
offset_bounds-self-i c =
    let k = lease_below c.args.self.is _ (rw c.leases.ensures at c.lease_lookup.ensures) c.in-Ok.is in let m = active_room _ _ c.args.self.is in omega arith

pub bounds-self-i : goal.bounds-self-i
bounds-self-i c =
    let k = lease_below c.args.self.is _ (rw c.leases.ensures at c.lease_lookup.ensures) c.in-Ok.is in let m = active_room _ _ c.args.self.is in omega arith

pub offset_bounds-self-id : goal.offset_bounds-self-id
offset_bounds-self-id c =
    let k = named_below c.args.self.is _ (lease_below c.args.self.is _ (rw c.leases.ensures at c.lease_lookup.ensures) c.in-Ok.is) in let m = count_room _ _ c.args.self.is in omega arith

pub bounds-self-id : goal.bounds-self-id
bounds-self-id c =
    let k = named_below c.args.self.is _ (lease_below c.args.self.is _ (rw c.leases.ensures at c.lease_lookup.ensures) c.in-Ok.is) in let m = count_room _ _ c.args.self.is in omega arith

pub returns-in-Err : goal.returns-in-Err
returns-in-Err c =
    leased_slot_refused c.args.self.is _ (rw c.leases.ensures at c.lease_lookup.ensures) c.in-Err.is

pub returns-in-Ok : goal.returns-in-Ok
returns-in-Ok c =
    leased_slot_done c.args.self.is _ (rw c.leases.ensures at c.lease_lookup.ensures) c.in-Ok.is
