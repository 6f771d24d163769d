-- `leased_observation` meets its contract: the record found names a publication that was given out.
-- Assumes nothing.
use native.Mathlib.Omega.{arith}
use Rattle.rules.proofs.Columns.{registry_columns, count_room, active_room}
use Rattle.columns.proofs.Passes.{lease_below, named_below}
use Rattle.store.proofs.Reading.{read_refused, read_done}
use Rattle.store.proofs.inner.Sound.leased_observation.Goals as goal

pub offset_bounds-self-i : goal.offset_bounds-self-i
offset_bounds-self-i c =
    let r = registry_columns _ _ c.args.self.is in
    let k = lease_below r _ (rw (c.leases.ensures, c.registry.ensures) at c.lease_lookup.ensures) c.in-Ok.is in
    let m = active_room _ _ r in
    omega arith

pub bounds-self-i : goal.bounds-self-i
bounds-self-i c =
    let r = registry_columns _ _ c.args.self.is in
    let k = lease_below r _ (rw (c.leases.ensures, c.registry.ensures) at c.lease_lookup.ensures) c.in-Ok.is in
    let m = active_room _ _ r in
    omega arith

pub offset_bounds-self-p : goal.offset_bounds-self-p
offset_bounds-self-p c =
    let r = registry_columns _ _ c.args.self.is in
    let k = named_below r _ (lease_below r _ (rw (c.leases.ensures, c.registry.ensures) at c.lease_lookup.ensures) c.in-Ok.is) in
    let m = count_room _ _ r in
    omega arith

pub bounds-self-p : goal.bounds-self-p
bounds-self-p c =
    let r = registry_columns _ _ c.args.self.is in
    let k = named_below r _ (lease_below r _ (rw (c.leases.ensures, c.registry.ensures) at c.lease_lookup.ensures) c.in-Ok.is) in
    let m = count_room _ _ r in
    omega arith

pub offset_bounds-self-p-in-Ok : goal.offset_bounds-self-p-in-Ok
offset_bounds-self-p-in-Ok c =
    let r = registry_columns _ _ c.args.self.is in
    let k = named_below r _ (lease_below r _ (rw (c.leases.ensures, c.registry.ensures) at c.lease_lookup.ensures) c.in-Ok.is) in
    let m = count_room _ _ r in
    omega arith

pub bounds-self-p-in-Ok : goal.bounds-self-p-in-Ok
bounds-self-p-in-Ok c =
    let r = registry_columns _ _ c.args.self.is in
    let k = named_below r _ (lease_below r _ (rw (c.leases.ensures, c.registry.ensures) at c.lease_lookup.ensures) c.in-Ok.is) in
    let m = count_room _ _ r in
    omega arith

pub returns-in-Err : goal.returns-in-Err
returns-in-Err c =
    read_refused c.args.self.is _ (rw (c.leases.ensures, c.registry.ensures) at c.lease_lookup.ensures) c.in-Err.is

pub returns-in-Ok : goal.returns-in-Ok
returns-in-Ok c =
    read_done c.args.self.is _ (rw (c.leases.ensures, c.registry.ensures) at c.lease_lookup.ensures) c.in-Ok.is
