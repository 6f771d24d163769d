-- `replace` meets its contract: stopped it leaves the store, else the cell and the revision are changed.
-- Assumes nothing.
use native.Mathlib.Omega.{arith}
use Rattle.store.proofs.Reading.{cell_below}
use Rattle.store.proofs.Changing.{replace_unknown, replace_refused, replace_done}
use Rattle.store.proofs.inner.Sound.replace.Goals as goal

pub offset_bounds-store-i : goal.offset_bounds-store-i
offset_bounds-store-i c =
    let b = cell_below c.args.self.is _ (rw (c.publications.ensures, c.registry.ensures) at c.known.ensures) c.in-Some.is in
    omega arith

pub bounds-store-i : goal.bounds-store-i
bounds-store-i c =
    let b = cell_below c.args.self.is _ (rw (c.publications.ensures, c.registry.ensures) at c.known.ensures) c.in-Some.is in
    omega arith

pub offset_bounds-store-i-in-Ok : goal.offset_bounds-store-i-in-Ok
offset_bounds-store-i-in-Ok c =
    let b = cell_below c.args.self.is _ (rw (c.publications.ensures, c.registry.ensures) at c.known.ensures) c.in-Some.is in
    omega arith

pub bounds-store-i-in-Ok : goal.bounds-store-i-in-Ok
bounds-store-i-in-Ok c =
    let b = cell_below c.args.self.is _ (rw (c.publications.ensures, c.registry.ensures) at c.known.ensures) c.in-Some.is in
    omega arith

pub offset_bounds-store-i-in-Ok-2 : goal.offset_bounds-store-i-in-Ok-2
offset_bounds-store-i-in-Ok-2 c =
    let b = cell_below c.args.self.is _ (rw (c.publications.ensures, c.registry.ensures) at c.known.ensures) c.in-Some.is in
    omega arith

pub bounds-store-i-in-Ok-2 : goal.bounds-store-i-in-Ok-2
bounds-store-i-in-Ok-2 c =
    let b = cell_below c.args.self.is _ (rw (c.publications.ensures, c.registry.ensures) at c.known.ensures) c.in-Some.is in
    omega arith

pub offset_bounds-store-i-in-Ok-3 : goal.offset_bounds-store-i-in-Ok-3
offset_bounds-store-i-in-Ok-3 c =
    let b = cell_below c.args.self.is _ (rw (c.publications.ensures, c.registry.ensures) at c.known.ensures) c.in-Some.is in
    omega arith

pub bounds-store-i-in-Ok-3 : goal.bounds-store-i-in-Ok-3
bounds-store-i-in-Ok-3 c =
    let b = cell_below c.args.self.is _ (rw (c.publications.ensures, c.registry.ensures) at c.known.ensures) c.in-Some.is in
    omega arith

pub returns-in_default : goal.returns-in_default
returns-in_default c =
    rw c.rejected.ensures (replace_unknown c.args.self.is _ _ _ _ (rw (c.publications.ensures, c.registry.ensures) at c.known.ensures) c.in_default.is)

pub returns-in-Err : goal.returns-in-Err
returns-in-Err c =
    rw c.rejected-in-Err.ensures (replace_refused c.args.self.is _ _ _ _ (rw (c.publications.ensures, c.registry.ensures) at c.known.ensures) c.in-Some.is c.replace_verdict.ensures c.in-Err.is)

pub returns-in-Ok : goal.returns-in-Ok
returns-in-Ok c =
    replace_done c.args.self.is _ _ _ _ (rw (c.publications.ensures, c.registry.ensures) at c.known.ensures) c.in-Some.is c.replace_verdict.ensures c.in-Ok.is
