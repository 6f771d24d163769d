-- `observation` meets its contract: the cell in use is the one in the column.
-- Assumes nothing.
use native.Mathlib.Omega.{arith}
use borrow.Author.Tests.{not-true, not-false}
use Rattle.store.proofs.Reading.{cell_below, observe_unknown, observe_reclaimed, observe_done}
use Rattle.store.proofs.inner.Sound.observation.Goals as goal

pub offset_bounds-self-i : goal.offset_bounds-self-i
offset_bounds-self-i c =
    let b = cell_below c.args.self.is _ (rw (c.publications.ensures, c.registry.ensures) at c.known.ensures) c.in-Some.is in
    omega arith

pub bounds-self-i : goal.bounds-self-i
bounds-self-i c =
    let b = cell_below c.args.self.is _ (rw (c.publications.ensures, c.registry.ensures) at c.known.ensures) c.in-Some.is in
    omega arith

pub offset_bounds-self-i-2 : goal.offset_bounds-self-i-2
offset_bounds-self-i-2 c =
    let b = cell_below c.args.self.is _ (rw (c.publications.ensures, c.registry.ensures) at c.known.ensures) c.in-Some.is in
    omega arith

pub bounds-self-i-2 : goal.bounds-self-i-2
bounds-self-i-2 c =
    let b = cell_below c.args.self.is _ (rw (c.publications.ensures, c.registry.ensures) at c.known.ensures) c.in-Some.is in
    omega arith

pub returns-in_default : goal.returns-in_default
returns-in_default c =
    observe_unknown c.args.self.is _ (rw (c.publications.ensures, c.registry.ensures) at c.known.ensures) c.in_default.is

pub returns-then-not-e : goal.returns-then-not-e
returns-then-not-e c =
    observe_reclaimed c.args.self.is _ (rw (c.publications.ensures, c.registry.ensures) at c.known.ensures) c.in-Some.is (not-true c.in-Some.e.retained c.if-not-e.true)

pub returns : goal.returns
returns c =
    observe_done c.args.self.is _ (rw (c.publications.ensures, c.registry.ensures) at c.known.ensures) c.in-Some.is (not-false c.in-Some.e.retained c.if-not-e.false)
