-- `leased_value` meets its contract: what the inner leased_observation answers, narrowed, on a sound store, BadTable on any other.
-- Assumes nothing.
use Rattle.std.specs.Prelude.{is_some}
use mathlib.Core.Path.{sym, ap, ◌∙◌}
use Rattle.store.specs.Columns.{columns_of}
use Rattle.store.proofs.Reading.{leased_value_when}
use Rattle.store.proofs.PublicationStore.leased_value.Goals as goal

pub returns-in-Err : goal.returns-in-Err
returns-in-Err c =
    let t = sym c.tested.ensures.test ∙ ap is_some c.in-Some.is in
    let e = rw c.in-Some.is at c.tested.ensures.same in
    leased_value_when (columns_of c.args.self) t _ (rw e at c.leased_observation.ensures) c.in-Err.is

pub returns-in-Ok : goal.returns-in-Ok
returns-in-Ok c =
    let t = sym c.tested.ensures.test ∙ ap is_some c.in-Some.is in
    let e = rw c.in-Some.is at c.tested.ensures.same in
    leased_value_when (columns_of c.args.self) t _ (rw e at c.leased_observation.ensures) c.in-Ok.is
