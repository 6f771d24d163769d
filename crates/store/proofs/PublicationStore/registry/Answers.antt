-- `registry` meets its contract: a copy of the registry's columns on a sound store, BadTable and the empty registry on any other.
-- Assumes nothing.
use Rattle.std.specs.Prelude.{is_some}
use mathlib.Core.Path.{sym, ap, ◌∙◌}
use Rattle.rules.specs.Limits.{box}
use Rattle.rules.specs.Queries.{registry_copy}
use Rattle.rules.proofs.Called.{query_damaged}
use Rattle.store.specs.Columns.{columns_of}
use Rattle.store.specs.Answers.{registry_copy_of}
use Rattle.store.proofs.Reading.{copy_when}
use Rattle.store.proofs.PublicationStore.registry.Goals as goal

pub returns-in_default : goal.returns-in_default
returns-in_default c =
    rw (c.refused.ensures, c.new.ensures)
    (sym (ap registry_copy_of (query_damaged box (columns_of c.args.self) (sym c.tested.ensures.test ∙ ap is_some c.in_default.is) registry_copy)))

pub returns : goal.returns
returns c =
    let t = sym c.tested.ensures.test ∙ ap is_some c.in-Some.is in
    let e = rw c.in-Some.is at c.tested.ensures.same in
    rw e (copy_when (columns_of c.args.self) t)
