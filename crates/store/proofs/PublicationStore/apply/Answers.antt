-- `apply` meets its contract: the inner call on a sound store, BadTable on any other.
-- Assumes nothing.
use Rattle.std.specs.Prelude.{is_some}
use mathlib.Core.Path.{sym, ap, ◌∙◌}
use Rattle.store.proofs.Applying.{applied_when, applied_unless}
use Rattle.store.proofs.PublicationStore.apply.Goals as goal

pub returns-in_default : goal.returns-in_default
returns-in_default c =
    applied_unless _ c.args.command (sym c.tested.ensures.test ∙ ap is_some c.in_default.is) c.bad_table.ensures

pub returns : goal.returns
returns c =
    let t = sym c.tested.ensures.test ∙ ap is_some c.in-Some.is in
    let e = rw c.in-Some.is at c.tested.ensures.same in
    rw e at c.apply.ensures ∙ applied_when _ c.args.command t
