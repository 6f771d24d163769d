-- `revoke` meets its contract: stopped it leaves the registry, else one record is changed.
-- Assumes nothing.
use lib.ListN.{take}
use Rattle.rules.specs.RegistryRows.{revoke}
use Rattle.rules.proofs.Columns.{count_used}
use Rattle.registry.proofs.Steps.{told_refusal}
use Rattle.registry.proofs.Publications.{revoke_done}
use Rattle.registry.proofs.inner.Sound.revoke.Goals as goal

pub returns-in-Ok : goal.returns-in-Ok
returns-in-Ok c =
    let e = c.revoke_verdict-answer.ensures (take c.args.self.registry.count c.args.self.registry.publications) (count_used _ _ c.args.self.is) in
    revoke_done c.args.self.is _ e c.in-Ok.is

pub returns-in_default : goal.returns-in_default
returns-in_default c =
    let e = c.revoke_verdict-answer.ensures (take c.args.self.registry.count c.args.self.registry.publications) (count_used _ _ c.args.self.is) in
    told_refusal _ _ (revoke c.args.id) e c.args.self.is c.in_default.is c.in_default.is
