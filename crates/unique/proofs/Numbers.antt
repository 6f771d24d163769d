-- The numbers of refusals and of stops: each contract lets one outcome through.
-- Assumes nothing.
use mathlib.Core.Path.{sym, ◌∙◌}
use Rattle.rules.proofs.U64FromRefusal as refusal
use Rattle.trace.proofs.U64FromStop as stop
use Rattle.unique.specs.OneOutcome.{OneOutcome}

pub refusal_number_one : OneOutcome 0 refusal.from.Kinds.ps refusal.from.Kinds.r refusal.from.Reads.Post
refusal_number_one κs a x y s p q = p ∙ sym q

pub stop_number_one : OneOutcome 0 stop.from.Kinds.ps stop.from.Kinds.r stop.from.Reads.Post
stop_number_one κs a x y s p q = p ∙ sym q
