-- The crate in a build: its functions with their code, and that the one which other crates call stands there.
-- Assumes nothing.
use mathlib.Core.Bool.{true}
use prog.Linked.{World, Tree, Holds, in_world}
use prog.LinkedThreads.{HasT}
use prog.Wired.{Code}
use Rattle.rules.proofs.TheLink as link
use Rattle.rules.proofs.U64FromRefusal.from.Symbol as number
use Rattle.rules.proofs.U64FromRefusal.from.TheLink as number-link

-- its functions

abbrev pub table : Tree
table = link.table

-- in every build in which the crate stands, that code is there: a refusal's number needs nothing of a crate below
abbrev pub Stands : Code → Type 0
Stands c = (W : World) → Holds W "rules" table → HasT (in_world W) true c

pub number-stands : Stands number.code
number-stands W h = number-link.has (in_world W) true (link.found-rules::U64FromRefusal::from W h)
