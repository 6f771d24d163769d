-- The crate in a build: its functions with their code, and that each function which other crates call or name stands there, with all that it calls.
-- Assumes nothing.
use mathlib.Core.Bool.{true}
use prog.Linked.{World, Tree, Holds, in_world}
use prog.LinkedThreads.{HasT}
use prog.Wired.{Code}
use Rattle.trace.proofs.TheLink as link
use Rattle.trace.proofs.U64FromStop.from.Symbol as number
use Rattle.trace.proofs.report.Symbol as report
use Rattle.trace.proofs.run.Symbol as run

-- its functions, and what it needs of the crates below

abbrev pub table : Tree
table = link.table

abbrev pub Below : World → Type 0
Below = link.Below

-- in every build in which the crate stands on those below, that code is there
abbrev pub Stands : Code → Type 0
Stands c = (W : World) → Holds W "trace" table → Below W → HasT (in_world W) true c

pub number-stands : Stands number.code
number-stands = link.linked-trace::U64FromStop::from

pub report-stands : Stands report.code
report-stands = link.linked-trace::report

pub run-stands : Stands run.code
run-stands = link.linked-trace::run
