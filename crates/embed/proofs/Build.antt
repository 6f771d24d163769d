-- The crate in a build: its functions with their code, and that each function which other crates call or name stands there, with all that it calls.
-- Assumes nothing.
use mathlib.Core.Bool.{true}
use prog.Linked.{World, Tree, Holds, in_world}
use prog.LinkedThreads.{HasT}
use prog.Wired.{Code}
use Rattle.embed.proofs.TheLink as link
use Rattle.embed.proofs.lease_broker_run.Symbol as lease_broker_run
use Rattle.embed.proofs.lease_broker_report.Symbol as lease_broker_report
use Rattle.embed.proofs.lease_broker_name.Symbol as lease_broker_name

-- its functions, and what it needs of the crates below

abbrev pub table : Tree
table = link.table

abbrev pub Below : World → Type 0
Below = link.Below

-- in every build in which the crate stands on those below, that code is there
abbrev pub Stands : Code → Type 0
Stands c = (W : World) → Holds W "embed" table → Below W → HasT (in_world W) true c

pub lease_broker_run-stands : Stands lease_broker_run.code
lease_broker_run-stands = link.linked-embed::lease_broker_run

pub lease_broker_report-stands : Stands lease_broker_report.code
lease_broker_report-stands = link.linked-embed::lease_broker_report

pub lease_broker_name-stands : Stands lease_broker_name.code
lease_broker_name-stands = link.linked-embed::lease_broker_name
