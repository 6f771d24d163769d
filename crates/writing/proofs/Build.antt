-- The crate in a build: its functions with their code, and that each function which other crates call or name stands there, with all that it calls.
-- Assumes nothing.
use mathlib.Core.Bool.{true}
use prog.Linked.{World, Tree, Holds, in_world}
use prog.LinkedThreads.{HasT}
use prog.Wired.{Code}
use Rattle.writing.proofs.TheLink as link
use Rattle.writing.proofs.inner.put_line.Symbol as inner-put_line
use Rattle.writing.proofs.inner.put_line_at.Symbol as inner-put_line_at
use Rattle.writing.proofs.inner.put.Symbol as inner-put
use Rattle.writing.proofs.inner.put_name.Symbol as inner-put_name
use Rattle.writing.proofs.inner.put_number.Symbol as inner-put_number

-- its functions, and what it needs of the crates below

abbrev pub table : Tree
table = link.table

abbrev pub Below : World → Type 0
Below = link.Below

-- in every build in which the crate stands on those below, that code is there
abbrev pub Stands : Code → Type 0
Stands c = (W : World) → Holds W "writing" table → Below W → HasT (in_world W) true c

pub inner-put_line-stands : Stands inner-put_line.code
inner-put_line-stands = link.linked-writing::inner::put_line

pub inner-put_line_at-stands : Stands inner-put_line_at.code
inner-put_line_at-stands = link.linked-writing::inner::put_line_at

pub inner-put-stands : Stands inner-put.code
inner-put-stands = link.linked-writing::inner::put

pub inner-put_name-stands : Stands inner-put_name.code
inner-put_name-stands = link.linked-writing::inner::put_name

pub inner-put_number-stands : Stands inner-put_number.code
inner-put_number-stands = link.linked-writing::inner::put_number
