-- The crate in a build: its functions with their code, and that each function which other crates call or name stands there, with all that it calls.
-- Assumes nothing.
use mathlib.Core.Bool.{true}
use prog.Linked.{World, Tree, Holds, in_world}
use prog.LinkedThreads.{HasT}
use prog.Wired.{Code}
use Rattle.blocks.proofs.TheLink as link
use Rattle.blocks.proofs.block_at.Symbol as block_at
use Rattle.blocks.proofs.inner.put_response_at.Symbol as inner-put_response_at

-- its functions, and what it needs of the crates below

abbrev pub table : Tree
table = link.table

abbrev pub Below : World → Type 0
Below = link.Below

-- in every build in which the crate stands on those below, that code is there
abbrev pub Stands : Code → Type 0
Stands c = (W : World) → Holds W "blocks" table → Below W → HasT (in_world W) true c

pub block_at-stands : Stands block_at.code
block_at-stands = link.linked-blocks::block_at

pub inner-put_response_at-stands : Stands inner-put_response_at.code
inner-put_response_at-stands = link.linked-blocks::inner::put_response_at
