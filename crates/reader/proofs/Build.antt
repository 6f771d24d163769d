-- The crate in a build: its functions with their code, and that each function which other crates call or name stands there, with all that it calls.
-- Assumes nothing.
use mathlib.Core.Bool.{true}
use prog.Linked.{World, Tree, Holds, in_world}
use prog.LinkedThreads.{HasT}
use prog.Wired.{Code}
use Rattle.reader.proofs.TheLink as link
use Rattle.reader.proofs.block_after.Symbol as block_after
use Rattle.reader.proofs.Reader.new.Symbol as Reader-new
use Rattle.reader.proofs.Reader.at_end.Symbol as Reader-at_end
use Rattle.reader.proofs.Reader.next_block.Symbol as Reader-next_block
use Rattle.reader.proofs.Reader.moved.Symbol as Reader-moved

-- its functions, and what it needs of the crates below

abbrev pub table : Tree
table = link.table

abbrev pub Below : World → Type 0
Below = link.Below

-- in every build in which the crate stands on those below, that code is there
abbrev pub Stands : Code → Type 0
Stands c = (W : World) → Holds W "reader" table → Below W → HasT (in_world W) true c

pub block_after-stands : Stands block_after.code
block_after-stands = link.linked-reader::block_after

pub Reader-new-stands : Stands Reader-new.code
Reader-new-stands = link.linked-reader::Reader::new

pub Reader-at_end-stands : Stands Reader-at_end.code
Reader-at_end-stands = link.linked-reader::Reader::at_end

pub Reader-next_block-stands : Stands Reader-next_block.code
Reader-next_block-stands = link.linked-reader::Reader::next_block

pub Reader-moved-stands : Stands Reader-moved.code
Reader-moved-stands = link.linked-reader::Reader::moved
