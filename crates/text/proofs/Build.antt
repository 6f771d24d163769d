-- The crate in a build: its functions with their code, and that each function which other crates call or name stands there, with all that it calls.
-- Assumes nothing.
use mathlib.Core.Bool.{true}
use prog.Linked.{World, Tree, Holds, in_world}
use prog.LinkedThreads.{HasT}
use prog.Wired.{Code}
use Rattle.text.proofs.TheLink as link
use Rattle.text.proofs.key_code.Symbol as key_code
use Rattle.text.proofs.key_line_at.Symbol as key_line_at
use Rattle.text.proofs.op_at.Symbol as op_at
use Rattle.text.proofs.word_at.Symbol as word_at
use Rattle.text.proofs.read_value.Symbol as read_value

-- its functions, and what it needs of the crates below

abbrev pub table : Tree
table = link.table

abbrev pub Below : World → Type 0
Below = link.Below

-- in every build in which the crate stands on those below, that code is there
abbrev pub Stands : Code → Type 0
Stands c = (W : World) → Holds W "text" table → Below W → HasT (in_world W) true c

pub key_code-stands : Stands key_code.code
key_code-stands = link.linked-text::key_code

pub key_line_at-stands : Stands key_line_at.code
key_line_at-stands = link.linked-text::key_line_at

pub op_at-stands : Stands op_at.code
op_at-stands = link.linked-text::op_at

pub word_at-stands : Stands word_at.code
word_at-stands = link.linked-text::word_at

pub read_value-stands : Stands read_value.code
read_value-stands = link.linked-text::read_value
