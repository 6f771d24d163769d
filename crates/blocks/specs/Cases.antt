-- Document 01's whole case of the trace text, and the cases next to it: what is read, and what is written.
-- Assumes nothing.
use Rattle.std.specs.Prelude.{ℕ, zero, suc, ◌≡◌, refl, List, [], ◌∷◌, ◌++◌, map, length, Ok, Err}
use Prim.Native.String.{String}
use Rattle.lists.specs.Letters.{letters}
use Rattle.rules.specs.Limits.{box}
use Rattle.rules.specs.Table.{Store}
use Rattle.rules.specs.Rows.{step}
use Rattle.rules.specs.Responses.{respond}
use Rattle.rules.specs.Probes.{empty, publish, adopt, acquire, release, revoke, replace, reclaim, read, observe, resolve, count}
use Rattle.rules.specs.declared.Command.{Command}
use Rattle.rules.specs.declared.Refusal.TheVariants.{InvalidState, Absent}
use Rattle.rules.specs.declared.Response.{Response}
use Rattle.rules.specs.declared.Response.TheVariants as R
use Rattle.text.specs.Reading.{Reading}
use Rattle.text.specs.Decimal.{line_feed}
use Rattle.text.specs.Digits.{digits_in, digits}
use Rattle.text.specs.Value.{scan, value_at}
use Rattle.text.specs.Words.{compared, word_at}
use Rattle.text.specs.Ops.{op_line_of, row_at, first_row, op_at}
use Rattle.text.specs.Keys.{key_text, key_limit}
use Rattle.text.specs.Lines.{line_at, key_line_at, line_text}
use Rattle.blocks.specs.Fields.{field_at, fields_at}
use Rattle.blocks.specs.Blocks.{command_of, lines_at, block_at, block_of, blocks_text}
use Rattle.blocks.specs.Answers.{answer_text, answers_text}
use Rattle.text.specs.declared.Misread.TheVariants.{Unfinished, Wrong}

infix 5 ◌reads◌
-- lines, each ended by one line feed
abbrev pub lines : List String → List ℕ
lines [] = []
lines (l ∷ ls) = letters l ++ line_feed ∷ lines ls

abbrev pub whole_input : List ℕ
whole_input =
    lines (
    "op=publish"
    ∷ "owner=4"
    ∷ "generation=0"
    ∷ "port=7"
    ∷ "payload=900"
    ∷ "op=acquire"
    ∷ "id=0"
    ∷ "owner=5"
    ∷ "generation=1"
    ∷ "op=revoke"
    ∷ "id=0"
    ∷ "op=reclaim"
    ∷ "id=0"
    ∷ "op=release"
    ∷ "lease=0"
    ∷ "op=reclaim"
    ∷ "id=0"
    ∷ "op=count"
    ∷ []
    )

abbrev pub whole_commands : List Command
whole_commands =
    publish 4 0 7 900
    ∷ acquire 0 5 1
    ∷ revoke 0
    ∷ reclaim 0
    ∷ release 0
    ∷ reclaim 0
    ∷ count
    ∷ []

abbrev pub whole_output : List ℕ
whole_output =
    lines (
    "answer=0"
    ∷ "id=0"
    ∷ "answer=0"
    ∷ "lease=0"
    ∷ "answer=0"
    ∷ "answer=4"
    ∷ "answer=0"
    ∷ "answer=0"
    ∷ "payload=900"
    ∷ "answer=0"
    ∷ "count=0"
    ∷ []
    )

-- the commands of the blocks from a place on, n at most, and the place after them

pub record BlocksRead : Type 0 where
  pub commands : List Command
  pub next : ℕ

abbrev pub with_block : Reading Command → ℕ → (ℕ → BlocksRead) → BlocksRead
with_block (Err e) at more = record { commands = []; next = at }
with_block (Ok (c, next)) at more = record { commands = c ∷ (more next).commands; next = (more next).next }

abbrev pub read_blocks : ℕ → List ℕ → ℕ → BlocksRead
read_blocks zero s at = record { commands = []; next = at }
read_blocks (suc n) s at = with_block (block_at s at) at (read_blocks n s)

-- what commands are answered one after the other, from a table on

abbrev pub responses : Store → List Command → List Response
responses s [] = []
responses s (c ∷ cs) = respond box s c ∷ responses (step box s c).table cs

-- the whole case: the input is these seven commands, read to its end, and their text; their answers on an empty store are the output
pub whole_case :
    (read_blocks 7 whole_input 0 ≡ record { commands = whole_commands; next = length whole_input })
    × (blocks_text whole_commands ≡ whole_input)
    × (answers_text (responses empty whole_commands) ≡ whole_output)
unfolding block_at lines_at block_of op_line_of command_of fields_at field_at op_at first_row row_at word_at compared key_line_at line_at value_at scan key_text key_limit step respond answer_text line_text digits digits_in
whole_case = (refl, refl, refl)

-- a text, and what reading a block at its start must find

pub record Sample : Type 0 where
  pub text : List ℕ
  pub finds : Reading Command

abbrev pub ◌reads◌ : List ℕ → Reading Command → Sample
t reads b = record { text = t; finds = b }

abbrev pub samples : List Sample
samples =
    -- no last line feed
    (letters "op=count" reads Err Unfinished)
    ∷ (lines ("op=revoke" ∷ []) ++ letters "id=0" reads Err Unfinished)
    ∷ (lines ("op=revoke" ∷ "id=0" ∷ []) reads Ok (revoke 0, 15))
    -- a proper beginning, of the op line, of a key, of a block
    ∷ (letters "" reads Err Unfinished)
    ∷ (letters "op=re" reads Err Unfinished)
    ∷ (lines ("op=revoke" ∷ []) ++ letters "i" reads Err Unfinished)
    ∷ (lines ("op=adopt" ∷ "id=0" ∷ "owner=4" ∷ []) reads Err Unfinished)
    -- a port of 32 bits, and one too large
    ∷ (lines ("op=resolve" ∷ "port=4294967295" ∷ []) reads Ok (resolve 4294967295, 27))
    ∷ (lines ("op=resolve" ∷ "port=4294967296" ∷ []) reads Err Wrong)
    -- another value of 64 bits, and one too large
    ∷ (lines ("op=read" ∷ "lease=18446744073709551615" ∷ []) reads Ok (read 18446744073709551615, 35))
    ∷ (lines ("op=read" ∷ "lease=18446744073709551616" ∷ []) reads Err Wrong)
    -- 20 digits, and 21; no digit
    ∷ (lines ("op=observe" ∷ "id=00000000000000000007" ∷ []) reads Ok (observe 7, 35))
    ∷ (lines ("op=observe" ∷ "id=000000000000000000007" ∷ []) reads Err Wrong)
    ∷ (lines ("op=observe" ∷ "id=" ∷ []) reads Err Wrong)
    -- an unknown op, another case, a blank, no key's line, keys in another order, a key left out
    ∷ (lines ("op=erase" ∷ []) reads Err Wrong)
    ∷ (lines ("Op=count" ∷ []) reads Err Wrong)
    ∷ (lines ("op=count " ∷ []) reads Err Wrong)
    ∷ (lines ("op=release" ∷ "id=0" ∷ []) reads Err Wrong)
    ∷ (lines ("op=adopt" ∷ "owner=4" ∷ "id=0" ∷ "generation=1" ∷ []) reads Err Wrong)
    ∷ (lines ("op=publish" ∷ "owner=4" ∷ "port=7" ∷ "payload=900" ∷ []) reads Err Wrong)
    -- the block ends where its last line does, whatever comes then
    ∷ (lines ("op=adopt" ∷ "id=0" ∷ "owner=4" ∷ "generation=1" ∷ "payload=9" ∷ []) reads Ok (adopt 0 4 1, 35))
    ∷ (lines ("op=replace" ∷ "id=0" ∷ "owner=4" ∷ "generation=1" ∷ "payload=9" ∷ []) reads Ok (replace 0 4 1 9, 47))
    ∷ []

-- each of them is read so
pub samples_read : map (λ x. block_at x.text 0) samples ≡ map (λ x. x.finds) samples
unfolding block_at lines_at command_of fields_at field_at op_at first_row row_at word_at compared key_line_at line_at value_at scan key_text key_limit
samples_read = refl

-- the answers that the whole case has not: numbers without leading zeros, every value of a reading, refusals
pub answers_written :
    answers_text (
    R.Read (record { id = record { 0 = 10 }; revision = 0; handle = 18446744073709551615 })
    ∷ R.Observed (record { revision = 2; handle = 0 })
    ∷ R.Returned InvalidState 901
    ∷ R.Refused Absent
    ∷ []
    )
    ≡ lines (
    "answer=0"
    ∷ "id=10"
    ∷ "revision=0"
    ∷ "payload=18446744073709551615"
    ∷ "answer=0"
    ∷ "revision=2"
    ∷ "payload=0"
    ∷ "answer=8"
    ∷ "answer=10"
    ∷ []
    )
unfolding answer_text line_text key_text digits digits_in
answers_written = refl
