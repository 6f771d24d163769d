-- Document 01's bench line for the run, its whole case, and the cases next to them, computed of the definitions.
-- Assumes nothing.
use Rattle.std.specs.Prelude.{ℕ, ◌≡◌, refl, List, [], ◌∷◌, ◌++◌, map}
use Rattle.lists.specs.Letters.{letters}
use Rattle.rules.specs.Limits.{box}
use Rattle.rules.specs.Table.{Store}
use Rattle.rules.specs.Rows.{step}
use Rattle.rules.specs.Refusals.{name_of}
use Rattle.rules.specs.Responses.{respond}
use Rattle.rules.specs.Probes.{empty}
use Rattle.text.specs.Digits.{digits_in, digits}
use Rattle.text.specs.Value.{scan, value_at}
use Rattle.text.specs.Words.{compared, word_at}
use Rattle.text.specs.Ops.{row_at, first_row, op_at}
use Rattle.text.specs.Keys.{key_text, key_limit}
use Rattle.text.specs.Lines.{line_at, key_line_at, line_text}
use Rattle.blocks.specs.Fields.{field_at, fields_at}
use Rattle.blocks.specs.Blocks.{command_of, lines_at, block_at}
use Rattle.blocks.specs.Answers.{answer_text}
use Rattle.blocks.specs.Cases.{lines, whole_input, whole_output}
use Rattle.trace.specs.Run.{Ran, run_from, run_sound}
use Rattle.trace.specs.Report.{stop_line, report_of, report}

-- a trace and the room for its answers; what its run on an empty store must come to: the stop number, the blocks done, the bytes read
-- and the text
pub record Trial : Type 0 where
  pub trace : List ℕ
  pub room : ℕ

pub record Course : Type 0 where
  pub stop : ℕ
  pub blocks : ℕ
  pub read : ℕ
  pub text : List ℕ

infix 5 ◌comes_to◌
pub record Row : Type 0 where
  pub trial : Trial
  pub must : Course

abbrev pub ◌comes_to◌ : Trial → Course → Row
t comes_to m = record { trial = t; must = m }

abbrev pub try : List ℕ → ℕ → Trial
try t n = record { trace = t; room = n }

abbrev pub stops : ℕ → ℕ → ℕ → List ℕ → Course
stops n blocks read text = record { stop = n; blocks = blocks; read = read; text = text }

abbrev pub course : Trial → Course
course x = ran (run_sound box x.room x.trace empty)
  where
    ran : Ran Store → Course
    ran r = record { stop = r.stop; blocks = r.done.blocks; read = r.done.read; text = r.done.text }

-- a count, and its answer on an empty store
abbrev pub counting : List ℕ
counting = lines ("op=count" ∷ [])

abbrev pub none_counted : List ℕ
none_counted = lines ("answer=0" ∷ "count=0" ∷ [])

abbrev pub unresolved : List ℕ
unresolved = lines ("answer=10" ∷ [])

abbrev pub bench : List Row
bench =
    -- empty input, whatever the room
    (try [] 0 comes_to stops 0 0 0 [])
    ∷ (try [] 96 comes_to stops 0 0 0 [])
    -- 95 bytes of room, and 96
    ∷ (try counting 95 comes_to stops 12 0 0 [])
    ∷ (try counting 96 comes_to stops 0 1 9 none_counted)
    -- too little room is told before a wrong block, and is tested before each block
    ∷ (try (letters "noise") 95 comes_to stops 12 0 0 [])
    ∷ (try (counting ++ counting) 112 comes_to stops 12 1 9 none_counted)
    ∷ (try (counting ++ counting) 113 comes_to stops 0 2 18 (none_counted ++ none_counted))
    -- no last line feed, of the first block and of a later one
    ∷ (try (letters "op=count") 96 comes_to stops 11 0 0 [])
    ∷ (try (counting ++ letters "op=count") 200 comes_to stops 11 1 9 none_counted)
    -- a port of 32 bits, and one too large
    ∷ (try (lines ("op=resolve" ∷ "port=4294967295" ∷ [])) 96 comes_to stops 0 1 27 unresolved)
    ∷ (try (lines ("op=resolve" ∷ "port=4294967296" ∷ [])) 96 comes_to stops 11 0 0 [])
    -- 20 digits, and 21
    ∷ (try (lines ("op=resolve" ∷ "port=00000000000000000007" ∷ [])) 96 comes_to stops 0 1 37 unresolved)
    ∷ (try (lines ("op=resolve" ∷ "port=000000000000000000007" ∷ [])) 96 comes_to stops 11 0 0 [])
    -- a refused command is a block done
    ∷ (try (lines ("op=revoke" ∷ "id=0" ∷ "op=reclaim" ∷ "id=0" ∷ [])) 200 comes_to stops 0 2 31 (lines ("answer=1" ∷ "answer=1" ∷ [])))
    -- the whole case
    ∷ (try whole_input 65536 comes_to stops 0 7 163 whole_output)
    ∷ []

-- each run comes to what it must
pub bench_holds : map (λ x. course x.trial) bench ≡ map (λ x. x.must) bench
unfolding run_sound run_from block_at lines_at command_of fields_at field_at op_at first_row row_at word_at compared key_line_at line_at value_at scan key_text key_limit step respond answer_text line_text digits digits_in
bench_holds = refl

-- the report of the whole case
pub whole_report : report box 65600 whole_input ≡ record { stop = 0; text = whole_output ++ lines ("stop=0 Done" ∷ []) }
unfolding report report_of stop_line name_of run_sound run_from block_at lines_at command_of fields_at field_at op_at first_row row_at word_at compared key_line_at line_at value_at scan key_text key_limit step respond answer_text line_text digits digits_in
whole_report = refl

-- the last line for each number with which a report can stop, and for one that has no name
pub stop_lines :
    map stop_line (0 ∷ 7 ∷ 11 ∷ 12 ∷ 13 ∷ [])
    ≡ lines ("stop=0 Done" ∷ [])
    ∷ lines ("stop=7 Capacity" ∷ [])
    ∷ lines ("stop=11 BadLine" ∷ [])
    ∷ lines ("stop=12 NoRoom" ∷ [])
    ∷ lines ("stop=13 unnamed" ∷ [])
    ∷ []
unfolding stop_line name_of digits digits_in
stop_lines = refl
