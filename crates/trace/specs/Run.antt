-- The run of a trace: what stops it before a block, what a block changes, and what it comes to.
-- Assumes nothing.
use Rattle.std.specs.Prelude.{ℕ, zero, suc, ◌+◌, ◌-◌, cond, List, [], ◌++◌, ltb, leb, length, Ok, Err}
use Rattle.rules.specs.Limits.{Limits}
use Rattle.rules.specs.Refusals.{refusal_number, bad_line, no_room}
use Rattle.rules.specs.Table.{Store}
use Rattle.rules.specs.Rows.{step}
use Rattle.rules.specs.Columns.{StoreColumns, used, filled}
use Rattle.rules.specs.SoundTest.{store_test}
use Rattle.rules.specs.Responses.{respond}
use Rattle.rules.specs.declared.Command.{Command}
use Rattle.rules.specs.declared.Refusal.TheVariants.{BadTable}
use Rattle.text.specs.Reading.{Reading}
use Rattle.blocks.specs.Blocks.{block_at}
use Rattle.blocks.specs.Answers.{answer_text}

-- the room that must be left before a block; no answer is longer
abbrev pub answer_room : ℕ
answer_room = 96

-- the blocks so far: the table after them, how many they are, the bytes read and the answers
pub record Progress (T : Type 0) : Type 0 where
  pub table : T
  pub blocks : ℕ
  pub read : ℕ
  pub text : List ℕ

-- what a run comes to: the number that stopped it, and the blocks before the stop
pub record Ran (T : Type 0) : Type 0 where
  pub stop : ℕ
  pub done : Progress T

abbrev pub stopped : {T : Type 0} → ℕ → Progress T → Ran T
stopped n g = record { stop = n; done = g }

-- one block more: its command is carried out or refused, and answered
abbrev pub advanced : Limits → Progress Store → Command → ℕ → Progress Store
advanced L g c next =
    record {
      table = (step L g.table c).table;
      blocks = g.blocks + 1;
      read = next;
      text = g.text ++ answer_text (respond L g.table c);
    }

abbrev pub on_block : {A : Type 0} → Reading Command → (Command → ℕ → A) → A → A
on_block (Err e) go halt = halt
on_block (Ok (c, next)) go halt = go c next

-- before each block: the end of the input stops with 0, else too little room with 12, else a wrong or unfinished block with 11.
-- n bounds the blocks that are left.
unfoldable pub run_from : Limits → (room : ℕ) → (trace : List ℕ) → (n : ℕ) → Progress Store → Ran Store
run_from L room trace zero g = stopped 0 g
run_from L room trace (suc n) g =
    cond (leb (length trace) g.read) (stopped 0 g)
    (cond (ltb (room - length g.text) answer_room) (stopped no_room g)
    (on_block (block_at trace g.read) (λ c next. run_from L room trace n (advanced L g c next)) (stopped bad_line g)))

-- no block yet
abbrev pub at_start : {T : Type 0} → T → Progress T
at_start t = record { table = t; blocks = 0; read = 0; text = [] }

-- on a sound table: a block is at least one byte long, so no more blocks are left than bytes
unfoldable pub run_sound : Limits → (room : ℕ) → (trace : List ℕ) → Store → Ran Store
run_sound L room trace s = run_from L room trace (length trace) (at_start s)

-- the table laid out in columns
abbrev pub laid : Limits → Ran Store → Ran StoreColumns
laid L r =
    record {
      stop = r.stop;
      done = record { table = filled L r.done.table; blocks = r.done.blocks; read = r.done.read; text = r.done.text };
    }

-- on any table: 9 first, with zeros, nothing written and the table as it came
unfoldable pub run : Limits → (room : ℕ) → (trace : List ℕ) → StoreColumns → Ran StoreColumns
run L room trace t =
    cond (store_test L t) (laid L (run_sound L room trace (used t))) (stopped (refusal_number BadTable) (at_start t))
