-- Why a run stopped. Every run of every trace on every table into every room comes to one of these.
-- Assumes nothing.
use Rattle.std.specs.Prelude.{ℕ, ◌-◌, ◌≤◌, ◌<◌, ◌≡◌, true, false, List, length, Ok}
use Rattle.rules.specs.Limits.{Limits}
use Rattle.rules.specs.Columns.{StoreColumns}
use Rattle.rules.specs.SoundTest.{store_test}
use Rattle.rules.specs.declared.Command.{Command}
use Rattle.blocks.specs.Blocks.{block_at}
use Rattle.trace.specs.Run.{Ran, answer_room, stopped, at_start}

-- no command's block stands at the place
abbrev pub NoBlock : List ℕ → ℕ → Type 0
NoBlock trace at = (c : Command) (next : ℕ) → block_at trace at ≡ Ok (c, next) → ⊥

module _ (L : Limits) (room : ℕ) (trace : List ℕ) (t : StoreColumns) where
  pub data Why (r : Ran StoreColumns) : Type 0 where
    -- 9: the table isn't sound
    damaged : store_test L t ≡ false → r ≡ stopped 9 (at_start t) → Why r
    -- 0: all of the trace is read
    ended : store_test L t ≡ true → r.stop ≡ 0 → r.done.read ≡ length trace → Why r
    -- 12: there is more, and too little room to answer it
    full : store_test L t ≡ true → r.stop ≡ 12 → r.done.read < length trace → room - length r.done.text < answer_room → Why r
    -- 11: there is more, and room for an answer, but no block
    broken : store_test L t ≡ true → r.stop ≡ 11 → r.done.read < length trace → answer_room ≤ room - length r.done.text
        → NoBlock trace r.done.read → Why r

  -- and it keeps within what it was handed: bytes read, blocks done, bytes written
  pub record Within (r : Ran StoreColumns) : Type 0 where
    pub read : r.done.read ≤ length trace
    pub blocks : r.done.blocks ≤ r.done.read
    pub written : length r.done.text ≤ room
