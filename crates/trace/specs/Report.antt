-- The printed report of a trace: the answers of a run from an empty store, and a last line that says why it stopped.
-- Assumes nothing.
use Rattle.std.specs.Prelude.{ℕ, ◌+◌, cond, List, [], ◌∷◌, ◌++◌, ltb, length, None}
use Rattle.lists.specs.Letters.{letters}
use Rattle.rules.specs.Limits.{Limits}
use Rattle.rules.specs.Refusals.{refusal_number, no_room, name_of}
use Rattle.rules.specs.Table.{Store, empty_store}
use Rattle.rules.specs.declared.Refusal.TheVariants.{Capacity}
use Rattle.text.specs.Decimal.{line_feed}
use Rattle.text.specs.Digits.{digits}
use Rattle.trace.specs.Run.{Ran, run_sound}

-- the longest trace that is run, and the room for its answers
abbrev pub longest : ℕ
longest = 65536

abbrev pub report_room : ℕ
report_room = 65536

-- the room for the last line; none is longer
abbrev pub line_room : ℕ
line_room = 64

-- stop=NUMBER, a blank, the name, a line feed
unfoldable pub stop_line : ℕ → List ℕ
stop_line n = letters "stop=" ++ digits n ++ letters " " ++ name_of n ++ line_feed ∷ []

-- the number that is told, and the text
pub record Report : Type 0 where
  pub stop : ℕ
  pub text : List ℕ

-- a run from an empty store without domain
abbrev pub empty_run : Limits → List ℕ → Ran Store
empty_run L trace = run_sound L report_room trace (empty_store None)

abbrev pub told : Ran Store → Report
told r = record { stop = r.stop; text = r.done.text ++ stop_line r.stop }

-- a trace that is too long is told as 7, and nothing is run
unfoldable pub report_of : Limits → List ℕ → Report
report_of L trace =
    cond (ltb longest (length trace))
    (record { stop = refusal_number Capacity; text = stop_line (refusal_number Capacity) })
    (told (empty_run L trace))

-- into an output: one that could not hold every report is refused with 12, and nothing is written
unfoldable pub report : Limits → (room : ℕ) → List ℕ → Report
report L room trace = cond (ltb room (report_room + line_room)) (record { stop = no_room; text = [] }) (report_of L trace)
