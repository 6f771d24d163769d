-- What a caller in C is handed: the run from an empty store without domain, its counts, and a name where there is room for any.
-- Assumes nothing.
use Rattle.std.specs.Prelude.{ℕ, ◌≡◌, cond, List, [], ◌∷◌, ltb, length, None}
use Rattle.rules.specs.Limits.{box}
use Rattle.rules.specs.Refusals.{name_of}
use Rattle.rules.specs.Table.{Store, empty_store}
use Rattle.writing.specs.Written.{over}
use Rattle.trace.specs.Run.{Ran, run_sound}
use Rattle.trace.specs.Report.{Report}

abbrev pub run_empty : (room : ℕ) → List ℕ → Ran Store
run_empty room trace = run_sound box room trace (empty_store None)

-- the blocks done, the bytes read and the bytes written
abbrev pub counts_of : Ran Store → List ℕ
counts_of r = r.done.blocks ∷ r.done.read ∷ length r.done.text ∷ []

-- the room that holds every name
abbrev pub name_room : ℕ
name_room = 12

unfoldable pub name_in : (room : ℕ) → ℕ → List ℕ
name_in room n = cond (ltb room name_room) [] (name_of n)

-- what a call answers, and what it leaves in the output that it was lent and beside it: a text at the start, every other byte as it was

abbrev pub Runs : Ran Store → ℕ → (lent left counts : List ℕ) → Type 0
Runs w r lent left counts = (r ≡ w.stop) × (left ≡ over w.done.text lent) × (counts ≡ counts_of w)

abbrev pub Reports : Report → ℕ → (lent left : List ℕ) → (written : ℕ) → Type 0
Reports w r lent left written = (r ≡ w.stop) × (left ≡ over w.text lent) × (written ≡ length w.text)

abbrev pub Names : List ℕ → ℕ → (lent left : List ℕ) → Type 0
Names w r lent left = (r ≡ length w) × (left ≡ over w lent)
