-- What a run and a report come to, as the code's records.
-- Assumes nothing.
use Rattle.std.specs.Prelude.{ℕ, ◌≤◌, ◌≡◌, List, length, take}
use Rattle.rules.specs.Refusals.{refusal_number, bad_line, no_room}
use Rattle.rules.specs.declared.Refusal.TheVariants as R
use Rattle.rules.specs.Columns.{StoreColumns}
use Rattle.store.specs.Columns.{store_of}
use Rattle.writing.specs.Written.{over}
use Rattle.trace.specs.Run.{Ran}
use Rattle.trace.specs.Report.{Report}
use Rattle.trace.specs.declared.Stop.{Stop}
use Rattle.trace.specs.declared.Stop.TheVariants.{End, TooLong, BadTable, BadLine, NoRoom}
use Rattle.trace.specs.declared.Stopped.{Stopped}
use Rattle.trace.specs.declared.Reported.{Reported}

-- document 01's number of a stop: 0 at the end of the input, a refusal's own, or one that only stops a run
abbrev pub stop_number : Stop → ℕ
stop_number End = 0
stop_number TooLong = refusal_number R.Capacity
stop_number BadTable = refusal_number R.BadTable
stop_number BadLine = bad_line
stop_number NoRoom = no_room

-- a run's answer, field by field: the stop is the one of w's number
pub record StoppedAs (w : Ran StoreColumns) (r : Stopped) : Type 0 where
  pub store : r.store ≡ store_of w.done.table
  pub stop : stop_number r.stop ≡ w.stop
  pub blocks : r.blocks ≡ w.done.blocks
  pub read : r.read ≡ w.done.read
  pub written : r.written ≡ length w.done.text

-- a run answers r, and leaves in the output that it was lent its text at the start and every other byte as it was
abbrev pub ComesTo : Ran StoreColumns → Stopped → (lent left : List ℕ) → Type 0
ComesTo w r lent left = StoppedAs w r × (left ≡ over w.done.text lent)

-- the same of a report

pub record ReportedAs (w : Report) (r : Reported) : Type 0 where
  pub stop : stop_number r.stop ≡ w.stop
  pub written : r.written ≡ length w.text

abbrev pub Tells : Report → Reported → (lent left : List ℕ) → Type 0
Tells w r lent left = ReportedAs w r × (left ≡ over w.text lent)

-- n counts bytes at the start of xs: what a caller is asked who lends `&out[..n]`
abbrev pub Counts : ℕ → List ℕ → Type 0
Counts n xs = (n ≤ length xs) × (n ≡ length (take n xs))
