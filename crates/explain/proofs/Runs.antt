-- The run that is told, of a trace that is too long and of any other. It stops with the number that the report tells.
-- Assumes nothing.
use Rattle.std.specs.Prelude.{None}
use Prim.Native.Nat.{ℕ, ◌≤◌, ◌<◌}
use mathlib.Core.Path.{◌≡◌, refl}
use mathlib.Core.Bool.{cond}
use mathlib.Core.List.{List}
use lib.Dec.{ltb}
use lib.ListN.{length}
use borrow.Author.Tests.{lt-ltb, le-ltb}
use Rattle.lists.proofs.Bools.{either}
use Rattle.rules.specs.Limits.{Limits, box}
use Rattle.rules.specs.Refusals.{refusal_number}
use Rattle.rules.specs.Table.{empty_store}
use Rattle.rules.specs.Columns.{filled}
use Rattle.rules.specs.declared.Refusal.TheVariants.{Capacity}
use Rattle.rules.proofs.Columns.{used_filled}
use Rattle.rules.proofs.Called.{empty_columns_sound}
use Rattle.rules.proofs.TestedStore.{store_tested}
use Rattle.store.specs.Columns.{columns_of, store_of}
use Rattle.store.specs.declared.PublicationStore.{PublicationStore}
use Rattle.trace.specs.Run.{run, stopped, at_start, laid}
use Rattle.trace.specs.Report.{longest, report_room, stop_line, empty_run, told, report_of}
use Rattle.trace.specs.Embedding.{StoppedAs}
use Rattle.trace.specs.declared.Stop.TheVariants.{TooLong}
use Rattle.trace.specs.declared.Stopped.{Stopped}
use Rattle.explain.specs.Told.{told_run}

-- an explanation and the report tell the same number
pub same_stop : (L : Limits) (trace : List ℕ) → (told_run L trace).stop ≡ (report_of L trace).stop
unfolding told_run report_of
same_stop L trace =
    either
    (λ b.
    (cond b (stopped (refusal_number Capacity) (at_start (empty_store None))) (empty_run L trace)).stop
    ≡ (cond b (record { stop = refusal_number Capacity; text = stop_line (refusal_number Capacity) }) (told (empty_run L trace))).stop)
    refl refl (ltb longest (length trace))

module _ (trace : List ℕ) (store : PublicationStore) (e : store ≡ store_of (filled box (empty_store None))) where
  pub told_long : longest < length trace
      → StoppedAs (laid box (told_run box trace)) (record { store = store; stop = TooLong; blocks = 0; read = 0; written = 0 })
  unfolding told_run
  told_long h =
      rw (lt-ltb longest (length trace) h, e) (record { store = refl; stop = refl; blocks = refl; read = refl; written = refl })

  run_empty : run box report_room trace (columns_of store) ≡ laid box (empty_run box trace)
  unfolding run
  run_empty = rw (e, (store_tested box (filled box (empty_store None))).1 (empty_columns_sound box None), used_filled box (empty_store None) refl refl)

  pub told_ran : length trace ≤ longest → (r : Stopped) → StoppedAs (run box report_room trace (columns_of store)) r → StoppedAs (laid box (told_run box trace)) r
  unfolding told_run
  told_ran h r p = rw (le-ltb longest (length trace) h) (rw run_empty at p)
