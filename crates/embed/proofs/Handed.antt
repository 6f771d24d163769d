-- From what the inner calls ensure to what a caller in C is handed.
-- Assumes nothing.
use Rattle.std.specs.Prelude.{None}
use Prim.Native.Nat.{ℕ, ◌≤◌, ◌<◌}
use mathlib.Core.Path.{◌≡◌, refl, sym, ◌∙◌}
use mathlib.Core.List.{List, [], ◌∷◌}
use lib.ListN.{length}
use borrow.Author.Tests.{lt-ltb, le-ltb}
use Rattle.rules.specs.Limits.{box}
use Rattle.rules.specs.Refusals.{name_of}
use Rattle.rules.specs.Table.{empty_store}
use Rattle.rules.specs.Columns.{filled}
use Rattle.rules.proofs.Columns.{used_filled}
use Rattle.rules.proofs.Called.{empty_columns_sound}
use Rattle.rules.proofs.TestedStore.{store_tested}
use Rattle.store.specs.Columns.{columns_of, store_of}
use Rattle.store.specs.declared.PublicationStore.{PublicationStore}
use Rattle.writing.specs.Written.{over}
use Rattle.trace.specs.Run.{run, laid}
use Rattle.trace.specs.Embedding.{stop_number, ComesTo}
use Rattle.trace.specs.declared.Stopped.{Stopped}
use Rattle.trace.proofs.Turns.{run_when}
use Rattle.embed.specs.Handed.{run_empty, counts_of, name_room, name_in}

module _ (trace out₀ : List ℕ) (store : PublicationStore) (e : store ≡ store_of (filled box (empty_store None))) where
  -- the empty store is sound, so it is run
  empty_ran : run box (length out₀) trace (columns_of store) ≡ laid box (run_empty (length out₀) trace)
  empty_ran =
      rw e
      (run_when box (length out₀) trace (filled box (empty_store None)) (sym ((store_tested box (filled box (empty_store None))).1 (empty_columns_sound box None))) refl
      ∙ rw (used_filled box (empty_store None) refl refl))

  pub run_handed : (r : Stopped) (out : List ℕ)
      → ComesTo (run box (length out₀) trace (columns_of store)) r out₀ out
      → (n : ℕ) → n ≡ stop_number r.stop
      → (n ≡ (run_empty (length out₀) trace).stop)
      × (out ≡ over (run_empty (length out₀) trace).done.text out₀)
      × (r.blocks ∷ r.read ∷ r.written ∷ [] ≡ counts_of (run_empty (length out₀) trace))
  run_handed r out p n e =
      let q = rw empty_ran at p in
      (e ∙ q.0.stop, q.1, rw (q.0.blocks, q.0.read, q.0.written) refl)

-- a name, in a room that holds every name and in any other

pub name_fits : (room n : ℕ) → name_room ≤ room → name_in room n ≡ name_of n
unfolding name_in
name_fits room n h = rw (le-ltb room name_room h)

pub name_kept_out : (room n : ℕ) → room < name_room → name_in room n ≡ []
unfolding name_in
name_kept_out room n h = rw (lt-ltb room name_room h)
