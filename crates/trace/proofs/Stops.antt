-- Every run of every trace says why it stopped, and keeps within what it was handed.
-- Assumes nothing.
use Prim.Native.Nat.{ℕ, ◌≤◌}
use mathlib.Core.Path.{◌≡◌, refl}
use mathlib.Core.Bool.{true}
use mathlib.Core.List.{List}
use mathlib.Core.Logic.{⊎_elim}
use native.Mathlib.Omega.{arith}
use lib.ListN.{length, length-append}
use Rattle.lists.proofs.Bools.{true_or_false}
use Rattle.rules.specs.Limits.{Limits}
use Rattle.rules.specs.Table.{Store}
use Rattle.rules.specs.Columns.{StoreColumns, used}
use Rattle.rules.specs.SoundTest.{store_test}
use Rattle.rules.specs.Responses.{respond}
use Rattle.rules.specs.Refusals.{bad_line, no_room}
use Rattle.blocks.specs.Answers.{answer_text}
use Rattle.blocks.proofs.Blocks.{block_next}
use Rattle.blocks.proofs.Answers.{answer_fits}
use Rattle.trace.specs.Run.{stopped, at_start, run_sound, laid, run}
use Rattle.trace.specs.Stops.{Why, damaged, ended, full, broken, Within}
use Rattle.trace.proofs.Turns.{run_when, run_unless, comes_to}

module _ (L : Limits) (room : ℕ) (trace : List ℕ) (t : StoreColumns) where
  why_sound : store_test L t ≡ true → Why L room trace t (laid L (run_sound L room trace (used t)))
  unfolding run_sound
  why_sound e =
      comes_to L room trace (λ g. g.read ≤ length trace) (λ r. Why L room trace t (laid L r))
      (λ g p h. ended e refl (omega arith))
      (λ g p h l. full e refl h l)
      (λ g p k none. broken e refl k.more k.spare none)
      (λ g p k c next q. (block_next trace g.read c next q).1)
      (length trace)
      (at_start (used t))
      (omega arith)
      (omega arith)

  pub why : Why L room trace t (run L room trace t)
  why =
      ⊎_elim
      (λ e. rw (run_when L room trace t refl e) (why_sound e))
      (λ e. damaged e (run_unless L room trace t refl e))
      (true_or_false (store_test L t))

  -- a run without the test of its table
  pub within_sound : (s : Store) → Within L room trace t (laid L (run_sound L room trace s))
  unfolding run_sound
  within_sound s =
      comes_to L room trace (λ g. (n : ℕ) → Within L room trace t (laid L (stopped n g))) (λ r. Within L room trace t (laid L r))
      (λ g p h. p 0)
      (λ g p h l. p no_room)
      (λ g p k none. p bad_line)
      (λ g p k c next q n.
      let b = block_next trace g.read c next q in
      let w = p 0 in
      record {
        read = b.1;
        blocks = omega arith;
        written = omega (arith, k.spare, answer_fits (respond L g.table c), length-append g.text (answer_text (respond L g.table c)));
      })
      (length trace)
      (at_start s)
      (omega arith)
      (λ n. record { read = omega arith; blocks = omega arith; written = omega arith })

  pub within : Within L room trace t (run L room trace t)
  within =
      ⊎_elim
      (λ e. rw (run_when L room trace t refl e) (within_sound (used t)))
      (λ e. rw (run_unless L room trace t refl e) (record { read = omega arith; blocks = omega arith; written = omega arith }))
      (true_or_false (store_test L t))
