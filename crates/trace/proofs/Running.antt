-- The run's loop: the answers so far stand in the output, the store is sound, and what is left to run decides.
-- Assumes nothing.
use Prim.Native.Nat.{ℕ, suc, ◌+◌, ◌-◌, ◌≤◌, ◌<◌}
use mathlib.Core.Path.{◌≡◌, refl, sym, ap, subst, ◌∙◌}
use mathlib.Core.Bool.{Bool, true, false}
use mathlib.Core.List.{List, [], ◌++◌}
use native.Mathlib.Omega.{arith}
use lib.ListN.{length, length-append}
use Rattle.rules.specs.Limits.{box}
use Rattle.rules.specs.Table.{Store}
use Rattle.rules.specs.Columns.{used, filled}
use Rattle.rules.specs.Sound.{StoreSound, StoreColumnsSound}
use Rattle.rules.specs.SoundTest.{store_test}
use Rattle.rules.specs.Rows.{step}
use Rattle.rules.specs.Responses.{respond}
use Rattle.rules.specs.declared.Command.{Command}
use Rattle.rules.proofs.Columns.{used_filled, filled_sound}
use Rattle.rules.proofs.KeepsStore.{step_sound}
use Rattle.store.specs.Columns.{columns_of, store_of}
use Rattle.store.specs.Answers.{applied_inside}
use Rattle.store.specs.declared.PublicationStore.{PublicationStore}
use Rattle.rules.specs.declared.Answered.{Answered}
use Rattle.rules.specs.declared.Response.{Response}
use Rattle.std.specs.Prelude.{Ok, Err}
use Rattle.blocks.specs.Blocks.{block_at}
use Rattle.blocks.specs.Answers.{answer_text}
use Rattle.text.specs.Reading.{Reading}
use Rattle.text.specs.declared.Misread.{Misread}
use Rattle.text.specs.declared.Misread.TheVariants.{Unfinished, Wrong}
use mathlib.Core.Logic.{◌⊎◌, ⊎_elim}
use Rattle.blocks.proofs.Blocks.{block_next}
use Rattle.blocks.proofs.Answers.{answer_fits}
use Rattle.writing.specs.Written.{over, over_from}
use Rattle.writing.proofs.Written.{over_after, over_length}
use Rattle.trace.specs.Run.{Progress, Ran, answer_room, stopped, run_from, run_sound, laid, run}
use Rattle.trace.specs.Stops.{NoBlock}
use Rattle.trace.specs.Embedding.{stop_number, ComesTo, Counts}
use Rattle.trace.specs.declared.Stop.{Stop}
use Rattle.trace.specs.declared.Stop.TheVariants.{End, BadTable, BadLine, NoRoom}
use Rattle.trace.specs.declared.Stopped.{Stopped}
use Rattle.trace.proofs.Counting.{over_counts}
use Rattle.trace.proofs.Stops.{within}
use Rattle.trace.proofs.Turns.{run_when, run_unless, Ready, ends, fills, breaks, goes_on, none_read}

-- the blocks so far
abbrev so_far : PublicationStore → ℕ → ℕ → List ℕ → Progress Store
so_far left blocks i text = record { table = used (columns_of left); blocks = blocks; read = i; text = text }

-- a block that is unfinished or wrong
pub none_of_both : (trace : List ℕ) (i : ℕ) (b : Reading Command) → b ≡ block_at trace i → (b ≡ Err Unfinished) ⊎ (b ≡ Err Wrong) → NoBlock trace i
none_of_both trace i b e t = ⊎_elim (λ p. none_read trace i Unfinished (sym e ∙ p)) (λ p. none_read trace i Wrong (sym e ∙ p)) t

-- left, blocks, i and at are the loop's locals; store and out₀ came in
pub record Running (trace out₀ : List ℕ) (room : ℕ) (store : PublicationStore) (out : List ℕ) (left : PublicationStore) (blocks i at : ℕ) : Type 0 where
  pub text : List ℕ
  pub rest : run_sound box room trace (used (columns_of store)) ≡ run_from box room trace (length trace - blocks) (so_far left blocks i text)
  pub sound : StoreColumnsSound box (columns_of left)
  pub passed : blocks ≤ i
  pub place : at ≡ length text
  pub fits : length text ≤ room
  pub room_fits : room ≤ length out₀
  pub here : out ≡ over text out₀
  pub long : length out ≡ length out₀

pub run_starts : (trace out : List ℕ) (room : ℕ) (store : PublicationStore) → StoreColumnsSound box (columns_of store) → room ≤ length out
    → Running trace out room store out store 0 0 0
unfolding run_sound
run_starts trace out room store s h =
    let z : length trace - 0 ≡ length trace = omega arith in
    record {
      text = [];
      rest = rw z;
      sound = s;
      passed = omega arith;
      place = refl;
      fits = omega arith;
      room_fits = h;
      here = refl;
      long = refl;
    }

module _ {trace out₀ : List ℕ} {room : ℕ} {store : PublicationStore} {out : List ℕ} {left : PublicationStore} {blocks i at : ℕ}
    (k : Running trace out₀ room store out left blocks i at) where
  abbrev whole : Ran Store
  whole = run_sound box room trace (used (columns_of store))

  abbrev g : Progress Store
  g = so_far left blocks i k.text

  -- a stop answers what the loop has
  abbrev StopsWith : Stop → Type 0
  StopsWith x = ComesTo (laid box whole) (record { store = left; stop = x; blocks = blocks; read = i; written = at }) out₀ out

  stops : (x : Stop) → whole ≡ stopped (stop_number x) g → StopsWith x
  stops x e =
      let l : left ≡ store_of (filled box (used (columns_of left))) = ap store_of (sym k.sound.s6) in
      subst (λ (r : Ran Store). ComesTo (laid box r) (record { store = left; stop = x; blocks = blocks; read = i; written = at }) out₀ out) (sym e)
      (record { store = l; stop = refl; blocks = refl; read = refl; written = k.place }, k.here)

  pub run_ends : length trace ≤ i → StopsWith End
  run_ends h = stops End (k.rest ∙ ends box room trace (length trace - blocks) g h)

  module _ (h : i < length trace) where
    -- the bound on the blocks after this one
    abbrev fewer : ℕ
    fewer = length trace - (blocks + 1)

    turns : whole ≡ run_from box room trace (suc fewer) g
    turns = let e : length trace - blocks ≡ suc fewer = omega (arith, k.passed) in rw e at k.rest

    pub run_fills : room - at < answer_room → StopsWith NoRoom
    run_fills l = stops NoRoom (turns ∙ fills box room trace fewer g h (omega (arith, k.place)))

    module _ (l : answer_room ≤ room - at) where
      ready : Ready box room trace g
      ready = record { more = h; spare = omega (arith, k.place) }

      pub run_breaks : (x : Misread) → block_at trace i ≡ Err x → StopsWith BadLine
      run_breaks x e = stops BadLine (turns ∙ breaks box room trace fewer g ready (none_read trace i x e))

      module _ (c : Command) (next : ℕ) (e : block_at trace i ≡ Ok (c, next)) where
        abbrev after : Store
        after = (step box (used (columns_of left)) c).table

        abbrev answer : List ℕ
        answer = answer_text (respond box (used (columns_of left)) c)

        after_sound : StoreSound box after
        after_sound = step_sound box (used (columns_of left)) c k.sound.in_use

        turned : (out' : List ℕ) (at' : ℕ) → at' ≡ at + length answer → out' ≡ over_from at answer out
            → Running trace out₀ room store out' (store_of (filled box after)) (blocks + 1) next at'
        turned out' at' p o =
            let n = length-append k.text answer in
            let m = answer_fits (respond box (used (columns_of left)) c) in
            let z : out' ≡ over (k.text ++ answer) out₀ = o ∙ rw (k.place, k.here) (over_after k.text answer out₀) in
            record {
              text = k.text ++ answer;
              rest =
                  turns ∙ goes_on box room trace fewer g ready c next e
                  ∙ rw (used_filled box after after_sound.s5.payload_each after_sound.s5.revision_each);
              sound = filled_sound box after after_sound;
              passed = omega (arith, (block_next trace i c next e).0);
              place = omega arith;
              fits = omega arith;
              room_fits = k.room_fits;
              here = z;
              long = ap length z ∙ over_length (k.text ++ answer) out₀ (omega arith);
            }

        pub run_goes_on : (a : Answered Response PublicationStore) → a ≡ applied_inside (used (columns_of left)) c
            → (out' : List ℕ) (at' : ℕ) → at' ≡ at + length (answer_text a.answer) → out' ≡ over_from at (answer_text a.answer) out
            → Running trace out₀ room store out' a.table (blocks + 1) next at'
        run_goes_on a q out' at' p o = rw q (turned out' at' (rw q at p) (rw q at o))

-- the test of the store goes first

module _ (room : ℕ) (trace out₀ : List ℕ) (store : PublicationStore) {b : Bool} (e : b ≡ store_test box (columns_of store)) where
  abbrev Met : Stopped → List ℕ → Type 0
  Met r out = ComesTo (run box room trace (columns_of store)) r out₀ out × Counts r.written out

  met : room ≤ length out₀ → (r : Stopped) (out : List ℕ) → ComesTo (run box room trace (columns_of store)) r out₀ out → Met r out
  met h r out t =
      let f = (within box room trace (columns_of store)).written in
      (t, rw t.0.written (over_counts (run box room trace (columns_of store)).done.text out₀ out t.1 (omega arith)))

  pub told_when : room ≤ length out₀ → b ≡ true → (r : Stopped) (out : List ℕ) → ComesTo (laid box (run_sound box room trace (used (columns_of store)))) r out₀ out
      → Met r out
  told_when h q r out t = met h r out (rw (run_when box room trace (columns_of store) e q) t)

  pub told_unless : room ≤ length out₀ → b ≡ false → Met (record { store = store; stop = BadTable; blocks = 0; read = 0; written = 0 }) out₀
  told_unless h q =
      met h (record { store = store; stop = BadTable; blocks = 0; read = 0; written = 0 }) out₀
      (rw (run_unless box room trace (columns_of store) e q) (record { store = refl; stop = refl; blocks = refl; read = refl; written = refl }, refl))
