-- The run, turn by turn: what stops it, one block more, and what holds after all turns.
-- Assumes nothing.
use Prim.Native.Nat.{ℕ, zero, suc, ◌+◌, ◌-◌, ◌≤◌, ◌<◌}
use mathlib.Core.Path.{◌≡◌, refl, sym, ◌∙◌}
use mathlib.Core.Bool.{Bool, true, false}
use mathlib.Core.List.{List}
use mathlib.Core.Logic.{◌⊎◌, inl, inr, ⊎_elim}
use native.Mathlib.Omega.{arith}
use lib.Dec.{leb}
use lib.ListN.{length}
use borrow.Author.Tests.{leb-true, leb-false, le-leb, lt-leb, lt-ltb, le-ltb}
use Rattle.lists.proofs.Bools.{true_or_false}
use Rattle.rules.specs.Limits.{Limits}
use Rattle.rules.specs.Refusals.{bad_line, no_room}
use Rattle.rules.specs.Table.{Store}
use Rattle.rules.specs.Columns.{StoreColumns, used}
use Rattle.rules.specs.SoundTest.{store_test}
use Rattle.rules.specs.declared.Command.{Command}
use Rattle.std.specs.Prelude.{Ok, Err}
use Rattle.text.specs.Reading.{Reading}
use Rattle.blocks.specs.Blocks.{block_at}
use Rattle.text.specs.declared.Misread.{Misread}
use Rattle.blocks.proofs.Blocks.{block_next}
use Rattle.trace.specs.Run.{Progress, Ran, answer_room, stopped, advanced, on_block, run_from, at_start, run_sound, laid, run}
use Rattle.trace.specs.Stops.{NoBlock}

-- where nothing is read, no block stands
pub none_read : (trace : List ℕ) (i : ℕ) (x : Misread) → block_at trace i ≡ Err x → NoBlock trace i
none_read trace i x e c next q = let z : ◌≡◌ {A = ℕ} 0 1 = cc in omega arith

pub reaches : (a b : ℕ) → (a ≤ b) ⊎ (b < a)
reaches a b = ⊎_elim (λ e. inl (leb-true a b e)) (λ e. inr (leb-false a b e)) (true_or_false (leb a b))

module _ (L : Limits) (room : ℕ) (trace : List ℕ) where
  -- the test of the table goes first

  module _ (t : StoreColumns) {b : Bool} (e : b ≡ store_test L t) where
    pub run_when : b ≡ true → run L room trace t ≡ laid L (run_sound L room trace (used t))
    unfolding run
    run_when q = rw (sym e ∙ q)

    pub run_unless : b ≡ false → run L room trace t ≡ stopped 9 (at_start t)
    unfolding run
    run_unless q = rw (sym e ∙ q)

  -- one turn

  pub ends : (n : ℕ) (g : Progress Store) → length trace ≤ g.read → run_from L room trace n g ≡ stopped 0 g
  unfolding run_from
  ends zero g h = refl
  ends (suc n) g h = rw (le-leb (length trace) g.read h)

  pub fills : (n : ℕ) (g : Progress Store) → g.read < length trace → room - length g.text < answer_room
      → run_from L room trace (suc n) g ≡ stopped no_room g
  unfolding run_from
  fills n g h l = rw (lt-leb (length trace) g.read h, lt-ltb (room - length g.text) answer_room l)

  -- there is more to read, and room to answer it
  pub record Ready (g : Progress Store) : Type 0 where
    pub more : g.read < length trace
    pub spare : answer_room ≤ room - length g.text

  module _ (n : ℕ) (g : Progress Store) (k : Ready g) where
    turn : run_from L room trace (suc n) g
        ≡ on_block (block_at trace g.read) (λ c next. run_from L room trace n (advanced L g c next)) (stopped bad_line g)
    unfolding run_from
    turn = rw (lt-leb (length trace) g.read k.more, le-ltb (room - length g.text) answer_room k.spare)

    pub breaks : NoBlock trace g.read → run_from L room trace (suc n) g ≡ stopped bad_line g
    breaks f = turn ∙ halts (block_at trace g.read) f
      where
        halts : (b : Reading Command) → ((c : Command) (next : ℕ) → b ≡ Ok (c, next) → ⊥)
            → on_block b (λ c next. run_from L room trace n (advanced L g c next)) (stopped bad_line g) ≡ stopped bad_line g
        halts (Err x) f = refl
        halts (Ok (c, next)) f = absurd (f c next refl)

    pub goes_on : (c : Command) (next : ℕ) → block_at trace g.read ≡ Ok (c, next)
        → run_from L room trace (suc n) g ≡ run_from L room trace n (advanced L g c next)
    goes_on c next e = turn ∙ rw e

  -- all turns: what each block keeps holds where the run stops, and the stop shows what the run comes to
  module _ (P : Progress Store → Type 0) (Q : Ran Store → Type 0)
      (at_end : (g : Progress Store) → P g → length trace ≤ g.read → Q (stopped 0 g))
      (when-full : (g : Progress Store) → P g → g.read < length trace → room - length g.text < answer_room → Q (stopped no_room g))
      (when-broken : (g : Progress Store) → P g → Ready g → NoBlock trace g.read → Q (stopped bad_line g))
      (at_block : (g : Progress Store) → P g → Ready g → (c : Command) (next : ℕ) → block_at trace g.read ≡ Ok (c, next) → P (advanced L g c next)) where
    one_turn : (n : ℕ) (g : Progress Store) → P g
        → ((c : Command) (next : ℕ) → block_at trace g.read ≡ Ok (c, next) → P (advanced L g c next) → Q (run_from L room trace n (advanced L g c next)))
        → Q (run_from L room trace (suc n) g)
    one_turn n g p later =
        ⊎_elim
        (λ h. rw (ends (suc n) g h) (at_end g p h))
        (λ h.
        ⊎_elim
        (λ l. ready (record { more = h; spare = l }) (block_at trace g.read) refl)
        (λ l. rw (fills n g h l) (when-full g p h l))
        (reaches answer_room (room - length g.text)))
        (reaches (length trace) g.read)
      where
        broken : Ready g → NoBlock trace g.read → Q (run_from L room trace (suc n) g)
        broken k f = rw (breaks n g k f) (when-broken g p k f)

        ready : Ready g → (b : Reading Command) → block_at trace g.read ≡ b → Q (run_from L room trace (suc n) g)
        ready k (Err x) e = broken k (none_read trace g.read x e)
        ready k (Ok (c, next)) e = rw (goes_on n g k c next e) (later c next e (at_block g p k c next e))

    pub comes_to : (n : ℕ) (g : Progress Store) → length trace ≤ g.read + n → P g → Q (run_from L room trace n g)
    comes_to zero g b p = rw (ends zero g (omega arith)) (at_end g p (omega arith))
    comes_to (suc n) g b p = one_turn n g p (λ c next e. comes_to n (advanced L g c next) (omega (arith, (block_next trace g.read c next e).0)))
