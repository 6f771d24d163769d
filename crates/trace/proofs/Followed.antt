-- Every run reads texts of commands and writes the answers that the rows give them; and a text is read as one list of commands only.
-- Assumes nothing.
use Prim.Native.Nat.{ℕ, ◌+◌, ◌≤◌}
use mathlib.Core.Path.{◌≡◌, refl, sym, ap, subst, ◌∙◌}
use mathlib.Core.List.{List, [], ◌∷◌, ◌++◌, append_assoc, append-nil}
use native.Mathlib.Omega.{arith}
use lib.ListN.{length, take, drop, length-append, take-append-drop}
use lib.Seq.{take-append_seam, drop-append_seam, length-take-le}
use Rattle.rules.specs.Limits.{Limits}
use Rattle.rules.specs.Table.{Store}
use Rattle.rules.specs.Rows.{step}
use Rattle.rules.specs.Responses.{respond}
use Rattle.rules.specs.declared.Command.{Command}
use Rattle.blocks.specs.Blocks.{BlockText, block_at}
use Rattle.blocks.specs.Answers.{answer_text, answers_text}
use Rattle.std.specs.Prelude.{Ok}
use Rattle.blocks.proofs.Blocks.{block_exact, block_shows, block_reads, block_next}
use Rattle.trace.specs.Run.{Progress, advanced, at_start, run_sound}
use Rattle.trace.specs.Followed.{Blocks, responses, after, Followed}
use Rattle.trace.proofs.Turns.{comes_to}

-- one command more

pub blocks_snoc : (cs : List Command) (w : List ℕ) (c : Command) (v : List ℕ) → Blocks cs w → BlockText v c → Blocks (cs ++ c ∷ []) (w ++ v)
blocks_snoc [] w c v e f = record { block = v; others = []; form = f; then = refl; text = rw (e, append-nil) }
blocks_snoc (d ∷ cs) w c v b f =
    record {
      block = b.block;
      others = b.others ++ v;
      form = b.form;
      then = blocks_snoc cs b.others c v b.then f;
      text = rw (b.text, append_assoc);
    }

after_snoc : (L : Limits) (s : Store) (cs : List Command) (c : Command) → after L s (cs ++ c ∷ []) ≡ (step L (after L s cs) c).table
after_snoc L s [] c = refl
after_snoc L s (d ∷ cs) c = after_snoc L (step L s d).table cs c

answers_snoc : (L : Limits) (s : Store) (cs : List Command) (c : Command)
    → answers_text (responses L s (cs ++ c ∷ [])) ≡ answers_text (responses L s cs) ++ answer_text (respond L (after L s cs) c)
answers_snoc L s [] c = append-nil (answer_text (respond L s c))
answers_snoc L s (d ∷ cs) c = rw (answers_snoc L (step L s d).table cs c, append_assoc)

-- a text that stands at a place is the next part of the trace
taken : (s : List ℕ) (at : ℕ) (w rest : List ℕ) → at ≤ length s → drop at s ≡ w ++ rest → take (at + length w) s ≡ take at s ++ w
taken s at w rest h e =
    let n : length (take at s ++ w) ≡ at + length w = omega (arith, length-append (take at s) w, length-take-le at s h) in
    let q : s ≡ (take at s ++ w) ++ rest = sym (take-append-drop at s) ∙ rw (e, append_assoc) in
    ap (λ (k : ℕ). take k s) (sym n) ∙ ap (take (length (take at s ++ w))) q ∙ take-append_seam (take at s ++ w) rest

module _ (L : Limits) (room : ℕ) (trace : List ℕ) (s : Store) where
  one_more : (g : Progress Store) → Followed L trace s g × (g.read ≤ length trace) → (c : Command) (next : ℕ) → block_at trace g.read ≡ Ok (c, next)
      → Followed L trace s (advanced L g c next) × (next ≤ length trace)
  one_more g p c next e =
      let f = p.0 in
      let m = block_shows trace g.read (Ok (c, next)) e in
      let t = m.0 in
      let b : BlockText t.text c = subst (BlockText t.text) m.1 t.form in
      let r : take next trace ≡ take g.read trace ++ t.text = ap (λ (k : ℕ). take k trace) (sym m.2) ∙ taken trace g.read t.text t.rest p.1 t.here in (
        record {
          commands = f.commands ++ c ∷ [];
          reads = subst (Blocks (f.commands ++ c ∷ [])) (sym r) (blocks_snoc f.commands (take g.read trace) c t.text f.reads b);
          writes = rw (f.writes, f.leaves) (sym (answers_snoc L s f.commands c));
          leaves = rw f.leaves (sym (after_snoc L s f.commands c));
          counts = omega (arith, f.counts, length-append f.commands (c ∷ []));
        },
        (block_next trace g.read c next e).1,
      )

  pub followed : Followed L trace s (run_sound L room trace s).done
  unfolding run_sound
  followed =
      comes_to L room trace (λ g. Followed L trace s g × (g.read ≤ length trace)) (λ r. Followed L trace s r.done)
      (λ g p h. p.0)
      (λ g p h l. p.0)
      (λ g p k none. p.0)
      (λ g p k c next e. one_more g p c next e)
      (length trace)
      (at_start s)
      (omega arith)
      (record { commands = []; reads = refl; writes = refl; leaves = refl; counts = refl }, omega arith)

-- no text is empty

none_empty : (c : Command) (w rest : List ℕ) → BlockText w c → [] ≡ w ++ rest → ⊥
none_empty c w rest f e = omega (arith, block_next [] 0 c (0 + length w) (block_reads [] 0 w rest c f e))

-- so what is read is one list of commands
pub blocks_one : (cs ds : List Command) (w : List ℕ) → Blocks cs w → Blocks ds w → cs ≡ ds
blocks_one [] [] w p q = refl
blocks_one [] (d ∷ ds) w p q = absurd (none_empty d q.block q.others q.form (sym p ∙ q.text))
blocks_one (c ∷ cs) [] w p q = absurd (none_empty c p.block p.others p.form (sym q ∙ p.text))
blocks_one (c ∷ cs) (d ∷ ds) w p q =
    let a = block_exact.apart p.block q.block c d p.others q.others p.form q.form (sym p.text ∙ q.text) in
    let o : p.others ≡ q.others =
    sym (drop-append_seam p.block p.others) ∙ ap (drop (length p.block)) (sym p.text ∙ q.text)
    ∙ ap (λ (b : List ℕ). drop (length b) (q.block ++ q.others)) a.0
    ∙ drop-append_seam q.block q.others in
    let t : cs ≡ ds = blocks_one cs ds q.others (subst (Blocks cs) o p.then) q.then in
    rw (a.1, t)
