-- The answer's writer, line by line.
-- Assumes nothing.
use Prim.Native.Nat.{ℕ, ◌+◌, ◌≤◌}
use mathlib.Core.Path.{◌≡◌, refl, sym, ap, ◌∙◌}
use mathlib.Core.List.{List, [], ◌∷◌, ◌++◌, append_assoc, append-nil}
use native.Mathlib.Omega.{arith}
use lib.ListN.{length, length-append}
use lib.Dec.{leb}
use borrow.Author.Tests.{le-leb, leb-true}
use Rattle.lists.specs.Every.{implies}
use Rattle.lists.proofs.Bools.{implied}
use Rattle.lists.proofs.Every.{below_at}
use Rattle.rules.specs.declared.Response.{Response}
use Rattle.text.specs.Keys.{answer, key_text}
use Rattle.text.specs.Lines.{line_text}
use Rattle.writing.specs.Written.{over, over_from}
use Rattle.writing.proofs.Lines.{line_most}
use Rattle.writing.proofs.Written.{over_after}
use Rattle.blocks.specs.Answers.{KeyValue, ◌is◌, answer_lines, lines_text, answer_text}
use Rattle.blocks.proofs.Answers.{answer_line}

pub lines_append : (ls ms : List KeyValue) → lines_text (ls ++ ms) ≡ lines_text ls ++ lines_text ms
lines_append [] ms = refl
lines_append (l ∷ ls) ms =
    ap (λ (w : List ℕ). line_text l.key l.value ++ w) (lines_append ls ms) ∙ sym (append_assoc (line_text l.key l.value) (lines_text ls) (lines_text ms))

-- these lines are written at the start of out, which makes xs of it, and they are n bytes long
abbrev pub Written : List KeyValue → List ℕ → ℕ → List ℕ → Type 0
Written ls out n xs = (n ≡ length (lines_text ls)) × (xs ≡ over (lines_text ls) out)

pub next_line : (ls : List KeyValue) (k v at next : ℕ) (out xs ys : List ℕ) → Written ls out at xs
    → (next ≡ at + length (line_text k v)) × (ys ≡ over_from at (line_text k v) xs) → Written (ls ++ (k is v) ∷ []) out next ys
next_line ls k v at next out xs ys p q =
    let e : lines_text (ls ++ (k is v) ∷ []) ≡ lines_text ls ++ line_text k v =
    lines_append ls ((k is v) ∷ []) ∙ ap (λ (w : List ℕ). lines_text ls ++ w) (append-nil (line_text k v)) in (
      omega (arith, p.0, q.0, ap length e, length-append (lines_text ls) (line_text k v)),
      rw (e, q.1, p.0, p.1) (over_after (lines_text ls) (line_text k v) out),
    )

pub value_length : (k v : ℕ) → length (lines_text ((answer is 0) ∷ (k is v) ∷ [])) ≡ 9 + length (line_text k v)
value_length k v = simp length-append (omega (arith, answer_line))

-- the key of an answer's line is at most nine letters and signs long
key_most : (k : ℕ) → 4 ≤ k → k ≤ 9 → length (key_text k) ≤ 9
unfolding key_text
key_most k h l =
    let e = below_at (λ i. implies (leb 4 i) (leb (length (key_text i)) 9)) 10 refl k (omega arith) in
    leb-true (length (key_text k)) 9 (implied (leb 4 k) (leb (length (key_text k)) 9) e (le-leb 4 k h))

pub value_room : (k v room : ℕ) → 4 ≤ k → k ≤ 9 → 96 ≤ room → (4 ≤ k) × (k ≤ 9) × (length (lines_text ((answer is 0) ∷ (k is v) ∷ [])) ≤ room)
value_room k v room h l r = (h, l, omega (arith, value_length k v, line_most k v, key_most k h l))

-- the lines of the response are written, so its text is
module _ (r k : Response) (e : r ≡ k) (n : ℕ) (out xs : List ℕ) where
  pub answered : Written (answer_lines k) out n xs → (n ≡ length (answer_text r)) × (xs ≡ over (answer_text r) out)
  unfolding answer_text
  answered p = rw e p
