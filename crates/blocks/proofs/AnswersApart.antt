-- Answers can be told apart by their text: answers to one command, and any answers one after the other.
-- Assumes nothing.
use Prim.Native.Nat.{ℕ, ◌≤◌, ◌<◌}
use mathlib.Core.Path.{◌≡◌, refl, sym, ap, ◌∙◌}
use mathlib.Core.Bool.{Bool}
use mathlib.Core.List.{List, [], ◌∷◌, ◌++◌, map, append_assoc}
use native.Mathlib.Omega.{arith}
use lib.ListN.{length}
use lib.Dec.{eqb}
use Rattle.lists.specs.Every.{Every}
use Rattle.lists.proofs.Every.{every_mapped}
use Rattle.lists.proofs.Groups.{joined, every_joined, Group, groups_apart}
use Rattle.rules.specs.Refusals.{refusal_number}
use Rattle.rules.specs.Answers.{refused, done, answer_number}
use Rattle.rules.specs.Commands.{Result, Offered, AnswerTo, answer_values}
use Rattle.rules.specs.Responses.{refusal_of, result_of, response_of, response_number, response_values}
use Rattle.rules.specs.declared.Refusal.{Refusal}
use Rattle.rules.specs.declared.Refusal.TheVariants.{Unknown, Revoked, Conflict, Relied, Visible, Released, Capacity, InvalidState, BadTable, Absent}
use Rattle.rules.specs.declared.Response.{Response}
use Rattle.rules.specs.declared.Response.TheVariants as R
use Rattle.rules.specs.declared.Command.{Command}
use Rattle.rules.specs.declared.Command.TheVariants.{Publish, Adopt, Acquire, Release, Revoke, Replace, Reclaim, Read, Observe, Resolve, Count}
use Rattle.rules.proofs.Responses.{same_number, same_values, no_refusal}
use Rattle.text.specs.Keys.{answer, id, lease, payload, revision, count, wide}
use Rattle.text.specs.Lines.{line_text}
use Rattle.blocks.specs.Answers.{KeyValue, ◌is◌, value_lines, answer_lines, lines_text, answer_text, answers_text}
use Rattle.blocks.proofs.Answers.{lines_say}
use Rattle.blocks.proofs.AnswerTurns.{lines_append}
use Rattle.blocks.proofs.LinesApart.{Plain, same_line, line_apart, lines_begin, lines_apart}

-- a response whose values fit 64 bits
abbrev pub Wide : Response → Type 0
Wide r = Every (λ v. v ≤ wide) (response_values r)

refusal_most : (r : Refusal) → refusal_number r ≤ 10
refusal_most Unknown = omega arith
refusal_most Revoked = omega arith
refusal_most Conflict = omega arith
refusal_most Relied = omega arith
refusal_most Visible = omega arith
refusal_most Released = omega arith
refusal_most Capacity = omega arith
refusal_most InvalidState = omega arith
refusal_most BadTable = omega arith
refusal_most Absent = omega arith

-- such a response's lines can be told apart

plain : (k v : ℕ) → k < 10 → v ≤ wide → Plain (k is v)
plain k v h l = record { known = h; small = omega arith }

answer_plain : (r : Response) → Wide r → Every Plain (answer_lines r)
answer_plain (R.Refused e) h = (plain answer (refusal_number e) (omega arith) (omega (arith, refusal_most e)), tt)
answer_plain (R.Returned e v) h = (plain answer (refusal_number e) (omega arith) (omega (arith, refusal_most e)), tt)
answer_plain R.Done h = (plain answer 0 (omega arith) (omega arith), tt)
answer_plain (R.Id p) h = (plain answer 0 (omega arith) (omega arith), (plain id p.0 (omega arith) h.0, tt))
answer_plain (R.Lease i) h = (plain answer 0 (omega arith) (omega arith), (plain lease i.0 (omega arith) h.0, tt))
answer_plain (R.Handle v) h = (plain answer 0 (omega arith) (omega arith), (plain payload v (omega arith) h.0, tt))
answer_plain (R.Read x) h = (plain answer 0 (omega arith) (omega arith), (plain id x.id.0 (omega arith) h.0, (plain revision x.revision (omega arith) h.1.0, (plain payload x.handle (omega arith) h.1.1.0, tt))))
answer_plain (R.Observed x) h = (plain answer 0 (omega arith) (omega arith), (plain revision x.revision (omega arith) h.0, (plain payload x.handle (omega arith) h.1.0, tt)))
answer_plain (R.Count n) h = (plain answer 0 (omega arith) (omega arith), (plain count n (omega arith) h.0, tt))

-- two responses with the same text say the same

lines_values : (r q : Response) → answer_lines r ≡ answer_lines q → (response_number r ≡ response_number q) × (response_values r ≡ response_values q)
lines_values r q e =
    let v = sym (lines_say r) ∙ ap (map (λ l. l.value)) e ∙ lines_say q in
    (cc, cc)

pub answer_says : (r q : Response) → Wide r → Wide q → answer_text r ≡ answer_text q
    → (response_number r ≡ response_number q) × (response_values r ≡ response_values q)
unfolding answer_text
answer_says r q h k e = lines_values r q (lines_apart (answer_lines r) (answer_lines q) (answer_plain r h) (answer_plain q k) e)

-- and the text is made of number, keys and values alone

same_lines : (ls ms : List KeyValue) → map (λ l. l.key) ls ≡ map (λ l. l.key) ms → map (λ l. l.value) ls ≡ map (λ l. l.value) ms → ls ≡ ms
same_lines [] [] k v = refl
same_lines [] (m ∷ ms) k v = absurd (let z : ◌≡◌ {A = ℕ} 0 1 = cc in let y : ⊥ = omega arith in y)
same_lines (l ∷ ls) [] k v = absurd (let z : ◌≡◌ {A = ℕ} 0 1 = cc in let y : ⊥ = omega arith in y)
same_lines (l ∷ ls) (m ∷ ms) k v =
    let a = same_line l m (cc) (cc) in
    let b = same_lines ls ms (cc) (cc) in
    cc

pub answer_same : (r q : Response) → response_number r ≡ response_number q → map (λ l. l.key) (value_lines r) ≡ map (λ l. l.key) (value_lines q)
    → response_values r ≡ response_values q → answer_text r ≡ answer_text q
unfolding answer_text
answer_same r q n k v =
    ap lines_text (same_lines (answer_lines r) (answer_lines q) (ap (λ (ks : List ℕ). answer ∷ ks) k) (lines_say r ∙ both ∙ sym (lines_say q)))
  where
    both : response_number r ∷ response_values r ≡ response_number q ∷ response_values q
    both = cc

-- a line that starts an answer
abbrev starts : KeyValue → Bool
starts l = eqb l.key answer

answer_group : (r : Response) → Group starts (answer_lines r)
answer_group (R.Refused e) = (refl, tt)
answer_group (R.Returned e v) = (refl, tt)
answer_group R.Done = (refl, tt)
answer_group (R.Id p) = (refl, (refl, tt))
answer_group (R.Lease i) = (refl, (refl, tt))
answer_group (R.Handle v) = (refl, (refl, tt))
answer_group (R.Read x) = (refl, (refl, (refl, (refl, tt))))
answer_group (R.Observed x) = (refl, (refl, (refl, tt)))
answer_group (R.Count n) = (refl, (refl, tt))

answers_lines : (rs : List Response) → answers_text rs ≡ lines_text (joined (map answer_lines rs))
unfolding answer_text
answers_lines [] = refl
answers_lines (r ∷ rs) =
    ap (λ (w : List ℕ). lines_text (answer_lines r) ++ w) (answers_lines rs) ∙ sym (lines_append (answer_lines r) (joined (map answer_lines rs)))

-- answers one after the other: the lines of each can be told from those of the next
pub answers_apart : (rs qs : List Response) → Every Wide rs → Every Wide qs → answers_text rs ≡ answers_text qs → map answer_lines rs ≡ map answer_lines qs
answers_apart rs qs h k e =
    groups_apart starts (map answer_lines rs) (map answer_lines qs) (every_mapped (Group starts) Wide answer_lines (λ r w. answer_group r) rs h) (every_mapped (Group starts) Wide answer_lines (λ r w. answer_group r) qs k)
    (lines_apart (joined (map answer_lines rs)) (joined (map answer_lines qs)) (every_joined Plain (map answer_lines rs) (every_mapped (Every Plain) Wide answer_lines answer_plain rs h))
    (every_joined Plain (map answer_lines qs) (every_mapped (Every Plain) Wide answer_lines answer_plain qs k)) (sym (answers_lines rs) ∙ e ∙ answers_lines qs))

-- so answers with the same text have the same numbers and values
pub answers_say : (rs qs : List Response) → Every Wide rs → Every Wide qs → answers_text rs ≡ answers_text qs
    → (map response_number rs ≡ map response_number qs) × (map response_values rs ≡ map response_values qs)
answers_say rs qs h k e = go rs qs (answers_apart rs qs h k e)
  where
    go : (rs qs : List Response) → map answer_lines rs ≡ map answer_lines qs → (map response_number rs ≡ map response_number qs) × (map response_values rs ≡ map response_values qs)
    go [] [] e = (refl, refl)
    go [] (q ∷ qs) e = absurd (let z : ◌≡◌ {A = ℕ} 0 1 = cc in let y : ⊥ = omega arith in y)
    go (r ∷ rs) [] e = absurd (let z : ◌≡◌ {A = ℕ} 0 1 = cc in let y : ⊥ = omega arith in y)
    go (r ∷ rs) (q ∷ qs) e =
        let f : answer_lines r ≡ answer_lines q = cc in
        let g : map answer_lines rs ≡ map answer_lines qs = cc in
        let v = lines_values r q f in
        let w = go rs qs g in
        let a = v.0 in
        let b = v.1 in
        let c = w.0 in
        let d = w.1 in
        (cc, cc)

-- one command's answers: none begins another, so what comes after it can be told too

refusal_lines : (c : Command) (r : Refusal) (o : Offered c) → answer_lines (refusal_of c r o) ≡ (answer is refusal_number r) ∷ []
refusal_lines (Publish o g q v) r b = refl
refusal_lines (Adopt p o g) r b = refl
refusal_lines (Acquire p o g) r b = refl
refusal_lines (Release i) r b = refl
refusal_lines (Revoke p) r b = refl
refusal_lines (Replace p o g v) r b = refl
refusal_lines (Reclaim p) r b = refl
refusal_lines (Read i) r b = refl
refusal_lines (Observe p) r b = refl
refusal_lines (Resolve q) r b = refl
refusal_lines Count r b = refl

result_lines : (c : Command) (x y : Result c) → length (answer_lines (result_of c x)) ≡ length (answer_lines (result_of c y))
result_lines (Publish o g q v) x y = refl
result_lines (Adopt p o g) x y = refl
result_lines (Acquire p o g) x y = refl
result_lines (Release i) x y = refl
result_lines (Revoke p) x y = refl
result_lines (Replace p o g v) x y = refl
result_lines (Reclaim p) x y = refl
result_lines (Read i) x y = refl
result_lines (Observe p) x y = refl
result_lines (Resolve q) x y = refl
result_lines Count x y = refl

as_many : (c : Command) (a b : AnswerTo c) → answer_number a ≡ answer_number b → length (answer_lines (response_of c a)) ≡ length (answer_lines (response_of c b))
as_many c (refused r x) (refused s y) e = ap length (refusal_lines c r x) ∙ sym (ap length (refusal_lines c s y))
as_many c (refused r x) (done y) e = absurd (no_refusal r e)
as_many c (done x) (refused s y) e = absurd (no_refusal s (sym e))
as_many c (done x) (done y) e = result_lines c x y

pub answer_apart : (c : Command) (a b : AnswerTo c) → Wide (response_of c a) → Wide (response_of c b) → (rest left : List ℕ)
    → answer_text (response_of c a) ++ rest ≡ answer_text (response_of c b) ++ left
    → (answer_number a ≡ answer_number b) × (answer_values c a ≡ answer_values c b) × (rest ≡ left)
unfolding answer_text
answer_apart c a b h k rest left e =
    let r = response_of c a in
    let q = response_of c b in
    let p = answer_plain r h in
    let o = answer_plain q k in
    let f =
    line_apart (answer is response_number r) (answer is response_number q) p.0 o.0 (lines_text (value_lines r) ++ rest) (lines_text (value_lines q) ++ left)
    (sym (append_assoc (line_text answer (response_number r)) (lines_text (value_lines r)) rest) ∙ e ∙ append_assoc (line_text answer (response_number q)) (lines_text (value_lines q)) left) in
    let n : answer_number a ≡ answer_number b = sym (same_number c a) ∙ ap (λ (l : KeyValue). l.value) f.0 ∙ same_number c b in
    let g = lines_begin (answer_lines r) (answer_lines q) p o (as_many c a b n) rest left e in
    (n, sym (same_values c a) ∙ (lines_values r q g.0).1 ∙ same_values c b, g.1)
