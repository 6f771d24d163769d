-- Lines that are written can be told apart by their text.
-- Assumes nothing.
use Prim.Native.Nat.{ℕ, ◌^◌, ◌<◌}
use mathlib.Core.Path.{◌≡◌, refl, sym, ap, ◌∙◌}
use mathlib.Core.Bool.{false, not}
use mathlib.Core.List.{List, [], ◌∷◌, ◌++◌, append_assoc}
use native.Mathlib.Omega.{arith}
use lib.ListN.{length, get_or, length-append}
use lib.Dec.{eqb}
use borrow.Author.Tests.{eqb-true, eqb-false, not-true}
use Rattle.lists.specs.Every.{Every}
use Rattle.lists.specs.Search.{some_pass, first_place}
use Rattle.lists.proofs.Every.{below_at, every_map}
use Rattle.lists.proofs.Search.{none_of}
use Rattle.lists.proofs.Ended.{ended_apart}
use Rattle.rules.specs.Probes.{same_numbers}
use Rattle.text.specs.Decimal.{line_feed, most_digits, Digit, number}
use Rattle.text.specs.Digits.{digits}
use Rattle.text.specs.Keys.{key_words, key_text}
use Rattle.text.specs.Lines.{line_text}
use Rattle.text.proofs.Decimal.{feed_no_digit}
use Rattle.text.proofs.Digits.{digits_plain, digits_number}
use Rattle.writing.proofs.Lines.{line_length}
use Rattle.blocks.specs.Answers.{KeyValue, ◌is◌, lines_text}

-- a key's word ends with its sign, which is no letter of any word
abbrev sign : ℕ
sign = 61

abbrev word : ℕ → List ℕ
word code = get_or key_words code []

word_letters : (code : ℕ) → code < 10 → Every (λ x. x ≡ sign → ⊥) (word code)
word_letters code h =
    every_map (λ x. eqb x sign ≡ false) (λ x. x ≡ sign → ⊥) (λ x e. eqb-false x sign e) (word code)
    (none_of (λ x. eqb x sign) (word code) (not-true (some_pass (λ x. eqb x sign) (word code)) (below_at (λ i. not (some_pass (λ x. eqb x sign) (word i))) 10 refl code h)))

-- no two words are the same: each is found at its code
word_place : (code : ℕ) → code < 10 → first_place (same_numbers (word code)) key_words ≡ code
word_place code h =
    eqb-true (first_place (same_numbers (word code)) key_words) code (below_at (λ i. eqb (first_place (same_numbers (word i)) key_words) i) 10 refl code h)

-- a line that can be told apart: its key has a word, and its value a text
pub record Plain (l : KeyValue) : Type 0 where
  pub known : l.key < 10
  pub small : l.value < 10 ^ most_digits

two_parts : (w d rest : List ℕ) → ((w ++ sign ∷ []) ++ (d ++ line_feed ∷ [])) ++ rest ≡ w ++ sign ∷ (d ++ line_feed ∷ rest)
two_parts w d rest = simp append_assoc

line_parts : (code n : ℕ) (rest : List ℕ) → line_text code n ++ rest ≡ word code ++ sign ∷ (digits n ++ line_feed ∷ rest)
unfolding line_text key_text
line_parts code n rest = two_parts (word code) (digits n) rest

pub same_line : (l m : KeyValue) → l.key ≡ m.key → l.value ≡ m.value → l ≡ m
same_line l m k v = ap (λ (a : ℕ). a is l.value) k ∙ ap (λ (b : ℕ). m.key is b) v

-- the first line of a text
pub line_apart : (l m : KeyValue) → Plain l → Plain m → (rest left : List ℕ) → line_text l.key l.value ++ rest ≡ line_text m.key m.value ++ left
    → (l ≡ m) × (rest ≡ left)
line_apart l m p q rest left e =
    let a =
    ended_apart sign (word l.key) (word m.key) (digits l.value ++ line_feed ∷ rest) (digits m.value ++ line_feed ∷ left) (word_letters l.key p.known) (word_letters m.key q.known)
    (sym (line_parts l.key l.value rest) ∙ e ∙ line_parts m.key m.value left) in
    let b =
    ended_apart line_feed (digits l.value) (digits m.value) rest left (no_feed l.value p.small) (no_feed m.value q.small) a.1 in
    let k : l.key ≡ m.key =
    sym (word_place l.key p.known) ∙ ap (λ (w : List ℕ). first_place (same_numbers w) key_words) a.0 ∙ word_place m.key q.known in
    let v : l.value ≡ m.value = sym (digits_number l.value p.small) ∙ ap number b.0 ∙ digits_number m.value q.small in
    (same_line l m k v, b.1)
  where
    no_feed : (n : ℕ) → n < 10 ^ most_digits → Every (λ x. x ≡ line_feed → ⊥) (digits n)
    no_feed n h = every_map Digit (λ x. x ≡ line_feed → ⊥) feed_no_digit (digits n) (digits_plain n h).digits

-- as many lines of one text as of another
pub lines_begin : (ls ms : List KeyValue) → Every Plain ls → Every Plain ms → length ls ≡ length ms → (rest left : List ℕ) → lines_text ls ++ rest ≡ lines_text ms ++ left
    → (ls ≡ ms) × (rest ≡ left)
lines_begin [] [] p q n rest left e = (refl, e)
lines_begin [] (m ∷ ms) p q n rest left e = absurd (let y : ⊥ = omega arith in y)
lines_begin (l ∷ ls) [] p q n rest left e = absurd (let y : ⊥ = omega arith in y)
lines_begin (l ∷ ls) (m ∷ ms) p q n rest left e =
    let a =
    line_apart l m p.0 q.0 (lines_text ls ++ rest) (lines_text ms ++ left)
    (sym (append_assoc (line_text l.key l.value) (lines_text ls) rest) ∙ e ∙ append_assoc (line_text m.key m.value) (lines_text ms) left) in
    let b = lines_begin ls ms p.1 q.1 (omega arith) rest left a.1 in
    let x = a.0 in
    let y = b.0 in
    (cc, b.1)

-- all the lines of a text

no_line : (l : KeyValue) (rest : List ℕ) → [] ≡ line_text l.key l.value ++ rest → ⊥
no_line l rest e = omega (arith, ap length e, length-append (line_text l.key l.value) rest, line_length l.key l.value)

pub lines_apart : (ls ms : List KeyValue) → Every Plain ls → Every Plain ms → lines_text ls ≡ lines_text ms → ls ≡ ms
lines_apart [] [] p q e = refl
lines_apart [] (m ∷ ms) p q e = absurd (no_line m (lines_text ms) e)
lines_apart (l ∷ ls) [] p q e = absurd (no_line l (lines_text ls) (sym e))
lines_apart (l ∷ ls) (m ∷ ms) p q e =
    let a = line_apart l m p.0 q.0 (lines_text ls) (lines_text ms) e in
    let x = a.0 in
    let y = lines_apart ls ms p.1 q.1 a.1 in
    cc
