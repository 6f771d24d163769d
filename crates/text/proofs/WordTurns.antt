-- One turn of the word reader, at a place of the input.
-- Assumes nothing.
use Prim.Native.Nat.{ℕ, suc, ◌+◌, ◌-◌, ◌≤◌, ◌<◌}
use mathlib.Core.Path.{◌≡◌, sym, ap, ◌∙◌}
use mathlib.Core.List.{List}
use native.Mathlib.Omega.{arith}
use native.Mathlib.Numerals.{add-one}
use lib.ListN.{length, drop, get_or, drop_of_length-le, length-drop, length-append}
use lib.Seq.{drop-cons}
use borrow.Author.Tests.{eq-eqb, ne_eqb}
use Rattle.std.specs.Prelude.{Ok, Err}
use Rattle.text.specs.Words.{TheWord, Found, compared, word_at, word_reading}
use Rattle.text.proofs.Reading.{shows}
use Rattle.text.proofs.Words.{word_exact}
use Rattle.text.specs.declared.Misread.TheVariants.{Unfinished, Wrong}

-- j bytes of the word are passed, and the rest decides; the bytes that were passed stand within the input
pub record Compared (w s : List ℕ) (at j : ℕ) : Type 0 where
  pub same : word_at w s at ≡ compared (drop j w) (drop (at + j) s)
  pub inside : j ≤ length s - at

pub compare_starts : (w s : List ℕ) (at : ℕ) → Compared w s at 0
unfolding word_at
compare_starts w s at = let z : at + 0 ≡ at = omega arith in record { same = rw z; inside = omega arith }

module _ {w s : List ℕ} {at j : ℕ} (k : Compared w s at j) where
  pub compare_is : length w ≤ j → Ok tt ≡ word_at w s at
  unfolding compared
  compare_is h = sym (k.same ∙ rw (drop_of_length-le w {i = j} h))

  module _ (h : j < length w) where
    pub compare_ends : length s ≤ at + j → Err Unfinished ≡ word_at w s at
    unfolding compared
    compare_ends l = sym (k.same ∙ rw (drop-cons w j 0 h, drop_of_length-le s {i = at + j} l))

    pub compare_stops : at + j < length s → (get_or s (at + j) 0 ≡ get_or w j 0 → ⊥) → Err Wrong ≡ word_at w s at
    unfolding compared
    compare_stops l e = sym (k.same ∙ rw (drop-cons w j 0 h, drop-cons s (at + j) 0 l, ne_eqb (get_or w j 0) (get_or s (at + j) 0) (λ q. e (sym q))))

    pub compare_goes_on : at + j < length s → get_or s (at + j) 0 ≡ get_or w j 0 → Compared w s at (j + 1)
    unfolding compared
    compare_goes_on l e =
        let z : suc (at + j) ≡ at + suc j = omega arith in
        record {
          same = k.same ∙ rw (drop-cons w j 0 h, drop-cons s (at + j) 0 l, eq-eqb (get_or w j 0) (get_or s (at + j) 0) (sym e), add-one j, z);
          inside = omega arith;
        }

-- a word that stands there is no longer than the rest of the input
pub word_fits : (w s : List ℕ) (at : ℕ) (r : Found) → r ≡ word_at w s at → r ≡ Ok tt → length w ≤ length s - at
word_fits w s at r e q =
    let m = shows (TheWord w) (λ s at. word_reading w at (word_at w s at)) (word_exact w) s at (Ok (tt, at + length w)) (ap (word_reading w at) (sym e ∙ q)) in
    let t = m.0 in
    let l = ap length t.here ∙ length-append t.text t.rest in
    let n = ap length t.form in
    omega (arith, length-drop at s)
