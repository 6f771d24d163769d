-- Laws of digits and lines.
-- Assumes nothing.
use Prim.Native.Nat.{ℕ, ◌≤◌, ◌<◌}
use mathlib.Core.Path.{◌≡◌, refl, sym, ap, ◌∙◌}
use mathlib.Core.Bool.{true}
use mathlib.Core.List.{List, [], ◌∷◌, ◌++◌, append_assoc}
use native.Mathlib.Omega.{arith}
use native.Mathlib.Nat.{le_refl, le_trans}
use lib.Dec.{ltb, leb}
use borrow.Author.Tests.{ltb-true, leb-true, lt-ltb, le-leb}
use Rattle.lists.specs.Every.{Every}
use Rattle.lists.proofs.Every.{parts, whole}
use Rattle.text.specs.Reading.{Form, Apart}
use Rattle.text.specs.Decimal.{line_feed, most_digits, Digit, with_digit, number_from, number, Line}
use Rattle.text.specs.Value.{goes_on}

-- a number only grows as its digits go on
pub number_up : (acc : ℕ) (ds : List ℕ) → acc ≤ number_from acc ds
number_up acc [] = le_refl acc
number_up acc (x ∷ xs) = le_trans (omega arith) (number_up (with_digit acc x) xs)

pub number_snoc : (acc : ℕ) (ds : List ℕ) (x : ℕ) → number_from acc (ds ++ x ∷ []) ≡ with_digit (number_from acc ds) x
number_snoc acc [] x = refl
number_snoc acc (d ∷ ds) x = number_snoc (with_digit acc d) ds x

-- the line feed is no digit
pub feed_no_digit : (x : ℕ) → Digit x → x ≡ line_feed → ⊥
feed_no_digit x d e = omega (arith, d.0)

-- so it ends the digits
pub digits_end : (ds es rest left : List ℕ) → Every Digit ds → Every Digit es → ds ++ line_feed ∷ rest ≡ es ++ line_feed ∷ left → ds ≡ es
digits_end [] [] rest left p q e = refl
digits_end [] (y ∷ es) rest left p q e = absurd (feed_no_digit y q.0 (cc))
digits_end (x ∷ ds) [] rest left p q e = absurd (feed_no_digit x p.0 (cc))
digits_end (x ∷ ds) (y ∷ es) rest left p q e =
    let h : x ≡ y = cc in
    let t : ds ++ line_feed ∷ rest ≡ es ++ line_feed ∷ left = cc in
    let r = digits_end ds es rest left p.1 q.1 t in
    cc

pub line_apart : (F : Form ℕ) → ((ds : List ℕ) (v : ℕ) → F ds v → Every Digit ds) → ((ds : List ℕ) (v : ℕ) → F ds v → number ds ≡ v) → Apart (Line F)
line_apart F are says w v a b rest left f g e =
    let d = f.text in
    let c = g.text in
    let p : d ++ line_feed ∷ rest ≡ c ++ line_feed ∷ left =
    sym (append_assoc d (line_feed ∷ []) rest) ∙ ap (λ (l : List ℕ). l ++ rest) (sym f.ended) ∙ e ∙ ap (λ (l : List ℕ). l ++ left) g.ended ∙ append_assoc c (line_feed ∷ []) left in
    let q : d ≡ c = digits_end d c rest left (are d a f.form) (are c b g.form) p in (
      f.ended ∙ ap (λ (l : List ℕ). l ++ line_feed ∷ []) q ∙ sym g.ended,
      sym (says d a f.form) ∙ ap number q ∙ says c b g.form,
    )

-- what the test of one digit more says

pub record OneMore (lim n acc x : ℕ) : Type 0 where
  pub room : n < most_digits
  pub digit : Digit x
  pub fits : with_digit acc x ≤ lim

module _ (lim n acc x : ℕ) where
  pub goes_on_is : goes_on lim n acc x ≡ true → OneMore lim n acc x
  goes_on_is e =
      let p = parts (ltb n most_digits ∷ leb 48 x ∷ leb x 57 ∷ leb (with_digit acc x) lim ∷ []) e in
      record {
        room = ltb-true n most_digits p.0;
        digit = (leb-true 48 x p.1.0, leb-true x 57 p.1.1.0);
        fits = leb-true (with_digit acc x) lim p.1.1.1.0;
      }

  pub is_goes_on : OneMore lim n acc x → goes_on lim n acc x ≡ true
  is_goes_on o =
      whole (ltb n most_digits ∷ leb 48 x ∷ leb x 57 ∷ leb (with_digit acc x) lim ∷ [])
      (lt-ltb n most_digits o.room, (le-leb 48 x o.digit.0, (le-leb x 57 o.digit.1, (le-leb (with_digit acc x) lim o.fits, tt))))
