-- The value reader reads exactly the value lines.
-- Assumes nothing.
use Prim.Native.Nat.{ℕ, ◌+◌, ◌≤◌, ◌<◌}
use mathlib.Core.Path.{◌≡◌, refl, sym, ap, ◌∙◌, subst}
use mathlib.Core.Bool.{Bool, true, false, cond, true≢false}
use mathlib.Core.List.{List, [], ◌∷◌, ◌++◌}
use native.Mathlib.Omega.{arith}
use lib.ListN.{length, drop, length-append}
use lib.Dec.{eqb}
use borrow.Author.Tests.{eqb-true, eqb-false}
use Rattle.lists.specs.Every.{Every}
use Rattle.std.specs.Prelude.{Ok, Err}
use Rattle.text.specs.Reading.{Form, Begins, Means, Exact}
use Rattle.text.specs.Decimal.{line_feed, most_digits, Digit, with_digit, number_from, ValueText, Line, ValueLine}
use Rattle.text.specs.Value.{goes_on, scan, value_at}
use Rattle.text.specs.declared.Misread.TheVariants.{Wrong}
use Rattle.text.proofs.Reading.{means_same}
use Rattle.text.proofs.FirstByte.{none_at_end, never, means_cons}
use Rattle.text.proofs.Decimal.{number_up, feed_no_digit, line_apart, OneMore, goes_on_is, is_goes_on}

-- no line is empty
pub line_some : (F : Form ℕ) (v : ℕ) → Line F [] v → ⊥
line_some F v l = omega (arith, simp length-append at (ap length l.ended))

-- what is left of a value's text after n digits of the number acc
record Left (lim n acc : ℕ) (ds : List ℕ) (v : ℕ) : Type 0 where
  some : 0 < n + length ds
  most : n + length ds ≤ most_digits
  digits : Every Digit ds
  value : number_from acc ds ≡ v
  fits : v ≤ lim

-- a line that starts with x: one digit more, and the line that is left after it
module _ (lim n acc x : ℕ) where
  left_on : OneMore lim n acc x → (ds : List ℕ) (v : ℕ) → Left lim (n + 1) (with_digit acc x) ds v → Left lim n acc (x ∷ ds) v
  left_on o ds v l =
      record { some = omega arith; most = omega (arith, l.most); digits = (o.digit, l.digits); value = l.value; fits = l.fits }

  left_back : (ds : List ℕ) (v : ℕ) → Left lim n acc (x ∷ ds) v → OneMore lim n acc x × Left lim (n + 1) (with_digit acc x) ds v
  left_back ds v l =
      let up = number_up (with_digit acc x) ds in (
        record { room = omega (arith, l.most); digit = l.digits.0; fits = omega (arith, l.value, l.fits) },
        record { some = omega arith; most = omega (arith, l.most); digits = l.digits.1; value = l.value; fits = l.fits },
      )

  line_on : OneMore lim n acc x → (w : List ℕ) (v : ℕ) → Line (Left lim (n + 1) (with_digit acc x)) w v → Line (Left lim n acc) (x ∷ w) v
  line_on o w v l =
      record { text = x ∷ l.text; form = left_on o l.text v l.form; ended = ap (λ (k : List ℕ). x ∷ k) l.ended }

  line_back : (x ≡ line_feed → ⊥) → (w : List ℕ) (v : ℕ) → Line (Left lim n acc) (x ∷ w) v → OneMore lim n acc x × Line (Left lim (n + 1) (with_digit acc x)) w v
  line_back f w v l = go l.text l.form l.ended
    where
      go : (ds : List ℕ) → Left lim n acc ds v → x ∷ w ≡ ds ++ line_feed ∷ [] → OneMore lim n acc x × Line (Left lim (n + 1) (with_digit acc x)) w v
      go [] m q = absurd (f (cc))
      go (d ∷ ds) m q =
          let p : d ≡ x = cc in
          let b = left_back ds v (subst (λ (k : ℕ). Left lim n acc (k ∷ ds) v) p m) in
          (b.0, record { text = ds; form = b.1; ended = cc })

  -- a line feed wants a digit before it
  no_first_feed : x ≡ line_feed → n ≡ 0 → (w : List ℕ) (v : ℕ) → Line (Left lim n acc) (x ∷ w) v → ⊥
  no_first_feed f z w v l = go l.text l.form l.ended
    where
      go : (ds : List ℕ) → Left lim n acc ds v → x ∷ w ≡ ds ++ line_feed ∷ [] → ⊥
      go [] m q = omega (arith, m.some)
      go (d ∷ ds) m q = feed_no_digit d m.digits.0 (cc)

-- after a digit a line feed is enough, before the first a zero and a line feed

feed_line : (lim n acc : ℕ) → 0 < n → n ≤ most_digits → acc ≤ lim → Line (Left lim n acc) (line_feed ∷ []) acc
feed_line lim n acc some room ok =
    record { text = []; form = record { some = omega arith; most = omega arith; digits = tt; value = refl; fits = ok }; ended = refl }

zero_line : (lim n acc : ℕ) → n ≡ 0 → acc ≡ 0 → Line (Left lim n acc) (48 ∷ line_feed ∷ []) (with_digit acc 48)
zero_line lim n acc z y =
    record { text = 48 ∷ []; form = record { some = omega arith; most = omega arith; digits = ((omega arith, omega arith), tt); value = refl; fits = omega arith }; ended = refl }

scan_means : (lim n acc i : ℕ) (xs : List ℕ) → n ≤ most_digits → acc ≤ lim → (n ≡ 0 → acc ≡ 0)
    → Means (Line (Left lim n acc)) xs i (scan lim n acc i xs)
unfolding scan
scan_means lim n acc i [] room ok first = (none_at_end (Line (Left lim n acc)) (line_some (Left lim n acc)), go (eqb n 0) refl)
  where
    go : (b : Bool) → eqb n 0 ≡ b → Begins (Line (Left lim n acc)) []
    go true e = let z = eqb-true n 0 e in record { more = 48 ∷ line_feed ∷ []; says = with_digit acc 48; form = zero_line lim n acc z (first z) }
    go false e = let z = eqb-false n 0 e in record { more = line_feed ∷ []; says = acc; form = feed_line lim n acc (omega arith) room ok }
scan_means lim n acc i (x ∷ xs) room ok first =
    go (eqb x line_feed) refl (eqb n 0) refl (goes_on lim n acc x) refl (scan_means lim (n + 1) (with_digit acc x) (i + 1) xs)
  where
    go : (f : Bool) → eqb x line_feed ≡ f → (z : Bool) → eqb n 0 ≡ z → (g : Bool) → goes_on lim n acc x ≡ g
        → (n + 1 ≤ most_digits → with_digit acc x ≤ lim → (n + 1 ≡ 0 → with_digit acc x ≡ 0)
        → Means (Line (Left lim (n + 1) (with_digit acc x))) xs (i + 1) (scan lim (n + 1) (with_digit acc x) (i + 1) xs))
        → Means (Line (Left lim n acc)) (x ∷ xs) i (cond f (cond z (Err Wrong) (Ok (acc, i + 1))) (cond g (scan lim (n + 1) (with_digit acc x) (i + 1) xs) (Err Wrong)))
    go true f true z g e rec =
        never (Line (Left lim n acc)) x xs i (no_first_feed lim n acc x (eqb-true x line_feed f) (eqb-true n 0 z)) (line_some (Left lim n acc))
    go true f false z g e rec =
        let y = eqb-false n 0 z in
        (record { text = line_feed ∷ []; says = acc; rest = xs; form = feed_line lim n acc (omega arith) room ok; here = ap (λ (k : ℕ). k ∷ xs) (eqb-true x line_feed f) }, refl, refl)
    go false f z y true e rec =
        let o = goes_on_is lim n acc x e in
        means_cons (Line (Left lim n acc)) (Line (Left lim (n + 1) (with_digit acc x))) x (line_on lim n acc x o) (λ w v l. (line_back lim n acc x (eqb-false x line_feed f) w v l).1) (line_some (Left lim n acc))
        xs i (scan lim (n + 1) (with_digit acc x) (i + 1) xs)
        (rec (omega (arith, o.room)) o.fits (λ q. absurd (let no_such : ⊥ = omega arith in no_such)))
    go false f z y false e rec =
        never (Line (Left lim n acc)) x xs i (λ w v l. true≢false (sym (is_goes_on lim n acc x (line_back lim n acc x (eqb-false x line_feed f) w v l).0) ∙ e)) (line_some (Left lim n acc))

-- before the first digit all is left

left_all : (lim : ℕ) (w : List ℕ) (v : ℕ) → ValueLine lim w v → Line (Left lim 0 0) w v
left_all lim w v l =
    let t = l.form in
    record { text = l.text; form = record { some = omega (arith, t.some); most = omega (arith, t.most); digits = t.digits; value = t.value; fits = t.fits }; ended = l.ended }

all_left : (lim : ℕ) (w : List ℕ) (v : ℕ) → Line (Left lim 0 0) w v → ValueLine lim w v
all_left lim w v l =
    let t = l.form in
    record { text = l.text; form = record { some = omega (arith, t.some); most = omega (arith, t.most); digits = t.digits; value = t.value; fits = t.fits }; ended = l.ended }

pub value_exact : (lim : ℕ) → Exact (ValueLine lim) (value_at lim)
unfolding value_at
value_exact lim =
    record {
      apart = line_apart (ValueText lim) (λ ds v t. t.digits) (λ ds v t. t.value);
      means = λ s at.
          means_same (Line (Left lim 0 0)) (ValueLine lim) (left_all lim) (all_left lim) (drop at s) at (scan lim 0 0 at (drop at s))
          (scan_means lim 0 0 at (drop at s) (omega arith) (omega arith) (λ e. e));
    }

-- a value of one digit, which every limit allows
pub some_value : (lim : ℕ) → (w : List ℕ) × (v : ℕ) × ValueLine lim w v
some_value lim = (48 ∷ line_feed ∷ [], 0, all_left lim (48 ∷ line_feed ∷ []) 0 (zero_line lim 0 0 refl refl))
