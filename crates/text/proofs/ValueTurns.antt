-- One turn of the value reader, at a place of the input.
-- Assumes nothing.
use Prim.Native.Nat.{ℕ, ◌+◌, ◌≤◌, ◌<◌}
use mathlib.Core.Path.{◌≡◌, sym, ◌∙◌}
use mathlib.Core.Bool.{false, false≢true}
use mathlib.Core.List.{List}
use native.Mathlib.Omega.{arith}
use native.Mathlib.Numerals.{add-one}
use lib.ListN.{length, drop, get_or, drop_of_length-le}
use lib.Seq.{drop-cons}
use borrow.Author.Tests.{eq-eqb, ne_eqb}
use Rattle.lists.proofs.Bools.{same_test}
use Rattle.std.specs.Prelude.{Ok, Err}
use Rattle.text.specs.Decimal.{line_feed, most_digits, with_digit}
use Rattle.text.specs.Value.{goes_on, scan, value_at}
use Rattle.text.proofs.Decimal.{OneMore, goes_on_is, is_goes_on}
use Rattle.text.specs.declared.Misread.TheVariants.{Unfinished, Wrong}

-- n digits of the number acc are passed, and the rest, from the place i on, decides
pub record Scanned (lim : ℕ) (s : List ℕ) (at i n acc : ℕ) : Type 0 where
  pub same : value_at lim s at ≡ scan lim n acc i (drop i s)
  pub most : n ≤ most_digits
  pub fits : acc ≤ lim

pub scan_starts : (lim : ℕ) (s : List ℕ) (at n : ℕ) → n ≡ 0 → Scanned lim s at at n 0
unfolding value_at
scan_starts lim s at n z = record { same = rw z; most = omega arith; fits = omega arith }

module _ {lim : ℕ} {s : List ℕ} {at i n acc : ℕ} (k : Scanned lim s at i n acc) where
  pub scan_ends : length s ≤ i → Err Unfinished ≡ value_at lim s at
  unfolding scan
  scan_ends h = sym (k.same ∙ rw (drop_of_length-le s {i = i} h))

  module _ (h : i < length s) where
    pub scan_feed_first : get_or s i 0 ≡ line_feed → n ≡ 0 → Err Wrong ≡ value_at lim s at
    unfolding scan
    scan_feed_first x z = sym (k.same ∙ rw (drop-cons s i 0 h, eq-eqb (get_or s i 0) line_feed x, eq-eqb n 0 z))

    pub scan_feed : get_or s i 0 ≡ line_feed → (n ≡ 0 → ⊥) → Ok (acc, i + 1) ≡ value_at lim s at
    unfolding scan
    scan_feed x z = sym (k.same ∙ rw (drop-cons s i 0 h, eq-eqb (get_or s i 0) line_feed x, ne_eqb n 0 z))

    module _ (x : get_or s i 0 ≡ line_feed → ⊥) where
      -- no digit, or one too many, or one that makes the number too large
      pub scan_stops : (OneMore lim n acc (get_or s i 0) → ⊥) → Err Wrong ≡ value_at lim s at
      unfolding scan
      scan_stops fail = sym (k.same ∙ rw (drop-cons s i 0 h, ne_eqb (get_or s i 0) line_feed x, stopped))
        where
          stopped : goes_on lim n acc (get_or s i 0) ≡ false
          stopped = same_test (goes_on lim n acc (get_or s i 0)) false (λ e. absurd (fail (goes_on_is lim n acc (get_or s i 0) e))) (λ e. absurd (false≢true e))

      pub scan_goes_on : OneMore lim n acc (get_or s i 0) → (more next : ℕ) → more ≡ n + 1 → next ≡ with_digit acc (get_or s i 0) → Scanned lim s at (i + 1) more next
      unfolding scan
      scan_goes_on o more next m e =
          record {
            same = k.same ∙ rw (drop-cons s i 0 h, ne_eqb (get_or s i 0) line_feed x, is_goes_on lim n acc (get_or s i 0) o, add-one i, m, e);
            most = omega (arith, o.room);
            fits = omega (arith, o.fits);
          }
