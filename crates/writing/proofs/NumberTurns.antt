-- The number's writer: one digit, and the last digit after the others.
-- Assumes nothing.
use Prim.Native.Nat.{ℕ, ◌+◌, ◌/◌, ◌%◌, ◌^◌, ◌≤◌, ◌<◌}
use mathlib.Core.Path.{◌≡◌, sym, ap, ◌∙◌}
use mathlib.Core.List.{List, [], ◌∷◌}
use native.Mathlib.Omega.{arith}
use lib.ListN.{length, set, length-append}
use Rattle.text.specs.Decimal.{most_digits}
use Rattle.text.specs.Digits.{digits}
use Rattle.writing.specs.Written.{over}
use Rattle.text.proofs.Digits.{digits_small, digits_more}
use Rattle.writing.proofs.Written.{over_one, over_snoc}

pub only_digit : (n : ℕ) (out : List ℕ) → n < 10 → length (digits n) ≤ length out
    → (◌≡◌ {A = ℕ} 1 (length (digits n))) × (set out 0 (48 + n % 10) ≡ over (digits n) out)
only_digit n out h room =
    let e = digits_small n h in
    let m : n % 10 ≡ n = omega arith in
    (sym (ap length e), rw (e, m) (over_one (48 + n) out (omega (arith, ap length e))))

module _ (n : ℕ) (h : 10 ≤ n) (b : n < 10 ^ most_digits) where
  pub length-more : length (digits n) ≡ length (digits (n / 10)) + 1
  length-more = ap length (digits_more n h b) ∙ length-append (digits (n / 10)) ((48 + n % 10) ∷ [])

  pub last_digit : (k : ℕ) (out xs : List ℕ) → length (digits n) ≤ length out → (k ≡ length (digits (n / 10))) × (xs ≡ over (digits (n / 10)) out)
      → (k + 1 ≡ length (digits n)) × (set xs k (48 + n % 10) ≡ over (digits n) out)
  last_digit k out xs room p =
      let l = length-more in
      (omega (arith, p.0), rw (digits_more n h b, p.0, p.1) (over_snoc (digits (n / 10)) out (48 + n % 10) (omega arith)))
