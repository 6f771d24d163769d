-- Laws of a number's digits: they are a value's text of that number, with no zero in front of it.
-- Assumes nothing.
use Prim.Native.Nat.{ℕ, zero, suc, ◌+◌, ◌*◌, ◌/◌, ◌%◌, ◌^◌, ◌≤◌, ◌<◌}
use mathlib.Core.Path.{◌≡◌, refl, sym, ap, ◌∙◌}
use mathlib.Core.Bool.{Bool, true, false, cond}
use mathlib.Core.List.{List, [], ◌∷◌, ◌++◌}
use native.Mathlib.Omega.{arith}
use native.Mathlib.Nat.{pow-suc}
use lib.Dec.{ltb}
use lib.ListN.{length, get_or, length-append, get_or-append}
use borrow.Author.Tests.{ltb-true, ltb-false, lt-ltb, le-ltb}
use Rattle.lists.specs.Every.{Every}
use Rattle.lists.proofs.Every.{every_snoc}
use Rattle.text.specs.Decimal.{most_digits, Digit, number, ValueText}
use Rattle.text.specs.Digits.{digits_in, digits}
use Rattle.text.proofs.Decimal.{number_snoc}

-- the digits of n, k at most
pub record Plain (k n : ℕ) (ds : List ℕ) : Type 0 where
  pub some : 0 < length ds
  pub most : length ds ≤ k
  pub digits : Every Digit ds
  pub value : number ds ≡ n
  pub first : 0 < n → get_or ds 0 0 ≡ 48 → ⊥

one_digit : (k n : ℕ) → n < 10 → Plain (suc k) n ((48 + n) ∷ [])
one_digit k n h =
    record { some = omega arith; most = omega arith; digits = ((omega arith, omega arith), tt); value = omega arith; first = λ p e. omega arith }

one_more : (k n : ℕ) (ds : List ℕ) → 10 ≤ n → Plain k (n / 10) ds → Plain (suc k) n (ds ++ (48 + n % 10) ∷ [])
one_more k n ds h p =
    let l = length-append ds ((48 + n % 10) ∷ []) in
    let s = number_snoc 0 ds (48 + n % 10) in
    record {
      some = omega arith;
      most = omega (arith, p.most);
      digits = every_snoc Digit ds (48 + n % 10) p.digits (omega arith, omega arith);
      value = omega (arith, p.value);
      first = λ z e. p.first (omega arith) (sym (get_or-append ds ((48 + n % 10) ∷ []) 0 0 p.some) ∙ e);
    }

digits_in_plain : (k n : ℕ) → n < 10 ^ suc k → Plain (suc k) n (digits_in (suc k) n)
unfolding digits_in
digits_in_plain zero n h = rw (lt-ltb n 10 h) (one_digit zero n h)
digits_in_plain (suc k) n h = go (ltb n 10) refl (digits_in_plain k (n / 10))
  where
    go : (b : Bool) → ltb n 10 ≡ b → (n / 10 < 10 ^ suc k → Plain (suc k) (n / 10) (digits_in (suc k) (n / 10)))
        → Plain (suc (suc k)) n (cond b ((48 + n) ∷ []) (digits_in (suc k) (n / 10) ++ (48 + n % 10) ∷ []))
    go true e rec = one_digit (suc k) n (ltb-true n 10 e)
    go false e rec =
        let q : n < 10 ^ suc k * 10 = rw (← pow-suc) h in
        one_more (suc k) n (digits_in (suc k) (n / 10)) (ltb-false n 10 e) (rec (omega arith))

-- twenty digits are enough for every number below 10 to the 20th, so for those of 64 bits
pub digits_plain : (n : ℕ) → n < 10 ^ most_digits → Plain most_digits n (digits n)
unfolding digits
digits_plain n h = digits_in_plain 19 n h

pub digits_number : (n : ℕ) → n < 10 ^ most_digits → number (digits n) ≡ n
digits_number n h = (digits_plain n h).value

-- what is written is a value's text: it can be read
pub digits_value : (lim n : ℕ) → n ≤ lim → n < 10 ^ most_digits → ValueText lim (digits n) n
digits_value lim n f h =
    let p = digits_plain n h in
    record { some = p.some; most = p.most; digits = p.digits; value = p.value; fits = f }

-- no zero stands in front
pub digits_first : (n : ℕ) → n < 10 ^ most_digits → 0 < n → get_or (digits n) 0 0 ≡ 48 → ⊥
digits_first n h = (digits_plain n h).first

-- never more than twenty

in_most : (k n : ℕ) → length (digits_in k n) ≤ k
unfolding digits_in
in_most zero n = omega arith
in_most (suc k) n = go (ltb n 10) (in_most k (n / 10))
  where
    go : (b : Bool) → length (digits_in k (n / 10)) ≤ k → length (cond b ((48 + n) ∷ []) (digits_in k (n / 10) ++ (48 + n % 10) ∷ [])) ≤ suc k
    go true h = omega arith
    go false h = omega (arith, length-append (digits_in k (n / 10)) ((48 + n % 10) ∷ []))

pub digits_most : (n : ℕ) → length (digits n) ≤ most_digits
unfolding digits
digits_most n = in_most most_digits n

-- the number's last digit stands after those of its tenth

pub digits_small : (n : ℕ) → n < 10 → digits n ≡ (48 + n) ∷ []
unfolding digits digits_in
digits_small n h = rw (lt-ltb n 10 h)

digits_fuel : (k n : ℕ) → n < 10 ^ suc k → digits_in (suc k) n ≡ digits_in (suc (suc k)) n
unfolding digits_in
digits_fuel zero n h = rw (lt-ltb n 10 h)
digits_fuel (suc k) n h =
    let q : n < 10 ^ suc k * 10 = rw (← pow-suc) h in
    ap (λ (l : List ℕ). cond (ltb n 10) ((48 + n) ∷ []) (l ++ (48 + n % 10) ∷ [])) (digits_fuel k (n / 10) (omega arith))

pub digits_more : (n : ℕ) → 10 ≤ n → n < 10 ^ most_digits → digits n ≡ digits (n / 10) ++ (48 + n % 10) ∷ []
unfolding digits digits_in
digits_more n h b =
    rw (le-ltb n 10 h) (ap (λ (l : List ℕ). l ++ (48 + n % 10) ∷ []) (digits_fuel 18 (n / 10) (omega arith)))
