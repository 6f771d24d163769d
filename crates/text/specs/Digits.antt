-- A number as decimal digits with no leading zeros.
-- Assumes nothing.
use Rattle.std.specs.Prelude.{ℕ, zero, suc, ◌+◌, ◌/◌, ◌%◌, cond, List, [], ◌∷◌, ◌++◌, ltb}
use Rattle.text.specs.Decimal.{most_digits}

-- in at most k digits
unfoldable pub digits_in : ℕ → ℕ → List ℕ
digits_in zero n = []
digits_in (suc k) n = cond (ltb n 10) ((48 + n) ∷ []) (digits_in k (n / 10) ++ (48 + n % 10) ∷ [])

-- twenty hold every number of 64 bits
unfoldable pub digits : ℕ → List ℕ
digits n = digits_in most_digits n
