-- What holds of each number below another, told one by one.
-- Assumes nothing.
use Prim.Native.Nat.{ℕ, zero, suc, ◌<◌}
use native.Mathlib.Nat.{not-suc-le-zero, le_of_suc-le-suc}

abbrev pub EachBelow : ℕ → (ℕ → Type 0) → Type 0
EachBelow zero P = Unit {0}
EachBelow (suc n) P = P 0 × EachBelow n (λ k. P (suc k))

pub each_at : (P : ℕ → Type 0) (n : ℕ) → EachBelow n P → (k : ℕ) → k < n → P k
each_at P zero h k l = absurd (not-suc-le-zero l)
each_at P (suc n) h zero l = h.0
each_at P (suc n) h (suc k) l = each_at (λ k. P (suc k)) n h.1 k (le_of_suc-le-suc l)
