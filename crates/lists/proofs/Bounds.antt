-- Laws of bounds that are compared by what is left of them.
-- Assumes nothing.
use Prim.Native.Nat.{ℕ, ◌+◌, ◌-◌, ◌≤◌, ◌<◌}
use mathlib.Core.Path.{◌≡◌}
use mathlib.Core.Bool.{true, false}
use native.Mathlib.Omega.{arith}
use borrow.Author.Tests.{le-leb, lt-leb}
use lib.Dec.{leb}

-- a sum is within a bound where what is left of the bound is enough
module _ (a n top : ℕ) (h : a ≤ top) where
  pub sum_over : top - a < n → leb (a + n) top ≡ false
  sum_over k = lt-leb (a + n) top (omega arith)

  pub sum_within : n ≤ top - a → leb (a + n) top ≡ true
  sum_within k = le-leb (a + n) top (omega arith)
