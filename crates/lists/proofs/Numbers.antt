-- Laws of numbers that are none of the first ones.
-- Assumes nothing.
use Prim.Native.Nat.{ℕ, zero, suc, ◌≤◌}
use mathlib.Core.Path.{◌≡◌}
use native.Mathlib.Omega.{arith}

abbrev pub NoneBelow : ℕ → ℕ → Type 0
NoneBelow zero n = Unit {0}
NoneBelow (suc k) n = NoneBelow k n × (n ≡ k → ⊥)

pub none_below : (k n : ℕ) → NoneBelow k n → k ≤ n
none_below zero n h = omega arith
none_below (suc k) n h =
    let l = none_below k n h.0 in
    let m = h.1 in
    omega arith
