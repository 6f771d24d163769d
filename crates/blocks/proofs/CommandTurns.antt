-- A port's value fits 32 bits.
-- Assumes nothing.
use Prim.Native.Nat.{ℕ, zero, suc, ◌≤◌, ◌<◌}
use mathlib.Core.Path.{◌≡◌, ap, subst}
use mathlib.Core.List.{List, [], ◌∷◌}
use native.Mathlib.Omega.{arith}
use native.Mathlib.Nat.{not-suc-le-zero, le_of_suc-le-suc}
use lib.ListN.{length, get_or}
use Rattle.text.specs.Keys.{port, key_limit}
use Rattle.blocks.specs.Fields.{Fitting}
use Rattle.blocks.specs.Blocks.{keys_of}

fitting_at : (codes vs : List ℕ) → Fitting codes vs → (j : ℕ) → j < length codes → get_or vs j 0 ≤ key_limit (get_or codes j 0)
fitting_at [] vs f j h = absurd (not-suc-le-zero h)
fitting_at (c ∷ cs) [] f j h = absurd f
fitting_at (c ∷ cs) (v ∷ vs) f zero h = f.0
fitting_at (c ∷ cs) (v ∷ vs) f (suc j) h = fitting_at cs vs f.1 j (le_of_suc-le-suc h)

pub port_fits : (row k : ℕ) (v : List ℕ) (j : ℕ) → row ≡ k → Fitting (keys_of row) v → j < length (keys_of k) → get_or (keys_of k) j 0 ≡ port → get_or v j 0 ≤ 4294967295
unfolding key_limit
port_fits row k v j e f h q =
    omega (arith, fitting_at (keys_of k) v (subst (λ (row : ℕ). Fitting (keys_of row) v) e f) j h, ap key_limit q)
