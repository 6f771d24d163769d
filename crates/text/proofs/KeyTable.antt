-- The key table: eleven rows, five wide.
-- Assumes nothing.
use Prim.Native.Nat.{ℕ, ◌≤◌, ◌<◌}
use mathlib.Core.Path.{◌≡◌, refl, sym}
use mathlib.Core.Bool.{true}
use mathlib.Core.List.{[]}
use native.Mathlib.Omega.{arith}
use lib.ListN.{length, get_or, get_or-eq_default}
use lib.Dec.{eqb}
use borrow.Author.Tests.{eqb-true}
use Rattle.lists.specs.Every.{each_below}
use Rattle.lists.proofs.Every.{below_at}
use Rattle.text.specs.Keys.{key_rows, key_code}

-- every row is five wide
five_wide : each_below 11 (λ row. eqb (length (get_or key_rows row [])) 5) ≡ true
five_wide = refl

pub key_beyond_rows : (row k : ℕ) → 11 ≤ row → 0 ≡ key_code row k
unfolding key_code
key_beyond_rows row k h = rw (get_or-eq_default key_rows [] {n = row} h)

pub key_beyond : (row k : ℕ) → row < 11 → 5 ≤ k → 0 ≡ key_code row k
unfolding key_code
key_beyond row k h l =
    let e = eqb-true (length (get_or key_rows row [])) 5 (below_at (λ row. eqb (length (get_or key_rows row [])) 5) 11 five_wide row h) in
    sym (get_or-eq_default (get_or key_rows row []) 0 {n = k} (omega arith))

pub key_at : (row k : ℕ) → get_or (get_or key_rows row []) k 0 ≡ key_code row k
unfolding key_code
key_at row k = refl
