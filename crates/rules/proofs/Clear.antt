-- A list of tests that stops nothing: none of its conditions holds.
-- Assumes nothing.
use Prim.Native.Nat.{ℕ}
use mathlib.Core.Path.{◌≡◌, refl, sym}
use mathlib.Core.Bool.{Bool, true, false, true≢false}
use mathlib.Core.List.{List, [], ◌∷◌}
use native.Mathlib.Omega.{arith}
use Rattle.rules.specs.Answers.{Test, ◌⇒◌, pass, stop, verdict}
use Rattle.rules.specs.declared.Refusal.{Refusal}

abbrev pub Clear : List Test → Type 0
Clear [] = Unit {0}
Clear ((b ⇒ r) ∷ ts) = (b ≡ false) × Clear ts

pub pass≢stop : (r : Refusal) → pass ≡ stop r → ⊥
pass≢stop r e = let z : ◌≡◌ {A = ℕ} 0 1 = cc in omega arith

pub clear : (ts : List Test) → verdict ts ≡ pass → Clear ts
clear [] e = tt
clear ((true ⇒ r) ∷ ts) e = absurd (pass≢stop r (sym e))
clear ((false ⇒ r) ∷ ts) e = (refl, clear ts e)

pub clear_passes : (ts : List Test) → Clear ts → verdict ts ≡ pass
clear_passes [] k = refl
clear_passes ((true ⇒ r) ∷ ts) k = absurd (true≢false k.0)
clear_passes ((false ⇒ r) ∷ ts) k = clear_passes ts k.1

-- of a row that passes, each test fails

pub not_first : (b : Bool) (r : Refusal) (ts : List Test) → verdict ((b ⇒ r) ∷ ts) ≡ pass → b ≡ false
not_first true r ts e = cc
not_first false r ts e = refl

pub not_later : (b : Bool) (r : Refusal) (ts : List Test) → verdict ((b ⇒ r) ∷ ts) ≡ pass → verdict ts ≡ pass
not_later true r ts e = cc
not_later false r ts e = e
