-- Tests of which every one passes: those of a list, or one for each number below another; and tests of which one passes.
-- Assumes nothing.
use Rattle.std.specs.Prelude.{ℕ, zero, suc, Bool, true, false, not, ◌||◌, List, [], ◌∷◌}

abbrev pub every : List Bool → Bool
every [] = true
every (true ∷ bs) = every bs
every (false ∷ bs) = false

abbrev pub each_below : ℕ → (ℕ → Bool) → Bool
each_below zero p = true
each_below (suc n) p = every (each_below n p ∷ p n ∷ [])

abbrev pub some_below : ℕ → (ℕ → Bool) → Bool
some_below zero p = false
some_below (suc n) p = some_below n p || p n

abbrev pub implies : Bool → Bool → Bool
implies a b = not a || b

-- what holds of every element
abbrev pub Every : {A : Type 0} → (A → Type 0) → List A → Type 0
Every P [] = Unit {0}
Every P (x ∷ xs) = P x × Every P xs
