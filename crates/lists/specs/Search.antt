-- A list searched by a test on its elements.
-- Assumes nothing.
use Rattle.std.specs.Prelude.{ℕ, suc, ◌+◌, Bool, false, ◌||◌, cond, List, [], ◌∷◌}

module _ {A : Type 0} (p : A → Bool) where
  -- whether one passes
  abbrev pub some_pass : List A → Bool
  some_pass [] = false
  some_pass (x ∷ xs) = p x || some_pass xs

  -- the place of the first that passes
  abbrev pub first_place : List A → ℕ
  first_place [] = 0
  first_place (x ∷ xs) = cond (p x) 0 (suc (first_place xs))

  -- how many pass
  abbrev pub how_many : List A → ℕ
  how_many [] = 0
  how_many (x ∷ xs) = cond (p x) 1 0 + how_many xs

  -- the list without those that pass
  abbrev pub leave_out : List A → List A
  leave_out [] = []
  leave_out (x ∷ xs) = cond (p x) (leave_out xs) (x ∷ leave_out xs)
