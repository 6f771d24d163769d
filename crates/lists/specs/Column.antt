-- A column of fixed length: a list, filled up with blanks.
-- Assumes nothing.
use Rattle.std.specs.Prelude.{ℕ, ◌-◌, List, ◌++◌, length, replicate}

-- xs, filled up with blanks to n places
unfoldable pub padded : {A : Type 0} → ℕ → A → List A → List A
padded n blank xs = xs ++ replicate (n - length xs) blank
