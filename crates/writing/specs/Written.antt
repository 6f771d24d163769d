-- An output in which a text is written; every other byte stays.
-- Assumes nothing.
use Rattle.std.specs.Prelude.{ℕ, List, ◌++◌, length, take, drop}

-- at its start
abbrev pub over : List ℕ → List ℕ → List ℕ
over w out = w ++ drop (length w) out

-- from the place at on
abbrev pub over_from : ℕ → List ℕ → List ℕ → List ℕ
over_from at w out = take at out ++ over w (drop at out)
