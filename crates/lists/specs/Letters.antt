-- A word, letter by letter, as its bytes. (Words here are plain ASCII, where a letter's code is its byte.)
-- Assumes nothing.
use Rattle.std.specs.Prelude.{ℕ, List, [], ◌∷◌}
use Prim.Native.Char.{code}
use Prim.Native.String as S
use Prim.Native.String.{String}

abbrev pub letters : String → List ℕ
letters S.[] = []
letters (S.◌∷◌ c s) = code c ∷ letters s
