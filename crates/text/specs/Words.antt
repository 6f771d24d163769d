-- A fixed word at a place, compared byte for byte.
-- Assumes nothing.
use Rattle.std.specs.Prelude.{ℕ, ◌+◌, ◌≡◌, cond, List, [], ◌∷◌, length, drop, eqb, Result, Ok, Err}
use Rattle.text.specs.Reading.{Reading, Form}
use Rattle.text.specs.declared.Misread.{Misread}
use Rattle.text.specs.declared.Misread.TheVariants.{Unfinished, Wrong}

-- the one text that is the word; it says nothing more
abbrev pub TheWord : List ℕ → Form (Unit {0})
TheWord w t a = t ≡ w

-- whether a word stands somewhere, or why not
abbrev pub Found : Type 0
Found = Result (Unit {0}) Misread

-- the word, and what stands there
unfoldable pub compared : List ℕ → List ℕ → Found
compared [] xs = Ok tt
compared (c ∷ cs) [] = Err Unfinished
compared (c ∷ cs) (x ∷ xs) = cond (eqb c x) (compared cs xs) (Err Wrong)

unfoldable pub word_at : List ℕ → List ℕ → ℕ → Found
word_at w s at = compared w (drop at s)

-- the answer as a reading: the place after the word is known

abbrev pub word_reading : List ℕ → ℕ → Found → Reading (Unit {0})
word_reading w at (Err e) = Err e
word_reading w at (Ok u) = Ok (tt, at + length w)
