-- Key lines: what one is, what reading one finds, and the line that is written.
-- Assumes nothing.
use Rattle.std.specs.Prelude.{ℕ, ◌+◌, ◌≡◌, true, cond, List, [], ◌∷◌, ◌++◌, length, Ok, Err}
use Rattle.text.specs.Reading.{Reading, Form, Then}
use Rattle.text.specs.Decimal.{line_feed, ValueLine}
use Rattle.text.specs.Digits.{digits}
use Rattle.text.specs.Value.{value_at}
use Rattle.text.specs.Words.{TheWord, Found, word_at}
use Rattle.text.specs.Keys.{command_key, key_text, key_limit}
use Rattle.text.specs.declared.Misread.TheVariants.{Wrong}

-- the key's word and sign, then a value line

abbrev pub KeyLine : ℕ → Form ℕ
KeyLine code w v = (command_key code ≡ true) × Then (TheWord (key_text code)) (λ a. ValueLine (key_limit code)) w v

abbrev pub after_word : Found → Reading ℕ → Reading ℕ
after_word (Err e) v = Err e
after_word (Ok u) v = v

-- a word, then a value line
unfoldable pub line_at : List ℕ → ℕ → List ℕ → ℕ → Reading ℕ
line_at w lim s at = after_word (word_at w s at) (value_at lim s (at + length w))

unfoldable pub key_line_at : ℕ → List ℕ → ℕ → Reading ℕ
key_line_at code s at = cond (command_key code) (line_at (key_text code) (key_limit code) s at) (Err Wrong)

-- what is written: the value has no leading zeros
unfoldable pub line_text : ℕ → ℕ → List ℕ
line_text code n = key_text code ++ (digits n ++ line_feed ∷ [])
