-- What a value's text is: 1 to 20 decimal digits, leading zeros allowed, whose number is at most a limit.
-- Assumes nothing.
use Rattle.std.specs.Prelude.{ℕ, ◌+◌, ◌-◌, ◌*◌, ◌≤◌, ◌<◌, ◌≡◌, List, [], ◌∷◌, ◌++◌, length}
use Rattle.lists.specs.Every.{Every}
use Rattle.text.specs.Reading.{Form}

abbrev pub line_feed : ℕ
line_feed = 10

abbrev pub most_digits : ℕ
most_digits = 20

-- the bytes from 48, which is 0, to 57, which is 9
abbrev pub Digit : ℕ → Type 0
Digit x = (48 ≤ x) × (x ≤ 57)

-- a number with one digit more
abbrev pub with_digit : ℕ → ℕ → ℕ
with_digit n x = n * 10 + (x - 48)

-- the number that digits go on to, after n
abbrev pub number_from : ℕ → List ℕ → ℕ
number_from n [] = n
number_from n (x ∷ xs) = number_from (with_digit n x) xs

abbrev pub number : List ℕ → ℕ
number ds = number_from 0 ds

pub record ValueText (lim : ℕ) (ds : List ℕ) (v : ℕ) : Type 0 where
  pub some : 0 < length ds
  pub most : length ds ≤ most_digits
  pub digits : Every Digit ds
  pub value : number ds ≡ v
  pub fits : v ≤ lim

-- a line: a text of the form, ended by one line feed
pub record Line (F : Form ℕ) (w : List ℕ) (v : ℕ) : Type 0 where
  pub text : List ℕ
  pub form : F text v
  pub ended : w ≡ text ++ line_feed ∷ []

abbrev pub ValueLine : ℕ → Form ℕ
ValueLine lim = Line (ValueText lim)
