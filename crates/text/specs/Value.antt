-- What reading a value line finds: the number, or a text that no further bytes could make right, or one that is not finished.
-- Assumes nothing.
use Rattle.std.specs.Prelude.{ℕ, ◌+◌, Bool, cond, List, [], ◌∷◌, drop, ltb, leb, eqb, Ok, Err}
use Rattle.lists.specs.Every.{every}
use Rattle.text.specs.Decimal.{line_feed, most_digits, with_digit}
use Rattle.text.specs.Reading.{Reading}
use Rattle.text.specs.declared.Misread.TheVariants.{Unfinished, Wrong}

-- whether x is one digit more, after n digits of the number acc
abbrev pub goes_on : ℕ → ℕ → ℕ → ℕ → Bool
goes_on lim n acc x = every (ltb n most_digits ∷ leb 48 x ∷ leb x 57 ∷ leb (with_digit acc x) lim ∷ [])

-- n digits of the number acc are passed; i is the place
unfoldable pub scan : ℕ → ℕ → ℕ → ℕ → List ℕ → Reading ℕ
scan lim n acc i [] = Err Unfinished
scan lim n acc i (x ∷ xs) =
    cond (eqb x line_feed)
    (cond (eqb n 0) (Err Wrong) (Ok (acc, i + 1)))
    (cond (goes_on lim n acc x) (scan lim (n + 1) (with_digit acc x) (i + 1) xs) (Err Wrong))

unfoldable pub value_at : ℕ → List ℕ → ℕ → Reading ℕ
value_at lim s at = scan lim 0 0 at (drop at s)
