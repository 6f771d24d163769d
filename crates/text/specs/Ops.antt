-- The op lines: document 01's eleven commands, in its order.
-- Assumes nothing.
use Rattle.std.specs.Prelude.{ℕ, ◌+◌, ◌<◌, ◌≡◌, List, [], ◌∷◌, ◌++◌, map, length, get_or, Ok, Err}
use Rattle.lists.specs.Letters.{letters}
use Rattle.text.specs.Decimal.{line_feed}
use Rattle.text.specs.Reading.{Reading, Form}
use Rattle.text.specs.Words.{Found, word_at}
use Rattle.text.specs.declared.Misread.TheVariants.{Unfinished, Wrong}
use Rattle.text.specs.declared.Op.{Op}
use Rattle.text.specs.declared.Op.TheVariants.{Publish, Adopt, Acquire, Release, Revoke, Replace, Reclaim, Read, Observe, Resolve, Count}

abbrev pub op_words : List (List ℕ)
op_words =
    letters "publish"
    ∷ letters "adopt"
    ∷ letters "acquire"
    ∷ letters "release"
    ∷ letters "revoke"
    ∷ letters "replace"
    ∷ letters "reclaim"
    ∷ letters "read"
    ∷ letters "observe"
    ∷ letters "resolve"
    ∷ letters "count"
    ∷ []

-- op=WORD and its line feed
abbrev pub op_line : List ℕ → List ℕ
op_line w = letters "op=" ++ (w ++ line_feed ∷ [])

abbrev pub op_lines : List (List ℕ)
op_lines = map op_line op_words

unfoldable pub op_line_of : ℕ → List ℕ
op_line_of row = get_or op_lines row []

-- the texts of a table, each of which says its row
pub record RowOf (table : List (List ℕ)) (w : List ℕ) (r : ℕ) : Type 0 where
  pub below : r < length table
  pub text : w ≡ get_or table r []

abbrev pub OpLine : Form ℕ
OpLine = RowOf op_lines

-- one row's line, and the place after it
abbrev pub row_found : ℕ → ℕ → Found → Reading ℕ
row_found r next (Err e) = Err e
row_found r next (Ok u) = Ok (r, next)

unfoldable pub row_at : List ℕ → ℕ → List ℕ → ℕ → Reading ℕ
row_at w r s at = row_found r (at + length w) (word_at w s at)

abbrev pub or_next : Reading ℕ → Reading ℕ → Reading ℕ
or_next (Err Unfinished) other = Err Unfinished
or_next (Err Wrong) other = other
or_next (Ok found) other = Ok found

-- the first line of the table that is not wrong; its rows are counted from r
unfoldable pub first_row : List (List ℕ) → ℕ → List ℕ → ℕ → Reading ℕ
first_row [] r s at = Err Wrong
first_row (w ∷ ws) r s at = or_next (row_at w r s at) (first_row ws (r + 1) s at)

unfoldable pub op_at : List ℕ → ℕ → Reading ℕ
op_at s at = first_row op_lines 0 s at

-- the code's ops: each by its row, and a reading of one

abbrev pub row_of_op : Op → ℕ
row_of_op Publish = 0
row_of_op Adopt = 1
row_of_op Acquire = 2
row_of_op Release = 3
row_of_op Revoke = 4
row_of_op Replace = 5
row_of_op Reclaim = 6
row_of_op Read = 7
row_of_op Observe = 8
row_of_op Resolve = 9
row_of_op Count = 10

abbrev pub by_row : Reading Op → Reading ℕ
by_row (Err e) = Err e
by_row (Ok (op, next)) = Ok (row_of_op op, next)
