-- The op reader, row by row.
-- Assumes nothing.
use Prim.Native.Nat.{ℕ, ◌+◌, ◌≤◌, ◌<◌}
use mathlib.Core.Path.{◌≡◌, refl, sym, ap, ◌∙◌}
use mathlib.Core.List.{List, []}
use native.Mathlib.Numerals.{add-one}
use lib.ListN.{length, drop, drop_of_length-le}
use lib.Seq.{drop-cons}
use Rattle.std.specs.Prelude.{Ok, Err}
use Rattle.text.specs.Reading.{Reading}
use Rattle.text.specs.Ops.{op_lines, op_line_of, row_at, or_next, first_row, op_at}
use Rattle.text.specs.declared.Misread.TheVariants.{Unfinished, Wrong}

-- the rows before this one are wrong, and it and those after it decide
pub record Passed (s : List ℕ) (at row : ℕ) : Type 0 where
  pub same : op_at s at ≡ first_row (drop row op_lines) row s at

pub rows_start : (s : List ℕ) (at : ℕ) → Passed s at 0
unfolding op_at
rows_start s at = record { same = refl }

module _ {s : List ℕ} {at row : ℕ} (k : Passed s at row) where
  pub rows_end : length op_lines ≤ row → Err Wrong ≡ op_at s at
  unfolding first_row
  rows_end h = sym (k.same ∙ rw (drop_of_length-le op_lines {i = row} h))

  module _ (h : row < length op_lines) (r : Reading ℕ) (e : r ≡ row_at (op_line_of row) row s at) where
    pub row_wrong : r ≡ Err Wrong → Passed s at (row + 1)
    unfolding first_row op_line_of
    row_wrong q = record { same = k.same ∙ rw (drop-cons op_lines row [] h, sym e ∙ q, add-one row) }

    -- another answer than wrong is the whole's
    pub row_decides : (r ≡ Err Wrong → ⊥) → r ≡ op_at s at
    unfolding first_row op_line_of
    row_decides n = go r n refl ∙ ap (λ (x : Reading ℕ). or_next x (first_row (drop (row + 1) op_lines) (row + 1) s at)) e ∙ sym (k.same ∙ rw (drop-cons op_lines row [] h, add-one row))
      where
        go : (x : Reading ℕ) → (x ≡ Err Wrong → ⊥) → r ≡ x → r ≡ or_next x (first_row (drop (row + 1) op_lines) (row + 1) s at)
        go (Err Unfinished) m q = q
        go (Err Wrong) m q = absurd (m refl)
        go (Ok found) m q = q
