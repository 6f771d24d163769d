-- One handle in a cell: made with a handle, read, and replaced by another, which hands the earlier one back.
-- Assumes nothing.
use Rattle.std.specs.Prelude.{ℕ}

pub record Cell : Type 0 where
  pub value : ℕ

pub record Replaced : Type 0 where
  pub earlier : ℕ
  pub cell : Cell

abbrev pub new_cell : ℕ → Cell
new_cell h = record { value = h }

abbrev pub get_cell : Cell → ℕ
get_cell c = c.value

abbrev pub replace_cell : Cell → ℕ → Replaced
replace_cell c h = record { earlier = c.value; cell = new_cell h }
