-- `ValueCell`: C1 to C3.
-- Assumes nothing.
use Prim.Native.Nat.{ℕ}
use mathlib.Core.Path.{◌≡◌, refl}
use Rattle.rules.specs.ValueCell.{Cell, new_cell, get_cell, replace_cell}

-- D17
abbrev pub view : Cell → ℕ
view c = c.value

pub new_C1_1 : (value : ℕ) → view (new_cell value) ≡ value
new_C1_1 value = refl

pub get_C2_1 : (self : Cell) → get_cell self ≡ view self
get_C2_1 self = refl

module _ (self : Cell) (value : ℕ) where
  pub replace_C3_1 : (replace_cell self value).earlier ≡ view self
  replace_C3_1 = refl

  pub replace_C3_2 : view (replace_cell self value).cell ≡ value
  replace_C3_2 = refl
