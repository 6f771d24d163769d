-- The cell's field as the rules' cell, and back.
-- Assumes nothing.
use Rattle.rules.specs.ValueCell.{Cell, Replaced}
use Rattle.store.specs.declared.ValueCell.{ValueCell}
use Rattle.store.specs.declared.Exchanged.{Exchanged}

abbrev pub cell_of : ValueCell → Cell
cell_of c = record { value = c.value }

abbrev pub value_cell_of : Cell → ValueCell
value_cell_of c = record { value = c.value }

abbrev pub exchanged_of : Replaced → Exchanged
exchanged_of r = record { earlier = r.earlier; cell = value_cell_of r.cell }
