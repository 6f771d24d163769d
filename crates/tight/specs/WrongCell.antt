-- Wrong outcomes of a ValueCell's functions: new, get, replace.
-- Assumes nothing.
use Rattle.std.specs.Prelude.{List, [], ◌∷◌, T}
use Rattle.tight.specs.Mistakes.{slip}
use Rattle.tight.specs.Wrong.{Wrong, of, new_cell, get_cell, replace_cell, all_different, two_of_each}

abbrev pub wrong_cells : List Wrong
wrong_cells =
    of "ValueCell::new"
    (new_cell 900 (slip "an empty cell" (record { value = 0 }) ∷ slip "another handle" (record { value = 901 }) ∷ [])
    ∷ new_cell 0 (slip "takes a handle of 0 for none" (record { value = 1 }) ∷ [])
    ∷ [])
    ∷ of "ValueCell::get" (get_cell (record { value = 900 }) (slip "always 0" 0 ∷ slip "another handle" 901 ∷ []) ∷ [])
    ∷ of "ValueCell::replace"
    (replace_cell (record { value = 900 }) 901
    (slip "hands back the new handle" (record { earlier = 901; cell = record { value = 901 } })
    ∷ slip "keeps the earlier handle" (record { earlier = 900; cell = record { value = 900 } })
    ∷ slip "hands back the new handle, and keeps the earlier" (record { earlier = 901; cell = record { value = 900 } })
    ∷ slip "empties the cell" (record { earlier = 900; cell = record { value = 0 } })
    ∷ [])
    ∷ [])
    ∷ []

pub wrong_cells_differ : T (all_different wrong_cells)
wrong_cells_differ = tt

pub two_of_each_cell_function : T (two_of_each wrong_cells)
two_of_each_cell_function = tt
