-- The refusal numbers and their names: document 01's table, in its order.
-- Assumes nothing.
use Rattle.std.specs.Prelude.{ℕ, List, [], ◌∷◌, get_or}
use Rattle.lists.specs.Letters.{letters}
use Rattle.rules.specs.declared.Refusal.{Refusal}
use Rattle.rules.specs.declared.Refusal.TheVariants.{Unknown, Revoked, Conflict, Relied, Visible, Released, Capacity, InvalidState, BadTable, Absent}

abbrev pub refusal_number : Refusal → ℕ
refusal_number Unknown = 1
refusal_number Revoked = 2
refusal_number Conflict = 3
refusal_number Relied = 4
refusal_number Visible = 5
refusal_number Released = 6
refusal_number Capacity = 7
refusal_number InvalidState = 8
refusal_number BadTable = 9
refusal_number Absent = 10

-- numbers with which no command is answered, only a run stopped: a block not by the rules, and too little room for answers

abbrev pub bad_line : ℕ
bad_line = 11

abbrev pub no_room : ℕ
no_room = 12

-- the names of the numbers from 0 on
abbrev pub number_names : List (List ℕ)
number_names =
    letters "Done"
    ∷ letters "Unknown"
    ∷ letters "Revoked"
    ∷ letters "Conflict"
    ∷ letters "Relied"
    ∷ letters "Visible"
    ∷ letters "Released"
    ∷ letters "Capacity"
    ∷ letters "InvalidState"
    ∷ letters "BadTable"
    ∷ letters "Absent"
    ∷ letters "BadLine"
    ∷ letters "NoRoom"
    ∷ []

-- the name of any number
unfoldable pub name_of : ℕ → List ℕ
name_of n = get_or number_names n (letters "unnamed")
