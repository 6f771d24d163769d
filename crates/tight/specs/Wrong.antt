-- Tables of wrong outcomes: what it means that a call's contract refuses them, and the test for it, which computes.
-- Assumes nothing.
use Rattle.std.specs.Prelude.{ℕ, ◌≢◌, Bool, true, false, not, List, [], ◌∷◌, ◌++◌, leb, length, Option}
use Prim.Native.String.{String}
use Rattle.lists.specs.Search.{how_many}
use Rattle.lists.specs.Every.{every, implies, Every}
use Rattle.rules.specs.Limits.{box}
use Rattle.rules.specs.Table.{empty_registry, empty_store}
use Rattle.rules.specs.Queries.{Query, ReplyTo}
use Rattle.rules.specs.RegistryRows.{Call}
use Rattle.rules.specs.Columns.{RegistryColumns, StoreColumns, filled_registry, filled}
use Rattle.rules.specs.Calls as Calls
use Rattle.rules.specs.ValueCell as ValueCell
use Rattle.rules.specs.ValueCell.{Cell, Replaced}
use Rattle.rules.specs.Probes.{same_numbers}
use Rattle.rules.specs.declared.Command.{Command}
use Rattle.tight.specs.Told.{told, told_answer, told_call, told_call_answer, told_reply, told_columns, told_registry_columns, told_handle, told_cell, told_replaced}
use Rattle.tight.specs.Mistakes.{Named, CommandMistake, CallMistake, commanded, called}

-- A call, how its right answer is told, and wrong outcomes of it: one case for each kind of contract.
pub data Row : Type 0 where
  -- the store: made, a command, a query
  new_store : Option ℕ → List (Named StoreColumns) → Row
  command : StoreColumns → (k : Command) → List ℕ → List (Named (CommandMistake k)) → Row
  query : StoreColumns → (q : Query) → List ℕ → List (Named (ReplyTo q)) → Row
  -- the registry: made, a call
  new_registry : Option ℕ → List (Named RegistryColumns) → Row
  call : RegistryColumns → (k : Call) → List ℕ → List (Named (CallMistake k)) → Row
  -- a cell: made, read, replaced
  new_cell : ℕ → List (Named Cell) → Row
  get_cell : Cell → List (Named ℕ) → Row
  replace_cell : Cell → ℕ → List (Named Replaced) → Row

-- that no wrong outcome meets the call's contract

abbrev pub Refused : Row → Type 0
Refused (new_store d ws) = Every (λ w. w.wrong ≢ filled box (empty_store d)) ws
Refused (command c k a ws) = Every (λ w. commanded c k w.wrong ≢ Calls.command box c k) ws
Refused (query c q a ws) = Every (λ w. w.wrong ≢ Calls.query box c q) ws
Refused (new_registry d ws) = Every (λ w. w.wrong ≢ filled_registry box (empty_registry d)) ws
Refused (call c k a ws) = Every (λ w. called c k w.wrong ≢ Calls.registry_call box c k) ws
Refused (new_cell h ws) = Every (λ w. w.wrong ≢ ValueCell.new_cell h) ws
Refused (get_cell c ws) = Every (λ w. w.wrong ≢ ValueCell.get_cell c) ws
Refused (replace_cell c h ws) = Every (λ w. w.wrong ≢ ValueCell.replace_cell c h) ws

-- each is told by other numbers than the right one
abbrev pub unlike : {A : Type 0} → (A → List ℕ) → List ℕ → List (Named A) → Bool
unlike tell right [] = true
unlike tell right (w ∷ ws) = every (not (same_numbers (tell w.wrong) right) ∷ unlike tell right ws ∷ [])

-- the wrong outcomes of a row are told apart from the right one

abbrev pub told_apart : Row → Bool
told_apart (new_store d ws) = unlike told_columns (told_columns (filled box (empty_store d))) ws
told_apart (command c k a ws) = unlike (λ m. told k (commanded c k m)) (told k (Calls.command box c k)) ws
told_apart (query c q a ws) = unlike (told_reply q) (told_reply q (Calls.query box c q)) ws
told_apart (new_registry d ws) = unlike told_registry_columns (told_registry_columns (filled_registry box (empty_registry d))) ws
told_apart (call c k a ws) = unlike (λ m. told_call k (called c k m)) (told_call k (Calls.registry_call box c k)) ws
told_apart (new_cell h ws) = unlike told_cell (told_cell (ValueCell.new_cell h)) ws
told_apart (get_cell c ws) = unlike told_handle (told_handle (ValueCell.get_cell c)) ws
told_apart (replace_cell c h ws) = unlike told_replaced (told_replaced (ValueCell.replace_cell c h)) ws

-- the right answer is the one that the row tells

abbrev pub right_answer : Row → Bool
right_answer (new_store d ws) = true
right_answer (command c k a ws) = same_numbers (told_answer k (Calls.command box c k).answer) a
right_answer (query c q a ws) = same_numbers (told_reply q (Calls.query box c q)) a
right_answer (new_registry d ws) = true
right_answer (call c k a ws) = same_numbers (told_call_answer k (Calls.registry_call box c k).answer) a
right_answer (new_cell h ws) = true
right_answer (get_cell c ws) = true
right_answer (replace_cell c h ws) = true

abbrev pub rows_different : List Row → Bool
rows_different [] = true
rows_different (r ∷ rs) = every (right_answer r ∷ told_apart r ∷ rows_different rs ∷ [])

-- the rows of a public function, and whether its contract upstream has a gap
pub record Wrong : Type 0 where
  pub function : String
  pub gap : Bool
  pub rows : List Row

abbrev pub of : String → List Row → Wrong
of name rows = record { function = name; gap = false; rows = rows }

abbrev pub of_gap : String → List Row → Wrong
of_gap name rows = record { function = name; gap = true; rows = rows }

abbrev pub AllRefused : List Wrong → Type 0
AllRefused ws = Every (λ w. Every Refused w.rows) ws

abbrev pub all_different : List Wrong → Bool
all_different [] = true
all_different (w ∷ ws) = every (rows_different w.rows ∷ all_different ws ∷ [])

-- for each wrong outcome, whether upstream's contract accepts it

abbrev pub marks : {A : Type 0} → List (Named A) → List Bool
marks [] = []
marks (w ∷ ws) = w.accepted_upstream ∷ marks ws

abbrev pub marks_in : Row → List Bool
marks_in (new_store d ws) = marks ws
marks_in (command c k a ws) = marks ws
marks_in (query c q a ws) = marks ws
marks_in (new_registry d ws) = marks ws
marks_in (call c k a ws) = marks ws
marks_in (new_cell h ws) = marks ws
marks_in (get_cell c ws) = marks ws
marks_in (replace_cell c h ws) = marks ws

abbrev pub marks_among : List Row → List Bool
marks_among [] = []
marks_among (r ∷ rs) = marks_in r ++ marks_among rs

-- each function has at least two wrong outcomes, and two that upstream accepts where it has a gap
abbrev pub two_of_each : List Wrong → Bool
two_of_each [] = true
two_of_each (w ∷ ws) =
    every
    (leb 2 (length (marks_among w.rows))
    ∷ implies w.gap (leb 2 (how_many (λ b. b) (marks_among w.rows)))
    ∷ two_of_each ws
    ∷ [])
