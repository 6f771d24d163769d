-- No second outcome meets a contract: each fixes the answer and the whole table, refused or not, sound or damaged.
-- Assumes nothing.
use Rattle.std.specs.Prelude.{Option}
use Prim.Native.Nat.{ℕ}
use mathlib.Core.Path.{◌≡◌, sym, ap, ◌∙◌}
use Rattle.rules.specs.Limits.{Limits}
use Rattle.rules.specs.Answers.{Outcome}
use Rattle.rules.specs.Commands.{AnswerTo}
use Rattle.rules.specs.Queries.{Query, ReplyTo}
use Rattle.rules.specs.RegistryRows.{Call, CallAnswer}
use Rattle.rules.specs.Table.{empty_registry, empty_store}
use Rattle.rules.specs.Columns.{RegistryColumns, StoreColumns, filled_registry, filled}
use Rattle.rules.specs.ValueCell.{Cell, Replaced, new_cell, get_cell, replace_cell}
use Rattle.rules.specs.Calls.{command, query, registry_call}
use Rattle.rules.specs.declared.Command.{Command}

-- what is fixed by an equation is fixed once
pub only_one : {A : Type 0} (f r r' : A) → r ≡ f → r' ≡ f → r ≡ r'
only_one f r r' e e' = e ∙ sym e'

-- of an outcome: the answer, and the table with every record of it
only_one_outcome : {Table Reply : Type 0} (f o o' : Outcome Table Reply) → o ≡ f → o' ≡ f → (o.answer ≡ o'.answer) × (o.table ≡ o'.table)
only_one_outcome f o o' e e' = let p = only_one f o o' e e' in (ap (λ o. o.answer) p, ap (λ o. o.table) p)

-- a command of the store
pub one_outcome : (L : Limits) (c : StoreColumns) (k : Command) (o o' : Outcome StoreColumns (AnswerTo k))
    → o ≡ command L c k
    → o' ≡ command L c k
    → (o.answer ≡ o'.answer) × (o.table ≡ o'.table)
one_outcome L c k o o' = only_one_outcome (command L c k) o o'

-- a query of the store
pub one_reply : (L : Limits) (c : StoreColumns) (q : Query) (a a' : ReplyTo q) → a ≡ query L c q → a' ≡ query L c q → a ≡ a'
one_reply L c q a a' = only_one (query L c q) a a'

-- a call of the registry
pub one_registry_outcome : (L : Limits) (c : RegistryColumns) (k : Call) (o o' : Outcome RegistryColumns (CallAnswer k))
    → o ≡ registry_call L c k
    → o' ≡ registry_call L c k
    → (o.answer ≡ o'.answer) × (o.table ≡ o'.table)
one_registry_outcome L c k o o' = only_one_outcome (registry_call L c k) o o'

-- the makers

pub one_store : (L : Limits) (d : Option ℕ) (c c' : StoreColumns) → c ≡ filled L (empty_store d) → c' ≡ filled L (empty_store d) → c ≡ c'
one_store L d c c' = only_one (filled L (empty_store d)) c c'

pub one_registry : (L : Limits) (d : Option ℕ) (c c' : RegistryColumns)
    → c ≡ filled_registry L (empty_registry d)
    → c' ≡ filled_registry L (empty_registry d)
    → c ≡ c'
one_registry L d c c' = only_one (filled_registry L (empty_registry d)) c c'

-- a cell: made, read, replaced

pub one_cell : (h : ℕ) (c c' : Cell) → c ≡ new_cell h → c' ≡ new_cell h → c ≡ c'
one_cell h c c' = only_one (new_cell h) c c'

pub one_value : (c : Cell) (h h' : ℕ) → h ≡ get_cell c → h' ≡ get_cell c → h ≡ h'
one_value c h h' = only_one (get_cell c) h h'

pub one_replacement : (c : Cell) (h : ℕ) (r r' : Replaced)
    → r ≡ replace_cell c h
    → r' ≡ replace_cell c h
    → (r.earlier ≡ r'.earlier) × (r.cell ≡ r'.cell)
one_replacement c h r r' e e' = let p = only_one (replace_cell c h) r r' e e' in (ap (λ r. r.earlier) p, ap (λ r. r.cell) p)
