-- How an example of the registry's calls and the store's queries is written down, and when it is right.
-- Assumes nothing.
use Rattle.std.specs.Prelude.{ℕ, Bool, true, List, [], ◌∷◌}
use Rattle.lists.specs.Every.{every}
use Rattle.rules.specs.Limits.{box}
use Rattle.rules.specs.Table.{Registry, Store}
use Rattle.rules.specs.Rows.{step}
use Rattle.rules.specs.Queries.{Query, reply}
use Rattle.rules.specs.RegistryRows.{Call, registry_step}
use Rattle.rules.specs.Probes.{same_numbers}
use Rattle.rules.specs.declared.Command.{Command}
use Rattle.tight.specs.Told.{told_reply, told_call_answer}

infix 20 ◌gives◌
infix 20 ◌refused_with◌
-- a call, and how its answer must be told: the number, then the values
pub record Asked (A : Type 0) : Type 0 where
  pub call : A
  pub told : List ℕ

abbrev pub ◌gives◌ : {A : Type 0} → A → List ℕ → Asked A
a gives vs = record { call = a; told = 0 ∷ vs }

abbrev pub ◌refused_with◌ : {A : Type 0} → A → ℕ → Asked A
a refused_with n = record { call = a; told = n ∷ [] }

-- a command that leads on to another table, or a query of the table reached
pub data Turn : Type 0 where
  after : Command → Turn
  asked : Asked Query → Turn

-- calls of a registry, one after the other from a table on; turns of a store
pub data Example : Type 0 where
  of_registry : Registry → List (Asked Call) → Example
  of_store : Store → List Turn → Example

abbrev pub all_called : Registry → List (Asked Call) → Bool
all_called t [] = true
all_called t (a ∷ rest) =
    every
    (same_numbers (told_call_answer a.call (registry_step box t a.call).answer) a.told
    ∷ all_called (registry_step box t a.call).table rest
    ∷ [])

abbrev pub all_asked : Store → List Turn → Bool
all_asked s [] = true
all_asked s (after c ∷ ts) = all_asked (step box s c).table ts
all_asked s (asked a ∷ ts) = every (same_numbers (told_reply a.call (reply box s a.call)) a.told ∷ all_asked s ts ∷ [])

abbrev pub all_right : List Example → Bool
all_right [] = true
all_right (of_registry t asks ∷ es) = every (all_called t asks ∷ all_right es ∷ [])
all_right (of_store s ts ∷ es) = every (all_asked s ts ∷ all_right es ∷ [])
