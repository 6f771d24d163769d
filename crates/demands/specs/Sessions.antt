-- A session: public calls made one after the other, from an empty store on, and what its answers tell.
-- Assumes nothing.
use Rattle.std.specs.Prelude.{◌≡◌, List, [], ◌∷◌, ◌++◌, Option, ℕ}
use Rattle.rules.specs.Limits.{box}
use Rattle.rules.specs.Commands.{AnswerTo}
use Rattle.rules.specs.Table.{Store}
use Rattle.rules.specs.Rows.{step}
use Rattle.rules.specs.Broker.{Event, events}
use Rattle.rules.specs.declared.Command.{Command}
use Rattle.store.specs.declared.PublicationStore.{PublicationStore}
use Rattle.demands.specs.Calls.{Made, Called}

infix 20 ◌answered◌
-- a command, and the answer to it
pub record Exchange : Type 0 where
  pub command : Command
  pub answer : AnswerTo command

abbrev pub ◌answered◌ : (c : Command) → AnswerTo c → Exchange
c answered a = record { command = c; answer = a }

-- exchanges that lead from a store to a store: each is a call on the store that the one before it left

abbrev pub Leads : PublicationStore → List Exchange → PublicationStore → Type 0
Leads s [] t = t ≡ s
Leads s (x ∷ xs) t = (u : PublicationStore) × Called x.command s x.answer u × Leads u xs t

-- from a new store, with or without domain
pub record Session (xs : List Exchange) (t : PublicationStore) : Type 0 where
  pub domain : Option ℕ
  pub first : PublicationStore
  pub made : Made domain first
  pub leads : Leads first xs t

abbrev pub commands : List Exchange → List Command
commands [] = []
commands (x ∷ xs) = x.command ∷ commands xs

-- what the answers tell that has happened

abbrev pub happened : List Exchange → List Event
happened [] = []
happened (x ∷ xs) = events x.command x.answer ++ happened xs

-- what the rows answer to some commands, from a table on

abbrev pub by_the_rules : Store → List Command → List Exchange
by_the_rules u [] = []
by_the_rules u (c ∷ cs) = (c answered (step box u c).answer) ∷ by_the_rules (step box u c).table cs
