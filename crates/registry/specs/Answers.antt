-- The rules' answers and outcomes as the code's.
-- Assumes nothing.
use Rattle.std.specs.Prelude.{Result, Ok, Err}
use Rattle.rules.specs.Answers.{Answer, Outcome, refused, done}
use Rattle.rules.specs.Columns.{RegistryColumns}
use Rattle.rules.specs.declared.Refusal.{Refusal}
use Rattle.rules.specs.declared.Answered.{Answered}
use Rattle.registry.specs.Columns.{registry_of}
use Rattle.registry.specs.declared.PublicationRegistry.{PublicationRegistry}

-- nothing stands beside a refusal
abbrev pub Reply : Type 0 → Type 0
Reply A = Answer A (Unit {0})

-- the result, or why there is none
abbrev pub result_of : {A Beside : Type 0} → Answer A Beside → Result A Refusal
result_of (refused r b) = Err r
result_of (done x) = Ok x

-- an answer beside the registry
abbrev pub answered_of : {A : Type 0} → Outcome RegistryColumns (Reply A) → Answered (Result A Refusal) PublicationRegistry
answered_of o = record { answer = result_of o.answer; table = registry_of o.table }
