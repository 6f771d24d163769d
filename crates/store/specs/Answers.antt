-- The rules' answers and outcomes as the code's.
-- Assumes nothing.
use Rattle.std.specs.Prelude.{ℕ, Bool, Result, Ok, Err}
use Rattle.rules.specs.Limits.{box}
use Rattle.rules.specs.Answers.{Answer, Outcome, refused, done}
use Rattle.rules.specs.Table.{Registry, Store}
use Rattle.rules.specs.Columns.{StoreColumns, filled_registry, filled}
use Rattle.rules.specs.Rows.{step}
use Rattle.rules.specs.Calls.{command}
use Rattle.rules.specs.Responses.{respond, call_response}
use Rattle.rules.specs.declared.Refusal.{Refusal}
use Rattle.rules.specs.declared.Rejected.{Rejected}
use Rattle.rules.specs.declared.Answered.{Answered}
use Rattle.rules.specs.declared.Response.{Response}
use Rattle.rules.specs.declared.Command.{Command}
use Rattle.registry.specs.Columns.{registry_of}
use Rattle.registry.specs.Answers.{Reply, result_of}
use Rattle.registry.specs.declared.PublicationRegistry.{PublicationRegistry}
use Rattle.store.specs.Columns.{store_of}
use Rattle.store.specs.declared.PublicationStore.{PublicationStore}
use Rattle.store.specs.declared.Contained.{Contained}

-- the offered handle stands beside these refusals
abbrev pub rejected_of : {A : Type 0} → Answer A ℕ → Result A Rejected
rejected_of (refused r h) = Err (record { why = r; handle = h })
rejected_of (done x) = Ok x

-- a yes or no, and a registry, stand beside a refusal too

abbrev pub contained_of : Answer Bool Bool → Contained
contained_of (refused r b) = record { answer = Err r; present = b }
contained_of (done b) = record { answer = Ok tt; present = b }

abbrev pub registry_copy_of : Answer Registry Registry → Answered (Result (Unit {0}) Refusal) PublicationRegistry
registry_copy_of (refused r t) = record { answer = Err r; table = registry_of (filled_registry box t) }
registry_copy_of (done t) = record { answer = Ok tt; table = registry_of (filled_registry box t) }

-- answers beside the store: nothing stands beside a refusal, or the offered handle

abbrev pub answered_of : {A : Type 0} → Outcome StoreColumns (Reply A) → Answered (Result A Refusal) PublicationStore
answered_of o = record { answer = result_of o.answer; table = store_of o.table }

abbrev pub returned_of : {A : Type 0} → Outcome StoreColumns (Answer A ℕ) → Answered (Result A Rejected) PublicationStore
returned_of o = record { answer = rejected_of o.answer; table = store_of o.table }

-- any command: on any store, and on a sound one

abbrev pub applied_of : StoreColumns → Command → Answered Response PublicationStore
applied_of t k = record { answer = call_response box t k; table = store_of (command box t k).table }

abbrev pub applied_inside : Store → Command → Answered Response PublicationStore
applied_inside s k = record { answer = respond box s k; table = store_of (filled box (step box s k).table) }
