-- How a call goes wrong: mistakes, each under its name, and the outcomes that they give.
-- Assumes nothing.
use Prim.Native.String.{String}
use Rattle.std.specs.Prelude.{Bool, true, false, not, List, ◌++◌, eqb}
use Rattle.lists.specs.Search.{leave_out}
use Rattle.rules.specs.Limits.{box}
use Rattle.rules.specs.Refusals.{refusal_number}
use Rattle.rules.specs.Answers.{Answer, Test, Outcome, ◌⇒◌, refused, verdict, carry}
use Rattle.rules.specs.Commands.{Result, Offered, AnswerTo, offered}
use Rattle.rules.specs.Table.{Registry}
use Rattle.rules.specs.Rows.{tests, result, effect}
use Rattle.rules.specs.RegistryRows.{Call, CallResult, CallAnswer, call_tests, call_result, call_effect}
use Rattle.rules.specs.Columns.{RegistryColumns, StoreColumns, used_registry, used}
use Rattle.rules.specs.Calls.{laid_out, laid_out_registry, command, registry_call}
use Rattle.rules.specs.declared.Refusal.{Refusal}
use Rattle.rules.specs.declared.Command.{Command}

-- something wrong, under the name of the mistake, and whether upstream's contract accepts it
pub record Named (A : Type 0) : Type 0 where
  pub mistake : String
  pub accepted_upstream : Bool
  pub wrong : A

-- upstream's contract accepts it (docs/CONTRACTS.md); any other mistake
abbrev pub accepted : {A : Type 0} → String → A → Named A
accepted name w = record { mistake = name; accepted_upstream = true; wrong = w }

abbrev pub slip : {A : Type 0} → String → A → Named A
slip name w = record { mistake = name; accepted_upstream = false; wrong = w }

-- how a command of the store or a call of the registry goes wrong
pub data Mistake (Table R B : Type 0) : Type 0 where
  -- it refuses with this, and the table is as it came
  refuses : Refusal → Mistake Table R B
  -- the right table, beside another answer
  answers : Answer R B → Mistake Table R B
  -- the right answer, beside the right table changed
  leaves : (Table → Table) → Mistake Table R B
  -- the right answer, beside the table as it came
  does_nothing : Mistake Table R B
  -- another answer, beside another table
  gives : Answer R B → Table → Mistake Table R B
  -- the effect is right, and the tests are others, or are changed; the test for 9 is not among them
  tests_by : (Registry → List Test) → Mistake Table R B
  tests_with : (List Test → List Test) → Mistake Table R B
  untested : Mistake Table R B

-- tests without those that give a refusal; those that give it, before all others

abbrev pub refuses_with : Refusal → Test → Bool
refuses_with r (b ⇒ other) = eqb (refusal_number other) (refusal_number r)

abbrev pub without : Refusal → List Test → List Test
without r ts = leave_out (refuses_with r) ts

abbrev pub first : Refusal → List Test → List Test
first r ts = leave_out (λ t. not (refuses_with r t)) ts ++ without r ts

-- the outcome of a mistake: from the table as it came, what stands beside a refusal, the right outcome, the outcome by given tests,
-- the right tests, and the registry that they test
module _ {Table R B : Type 0} (came : Table) (beside : B) (right : Outcome Table (Answer R B)) (by : List Test → Outcome Table (Answer R B)) (right-tests : List Test) (t : Registry) where
  abbrev pub outcome_of : Mistake Table R B → Outcome Table (Answer R B)
  outcome_of (refuses r) = record { answer = refused r beside; table = came }
  outcome_of (answers a) = record { answer = a; table = right.table }
  outcome_of (leaves change) = record { answer = right.answer; table = change right.table }
  outcome_of does_nothing = record { answer = right.answer; table = came }
  outcome_of (gives a other) = record { answer = a; table = other }
  outcome_of (tests_by others) = by (others t)
  outcome_of (tests_with change) = by (change right-tests)
  outcome_of untested = by right-tests

-- of a command of the store; of a call of the registry

abbrev pub CommandMistake : Command → Type 0
CommandMistake k = Mistake StoreColumns (Result k) (Offered k)

abbrev pub commanded : (c : StoreColumns) (k : Command) → CommandMistake k → Outcome StoreColumns (AnswerTo k)
commanded c k =
    outcome_of c (offered k) (command box c k)
    (λ ts. laid_out box (carry (verdict ts) (used c) (offered k) (result (used c) k) (effect (used c) k)))
    (tests box (used c) k)
    (used_registry c.registry)

abbrev pub CallMistake : Call → Type 0
CallMistake k = Mistake RegistryColumns (CallResult k) (Unit {0})

abbrev pub called : (c : RegistryColumns) (k : Call) → CallMistake k → Outcome RegistryColumns (CallAnswer k)
called c k =
    outcome_of c tt (registry_call box c k)
    (λ ts. laid_out_registry box (carry (verdict ts) (used_registry c) tt (call_result (used_registry c) k) (call_effect (used_registry c) k)))
    (call_tests box (used_registry c) k)
    (used_registry c)
