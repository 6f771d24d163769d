-- How any call is answered: its tests are tried in order, and the first that holds refuses it.
-- Assumes nothing.
use Rattle.std.specs.Prelude.{ℕ, Bool, true, false, List, [], ◌∷◌}
use Rattle.rules.specs.Refusals.{refusal_number}
use Rattle.rules.specs.declared.Refusal.{Refusal}

infix 20 ◌⇒◌
-- a refusal, with what stands beside it; or the call carried out, with its result
pub data Answer (Result Beside : Type 0) : Type 0 where
  refused : Refusal → Beside → Answer Result Beside
  done : Result → Answer Result Beside

-- the number that an answer carries: 0 means carried out
abbrev pub answer_number : {Result Beside : Type 0} → Answer Result Beside → ℕ
answer_number (refused r b) = refusal_number r
answer_number (done x) = 0

-- a test: the condition, and the refusal that is given when it holds
pub data Test : Type 0 where
  ◌⇒◌ : Bool → Refusal → Test

pub data Verdict : Type 0 where
  pass : Verdict
  stop : Refusal → Verdict

abbrev pub verdict : List Test → Verdict
verdict [] = pass
verdict ((true ⇒ r) ∷ ts) = stop r
verdict ((false ⇒ r) ∷ ts) = verdict ts

-- an answer beside the table that the call leaves
pub record Outcome (Table Reply : Type 0) : Type 0 where
  pub answer : Reply
  pub table : Table

module _ {Result Beside : Type 0} where
  -- what a query answers
  abbrev pub settle : Verdict → Result → Beside → Answer Result Beside
  settle pass x b = done x
  settle (stop r) x b = refused r b

  -- what a command answers and leaves: every refusal keeps the table, whatever the command
  abbrev pub carry : {Table : Type 0} → Verdict → Table → Beside → Result → Table → Outcome Table (Answer Result Beside)
  carry pass old b x new = record { answer = done x; table = new }
  carry (stop r) old b x new = record { answer = refused r b; table = old }
