-- Where a search ends, and what the tests of a row come to, as the code answers it.
-- Assumes nothing.
use Rattle.std.specs.Prelude.{ℕ, Bool, cond, leb, List, length, Option, Some, None, Result, Ok, Err}
use Rattle.lists.specs.Search.{some_pass, first_place}
use Rattle.rules.specs.Answers.{Verdict, pass, stop}
use Rattle.rules.specs.Table.{at}
use Rattle.rules.specs.declared.Publication.{Publication}
use Rattle.rules.specs.declared.PublicationId.{PublicationId}
use Rattle.rules.specs.declared.Refusal.{Refusal}

-- at the first that passes, or nowhere
unfoldable pub place_of : {A : Type 0} → (A → Bool) → List A → Option ℕ
place_of p xs = cond (some_pass p xs) (Some (first_place p xs)) None

-- the publication with an identifier, or that none was given out
unfoldable pub known_of : List Publication → PublicationId → Option Publication
known_of es p = cond (leb (length es) p.0) None (Some (at es p))

-- the first test that holds stops the call
abbrev pub verdict_of : Verdict → Result (Unit {0}) Refusal
verdict_of pass = Ok tt
verdict_of (stop r) = Err r

-- the place, where nothing stops the call
abbrev pub lookup_of : Verdict → ℕ → Result ℕ Refusal
lookup_of pass i = Ok i
lookup_of (stop r) i = Err r
