-- The store's own answers: the number and the values of each kind, and the handle that a refusal hands back.
-- Assumes nothing.
use Rattle.std.specs.Prelude.{ℕ, List, [], ◌∷◌, Result, Ok, Err}
use Rattle.rules.specs.Refusals.{refusal_number}
use Rattle.rules.specs.declared.Rejected.{Rejected}
use Rattle.rules.specs.declared.Reading.{Reading}
use Rattle.rules.specs.declared.Observation.{Observation}
use Rattle.rules.specs.declared.Leased.{Leased}

-- 0 where the call is carried out
abbrev pub rejected_number : {A : Type 0} → Result A Rejected → ℕ
rejected_number (Err r) = refusal_number r.why
rejected_number (Ok x) = 0

-- the offered handle, inside a refusal
abbrev pub handed_back : {A : Type 0} → Result A Rejected → List ℕ
handed_back (Err r) = r.handle ∷ []
handed_back (Ok x) = []

-- the values of each kind of result

abbrev pub read_values : Reading → List ℕ
read_values x = x.id.0 ∷ x.revision ∷ x.handle ∷ []

abbrev pub observe_values : Observation → List ℕ
observe_values x = x.revision ∷ x.handle ∷ []

abbrev pub leased_values : Leased → List ℕ
leased_values x = x.id.0 ∷ x.handle ∷ []
