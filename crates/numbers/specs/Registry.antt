-- An answer's number, and its values: those of each kind of result that the registry gives, and that the store shares with it.
-- Assumes nothing.
use Rattle.std.specs.Prelude.{ℕ, List, [], ◌∷◌, Bool, cond, Option, Some, None, Result, Ok, Err}
use Rattle.rules.specs.Refusals.{refusal_number}
use Rattle.rules.specs.declared.Refusal.{Refusal}
use Rattle.rules.specs.declared.PublicationId.{PublicationId}
use Rattle.rules.specs.declared.LeaseId.{LeaseId}
use Rattle.rules.specs.declared.Publication.{Publication}
use Rattle.rules.specs.declared.Consumer.{Consumer}
use Rattle.rules.specs.declared.Lease.{Lease}

-- 0 where the call is carried out
abbrev pub result_number : {A : Type 0} → Result A Refusal → ℕ
result_number (Err r) = refusal_number r
result_number (Ok x) = 0

-- a refusal has no values
abbrev pub result_values : {A Why : Type 0} → (A → List ℕ) → Result A Why → List ℕ
result_values values (Err r) = []
result_values values (Ok x) = values x

-- a flag is 0 or 1; nobody, and no domain, have no number

abbrev pub flag : Bool → ℕ
flag b = cond b 1 0

abbrev pub consumer_numbers : Option Consumer → List ℕ
consumer_numbers None = []
consumer_numbers (Some k) = k.owner.0 ∷ k.generation ∷ []

abbrev pub domain_numbers : Option ℕ → List ℕ
domain_numbers None = []
domain_numbers (Some n) = n ∷ []

-- the values of each kind of result

abbrev pub no_values : Unit {0} → List ℕ
no_values u = []

abbrev pub id_values : PublicationId → List ℕ
id_values p = p.0 ∷ []

abbrev pub lease_id_values : LeaseId → List ℕ
lease_id_values i = i.0 ∷ []

-- a slot, a handle, a count
abbrev pub number_values : ℕ → List ℕ
number_values n = n ∷ []

abbrev pub publication_values : Publication → List ℕ
publication_values e = e.owner.0 ∷ e.generation ∷ e.port.0 ∷ e.slot ∷ flag e.visible ∷ flag e.retained ∷ []

abbrev pub lease_values : Lease → List ℕ
lease_values l = l.id.0 ∷ l.publication.0 ∷ consumer_numbers l.consumer
