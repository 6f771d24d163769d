-- A history that leads to a table: its publications with their handles, the reclaimed ones ended, then its leases.
-- Assumes nothing.
use Rattle.std.specs.Prelude.{ℕ, suc, cond, List, [], ◌∷◌, ◌++◌, get_or}
use Rattle.rules.specs.Table.{Store}
use Rattle.rules.specs.Broker.{Event, began, ended, lent}
use Rattle.rules.specs.declared.Publication.{Publication}
use Rattle.rules.specs.declared.Lease.{Lease}

-- the publications from the identifier n on, each with its payload
abbrev pub past_publications : ℕ → List Publication → List ℕ → List Event
past_publications n [] payloads = []
past_publications n (e ∷ es) payloads =
    began (record { 0 = n }) (get_or payloads n 0)
    ∷ cond e.retained [] (ended (record { 0 = n }) (get_or payloads n 0) ∷ []) ++ past_publications (suc n) es payloads

abbrev pub past_leases : List Lease → List Event
past_leases [] = []
past_leases (l ∷ ls) = lent l.publication l.id ∷ past_leases ls

abbrev pub past : Store → List Event
past s = past_publications 0 s.registry.publications s.payloads ++ past_leases s.registry.leases
