-- The registry's own calls: the same rows without handle and revision.
-- Assumes nothing.
use Rattle.std.specs.Prelude.{ℕ, ◌+◌, not, ◌&&◌, ◌||◌, List, [], ◌∷◌, leb, length, Option}
use Rattle.rules.specs.Limits.{Limits}
use Rattle.rules.specs.Answers.{Answer, Test, Outcome, ◌⇒◌, verdict, carry}
use Rattle.rules.specs.Table.{Registry, at}
use Rattle.rules.specs.Conditions.{unknown, full, port_held, slot_held, active, lease_of, resolved}
use Rattle.rules.specs.Changes.{published, adopted, hidden, reclaimed, and_publication, change, and_lease, without_lease}
use Rattle.rules.specs.Rows.{adopt_row, acquire_row, lease_row, revoke_row, reclaim_row, resolve_row}
use Rattle.rules.specs.declared.PublicationId.{PublicationId}
use Rattle.rules.specs.declared.LeaseId.{LeaseId}
use Rattle.rules.specs.declared.Owner.{Owner}
use Rattle.rules.specs.declared.Port.{Port}
use Rattle.rules.specs.declared.Publication.{Publication}
use Rattle.rules.specs.declared.Consumer.{Consumer}
use Rattle.rules.specs.declared.Lease.{Lease}
use Rattle.rules.specs.declared.Refusal.TheVariants.{Conflict, Capacity, Absent}

pub data Call : Type 0 where
  -- the slot is the caller's
  publish : (owner : Owner) (generation : ℕ) (port : Port) (slot : ℕ) → Call
  can_adopt : (id : PublicationId) (owner : Owner) (generation : ℕ) → Call
  adopt : (id : PublicationId) (owner : Owner) (generation : ℕ) → Call
  check_lease_capacity : (count : ℕ) → Call
  -- acquire records no consumer, acquire_for an owner in a generation
  acquire : (id : PublicationId) (consumer : Option Consumer) → Call
  leased_slot : (lease : LeaseId) → Call
  release : (lease : LeaseId) → Call
  revoke : (id : PublicationId) → Call
  reclaim : (id : PublicationId) → Call
  -- queries
  resolve : (port : Port) → Call
  entry : (id : PublicationId) → Call
  lease : (lease : LeaseId) → Call
  domain : Call
  publication_records : Call
  lease_record_count : Call
  lease_allocation_count : Call

abbrev pub CallResult : Call → Type 0
CallResult (publish o g q s) = PublicationId
CallResult (can_adopt p o g) = Unit {0}
CallResult (adopt p o g) = Unit {0}
CallResult (check_lease_capacity n) = Unit {0}
CallResult (acquire p k) = LeaseId
CallResult (leased_slot i) = ℕ
CallResult (release i) = Unit {0}
CallResult (revoke p) = Unit {0}
CallResult (reclaim p) = ℕ
CallResult (resolve q) = PublicationId
CallResult (entry p) = Publication
CallResult (lease i) = Lease
CallResult domain = Option ℕ
CallResult publication_records = ℕ
CallResult lease_record_count = ℕ
CallResult lease_allocation_count = ℕ

-- nothing stands beside a refusal
abbrev pub CallAnswer : Call → Type 0
CallAnswer c = Answer (CallResult c) (Unit {0})

-- as many leases more as are asked for
abbrev pub lease_capacity : Limits → Registry → ℕ → List Test
lease_capacity L t n =
    (not (leb (t.counter + n) L.top && leb (length t.leases + n) L.leases) ⇒ Capacity) ∷ []

-- publish: 7, 3; the slot must be free as well
abbrev pub slot_publish_row : Limits → Registry → Port → ℕ → List Test
slot_publish_row L t q s = (full t L ⇒ Capacity) ∷ (port_held t q || slot_held t s ⇒ Conflict) ∷ []

abbrev pub call_tests : Limits → Registry → Call → List Test
call_tests L t (publish o g q s) = slot_publish_row L t q s
call_tests L t (can_adopt p o g) = adopt_row L t p o g
call_tests L t (adopt p o g) = adopt_row L t p o g
call_tests L t (check_lease_capacity n) = lease_capacity L t n
call_tests L t (acquire p k) = acquire_row L t p
call_tests L t (leased_slot i) = lease_row L t i
call_tests L t (release i) = lease_row L t i
call_tests L t (revoke p) = revoke_row L t p
call_tests L t (reclaim p) = reclaim_row L t p
call_tests L t (resolve q) = resolve_row L t q
call_tests L t (entry p) = (unknown t p ⇒ Absent) ∷ []
call_tests L t (lease i) = (not (active t i) ⇒ Absent) ∷ []
call_tests L t domain = []
call_tests L t publication_records = []
call_tests L t lease_record_count = []
call_tests L t lease_allocation_count = []

abbrev pub call_result : (t : Registry) (c : Call) → CallResult c
call_result t (publish o g q s) = record { 0 = length t.publications }
call_result t (can_adopt p o g) = tt
call_result t (adopt p o g) = tt
call_result t (check_lease_capacity n) = tt
call_result t (acquire p k) = record { 0 = t.counter }
call_result t (leased_slot i) = (at t.publications (lease_of t i).publication).slot
call_result t (release i) = tt
call_result t (revoke p) = tt
call_result t (reclaim p) = (at t.publications p).slot
call_result t (resolve q) = resolved t q
call_result t (entry p) = at t.publications p
call_result t (lease i) = lease_of t i
call_result t domain = t.domain
call_result t publication_records = length t.publications
call_result t lease_record_count = length t.leases
call_result t lease_allocation_count = t.counter

abbrev pub call_effect : Registry → Call → Registry
call_effect t (publish o g q s) = and_publication t (published o g q s)
call_effect t (can_adopt p o g) = t
call_effect t (adopt p o g) = change t p adopted
call_effect t (check_lease_capacity n) = t
call_effect t (acquire p k) = and_lease t p k
call_effect t (leased_slot i) = t
call_effect t (release i) = without_lease t i
call_effect t (revoke p) = change t p hidden
call_effect t (reclaim p) = change t p reclaimed
call_effect t (resolve q) = t
call_effect t (entry p) = t
call_effect t (lease i) = t
call_effect t domain = t
call_effect t publication_records = t
call_effect t lease_record_count = t
call_effect t lease_allocation_count = t

-- one call of the registry on a sound table
unfoldable pub registry_step : Limits → Registry → (c : Call) → Outcome Registry (CallAnswer c)
registry_step L t c = carry (verdict (call_tests L t c)) t tt (call_result t c) (call_effect t c)
