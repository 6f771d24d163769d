-- The registry's calls, with plain numbers in upstream's order.
-- Assumes nothing.
use Rattle.std.specs.Prelude.{ℕ, None}
use Rattle.rules.specs.RegistryRows.{Call}
use Rattle.rules.specs.Table.{taken_by}

abbrev pub publish : ℕ → ℕ → ℕ → ℕ → Call
publish owner generation port slot = Call.publish (record { 0 = owner }) generation (record { 0 = port }) slot

abbrev pub can_adopt : ℕ → ℕ → ℕ → Call
can_adopt id owner generation = Call.can_adopt (record { 0 = id }) (record { 0 = owner }) generation

abbrev pub adopt : ℕ → ℕ → ℕ → Call
adopt id owner generation = Call.adopt (record { 0 = id }) (record { 0 = owner }) generation

abbrev pub check_lease_capacity : ℕ → Call
check_lease_capacity count = Call.check_lease_capacity count

abbrev pub acquire : ℕ → Call
acquire id = Call.acquire (record { 0 = id }) None

abbrev pub acquire_for : ℕ → ℕ → ℕ → Call
acquire_for id owner generation = Call.acquire (record { 0 = id }) (taken_by (record { 0 = owner }) generation)

abbrev pub leased_slot : ℕ → Call
leased_slot lease = Call.leased_slot (record { 0 = lease })

abbrev pub release : ℕ → Call
release lease = Call.release (record { 0 = lease })

abbrev pub revoke : ℕ → Call
revoke id = Call.revoke (record { 0 = id })

abbrev pub reclaim : ℕ → Call
reclaim id = Call.reclaim (record { 0 = id })

abbrev pub resolve : ℕ → Call
resolve port = Call.resolve (record { 0 = port })

abbrev pub entry : ℕ → Call
entry id = Call.entry (record { 0 = id })

abbrev pub lease : ℕ → Call
lease id = Call.lease (record { 0 = id })

abbrev pub domain : Call
domain = Call.domain

abbrev pub publication_records : Call
publication_records = Call.publication_records

abbrev pub lease_record_count : Call
lease_record_count = Call.lease_record_count

abbrev pub lease_allocation_count : Call
lease_allocation_count = Call.lease_allocation_count
