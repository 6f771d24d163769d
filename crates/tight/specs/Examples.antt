-- What the registry's calls and the store's queries answer, by document 01's words, as one table of examples under one claim.
-- Assumes nothing.
use Rattle.std.specs.Prelude.{ℕ, ◌+◌, true, List, [], ◌∷◌, T, Some, None}
use Rattle.rules.specs.Table.{Registry, empty_registry}
use Rattle.rules.specs.Rows.{step}
use Rattle.rules.specs.Queries.{reply}
use Rattle.rules.specs.RegistryRows.{registry_step}
use Rattle.rules.specs.Probes as store
use Rattle.rules.specs.Probes.{many}
use Rattle.tight.specs.Asked.{Example, of_registry, of_store, after, asked, ◌gives◌, ◌refused_with◌, all_right}
use Rattle.tight.specs.RegistryCalls as registry
use Rattle.tight.specs.StoreQueries as query

-- a registry with one visible publication on port 7 in slot 40, the leases below a number, and a counter
abbrev pub lending : ℕ → ℕ → Registry
lending active counter =
    record {
      domain = None;
      publications = store.entry 4 0 7 40 true true ∷ [];
      leases = many active (λ n. store.lent n 0 None) [];
      counter = counter;
    }

-- A record is told field by field: an entry as owner, generation, port, slot, visible, retained; a lease as identifier, publication and
-- consumer, which is 0, or 1 with owner and generation; a domain as 0, or 1 with its number. Yes is 1, no is 0.
abbrev pub examples : List Example
examples =
    -- an empty registry: no domain, or a number; the three counts; what names nothing
    of_registry (empty_registry None)
    ((registry.domain gives 0 ∷ [])
    ∷ (registry.publication_records gives 0 ∷ [])
    ∷ (registry.lease_record_count gives 0 ∷ [])
    ∷ (registry.lease_allocation_count gives 0 ∷ [])
    ∷ (registry.resolve 0 refused_with 10)
    ∷ (registry.entry 0 refused_with 10)
    ∷ (registry.lease 0 refused_with 10)
    ∷ (registry.leased_slot 0 refused_with 1)
    ∷ (registry.can_adopt 0 0 1 refused_with 1)
    ∷ (registry.adopt 0 0 1 refused_with 1)
    ∷ (registry.acquire 0 refused_with 1)
    ∷ (registry.release 0 refused_with 1)
    ∷ (registry.revoke 0 refused_with 1)
    ∷ (registry.reclaim 0 refused_with 1)
    ∷ [])
    ∷ of_registry (empty_registry (Some 0)) ((registry.domain gives 1 ∷ 0 ∷ []) ∷ [])
    ∷ of_registry (empty_registry (Some 18_446_744_073_709_551_615)) ((registry.domain gives 1 ∷ 18_446_744_073_709_551_615 ∷ []) ∷ [])
    -- publish: identifiers from 0 on, the caller's slot; 3 while the port is visible, or the slot retained, or both
    ∷ of_registry (empty_registry (Some 6))
    ((registry.publish 4 0 7 40 gives 0 ∷ [])
    ∷ (registry.entry 0 gives 4 ∷ 0 ∷ 7 ∷ 40 ∷ 1 ∷ 1 ∷ [])
    ∷ (registry.publish 5 2 8 41 gives 1 ∷ [])
    ∷ (registry.entry 1 gives 5 ∷ 2 ∷ 8 ∷ 41 ∷ 1 ∷ 1 ∷ [])
    ∷ (registry.publish 5 2 7 42 refused_with 3)
    ∷ (registry.publish 5 2 9 40 refused_with 3)
    ∷ (registry.publish 5 2 7 40 refused_with 3)
    ∷ (registry.publication_records gives 2 ∷ [])
    ∷ (registry.resolve 7 gives 0 ∷ [])
    ∷ (registry.resolve 8 gives 1 ∷ [])
    ∷ (registry.resolve 9 refused_with 10)
    -- publish: a revoked one holds its slot and not its port; a reclaimed one neither
    ∷ (registry.revoke 0 gives [])
    ∷ (registry.resolve 7 refused_with 10)
    ∷ (registry.publish 5 2 7 40 refused_with 3)
    ∷ (registry.publish 5 2 7 42 gives 2 ∷ [])
    ∷ (registry.reclaim 0 gives 40 ∷ [])
    ∷ (registry.publish 6 0 9 40 gives 3 ∷ [])
    ∷ (registry.publish 6 0 10 40 refused_with 3)
    ∷ (registry.publication_records gives 4 ∷ [])
    ∷ (registry.domain gives 1 ∷ 6 ∷ [])
    ∷ [])
    -- publish: 96 records, 7 even where port or slot conflict; reclaimed ones are counted
    ∷ of_registry (empty_registry None)
    (many 96 (λ n. registry.publish 4 0 n (500 + n) gives n ∷ [])
    ((registry.publish 4 0 96 596 refused_with 7)
    ∷ (registry.publish 4 0 7 596 refused_with 7)
    ∷ (registry.publish 4 0 96 507 refused_with 7)
    ∷ (registry.revoke 7 gives [])
    ∷ (registry.reclaim 7 gives 507 ∷ [])
    ∷ (registry.publish 4 0 7 507 refused_with 7)
    ∷ (registry.publication_records gives 96 ∷ [])
    ∷ (registry.entry 95 gives 4 ∷ 0 ∷ 95 ∷ 595 ∷ 1 ∷ 1 ∷ [])
    ∷ (registry.entry 96 refused_with 10)
    ∷ []))
    -- adopt, and can_adopt as adopt, which changes nothing: 1, 6, 8, 4 in order, and what is carried out
    ∷ of_registry (empty_registry None)
    ((registry.publish 4 0 7 40 gives 0 ∷ [])
    ∷ (registry.can_adopt 1 4 1 refused_with 1)
    ∷ (registry.adopt 1 4 1 refused_with 1)
    ∷ (registry.can_adopt 0 5 1 refused_with 8)
    ∷ (registry.adopt 0 5 1 refused_with 8)
    ∷ (registry.can_adopt 0 4 2 refused_with 8)
    ∷ (registry.adopt 0 4 2 refused_with 8)
    ∷ (registry.acquire 0 gives 0 ∷ [])
    ∷ (registry.can_adopt 0 4 1 refused_with 4)
    ∷ (registry.adopt 0 4 1 refused_with 4)
    ∷ (registry.can_adopt 0 5 1 refused_with 8)
    ∷ (registry.adopt 0 5 1 refused_with 8)
    ∷ (registry.release 0 gives [])
    ∷ (registry.can_adopt 0 4 1 gives [])
    ∷ (registry.entry 0 gives 4 ∷ 0 ∷ 7 ∷ 40 ∷ 1 ∷ 1 ∷ [])
    ∷ (registry.adopt 0 4 1 gives [])
    ∷ (registry.entry 0 gives 4 ∷ 1 ∷ 7 ∷ 40 ∷ 1 ∷ 1 ∷ [])
    ∷ (registry.can_adopt 0 4 1 refused_with 8)
    ∷ (registry.adopt 0 4 1 refused_with 8)
    ∷ (registry.publish 4 0 8 41 gives 1 ∷ [])
    ∷ (registry.revoke 1 gives [])
    ∷ (registry.can_adopt 1 4 1 gives [])
    ∷ (registry.reclaim 1 gives 41 ∷ [])
    ∷ (registry.can_adopt 1 4 1 refused_with 6)
    ∷ (registry.adopt 1 4 1 refused_with 6)
    ∷ (registry.can_adopt 1 5 1 refused_with 6)
    ∷ (registry.adopt 1 5 1 refused_with 6)
    ∷ [])
    -- check_lease_capacity: active + count at 128 and above it, with 0, 3, 127 and 128 active
    ∷ of_registry (empty_registry None)
    ((registry.check_lease_capacity 0 gives [])
    ∷ (registry.check_lease_capacity 128 gives [])
    ∷ (registry.check_lease_capacity 129 refused_with 7)
    ∷ (registry.check_lease_capacity 18_446_744_073_709_551_615 refused_with 7)
    ∷ [])
    ∷ of_registry (lending 3 9) ((registry.check_lease_capacity 125 gives []) ∷ (registry.check_lease_capacity 126 refused_with 7) ∷ [])
    ∷ of_registry (lending 127 127)
    ((registry.check_lease_capacity 1 gives [])
    ∷ (registry.check_lease_capacity 2 refused_with 7)
    ∷ (registry.acquire 0 gives 127 ∷ [])
    ∷ (registry.check_lease_capacity 0 gives [])
    ∷ (registry.check_lease_capacity 1 refused_with 7)
    ∷ (registry.acquire 0 refused_with 7)
    ∷ (registry.lease_record_count gives 128 ∷ [])
    ∷ [])
    -- check_lease_capacity: counter + count at the last number and above it; at the counter's end none is left
    ∷ of_registry (lending 0 18_446_744_073_709_551_610)
    ((registry.check_lease_capacity 5 gives []) ∷ (registry.check_lease_capacity 6 refused_with 7) ∷ [])
    ∷ of_registry (lending 0 18_446_744_073_709_551_614)
    ((registry.check_lease_capacity 1 gives [])
    ∷ (registry.check_lease_capacity 2 refused_with 7)
    ∷ (registry.acquire 0 gives 18_446_744_073_709_551_614 ∷ [])
    ∷ (registry.check_lease_capacity 0 gives [])
    ∷ (registry.check_lease_capacity 1 refused_with 7)
    ∷ (registry.acquire_for 0 5 1 refused_with 7)
    ∷ (registry.lease_allocation_count gives 18_446_744_073_709_551_615 ∷ [])
    ∷ (registry.leased_slot 18_446_744_073_709_551_614 gives 40 ∷ [])
    ∷ (registry.leased_slot 18_446_744_073_709_551_615 refused_with 1)
    ∷ [])
    -- acquire records no consumer, acquire_for one; lease shows the record; leased_slot, the slot of the one that the lease names
    ∷ of_registry (empty_registry None)
    ((registry.publish 4 0 7 40 gives 0 ∷ [])
    ∷ (registry.publish 4 0 8 41 gives 1 ∷ [])
    ∷ (registry.acquire 1 gives 0 ∷ [])
    ∷ (registry.acquire_for 1 5 3 gives 1 ∷ [])
    ∷ (registry.acquire_for 0 0 0 gives 2 ∷ [])
    ∷ (registry.acquire 2 refused_with 1)
    ∷ (registry.acquire_for 2 5 3 refused_with 1)
    ∷ (registry.lease 0 gives 0 ∷ 1 ∷ 0 ∷ [])
    ∷ (registry.lease 1 gives 1 ∷ 1 ∷ 1 ∷ 5 ∷ 3 ∷ [])
    ∷ (registry.lease 2 gives 2 ∷ 0 ∷ 1 ∷ 0 ∷ 0 ∷ [])
    ∷ (registry.leased_slot 0 gives 41 ∷ [])
    ∷ (registry.leased_slot 2 gives 40 ∷ [])
    -- release: its record out, the others as they were, the counter too; then lease 10 as for one never given, leased_slot 6 and not 1
    ∷ (registry.release 1 gives [])
    ∷ (registry.lease 1 refused_with 10)
    ∷ (registry.lease 3 refused_with 10)
    ∷ (registry.leased_slot 1 refused_with 6)
    ∷ (registry.leased_slot 3 refused_with 1)
    ∷ (registry.release 1 refused_with 6)
    ∷ (registry.release 3 refused_with 1)
    ∷ (registry.lease 0 gives 0 ∷ 1 ∷ 0 ∷ [])
    ∷ (registry.lease 2 gives 2 ∷ 0 ∷ 1 ∷ 0 ∷ 0 ∷ [])
    ∷ (registry.lease_record_count gives 2 ∷ [])
    ∷ (registry.lease_allocation_count gives 3 ∷ [])
    ∷ (registry.acquire 0 gives 3 ∷ [])
    ∷ (registry.lease_record_count gives 3 ∷ [])
    ∷ (registry.lease_allocation_count gives 4 ∷ [])
    -- revoke: no new lease, 2; the leases given out still show the slot; revoking again is allowed
    ∷ (registry.revoke 1 gives [])
    ∷ (registry.entry 1 gives 4 ∷ 0 ∷ 8 ∷ 41 ∷ 0 ∷ 1 ∷ [])
    ∷ (registry.acquire 1 refused_with 2)
    ∷ (registry.acquire_for 1 5 3 refused_with 2)
    ∷ (registry.leased_slot 0 gives 41 ∷ [])
    ∷ (registry.revoke 1 gives [])
    ∷ (registry.revoke 2 refused_with 1)
    -- reclaim: unknown 1, visible and leased 5, revoked and leased 4, drained the slot, again 6
    ∷ (registry.reclaim 2 refused_with 1)
    ∷ (registry.reclaim 0 refused_with 5)
    ∷ (registry.reclaim 1 refused_with 4)
    ∷ (registry.release 0 gives [])
    ∷ (registry.reclaim 1 gives 41 ∷ [])
    ∷ (registry.reclaim 1 refused_with 6)
    -- entry shows the record of a reclaimed one as well, and is 10 at the number of publications; a reclaimed one may be revoked, and is 2 to acquire
    ∷ (registry.entry 1 gives 4 ∷ 0 ∷ 8 ∷ 41 ∷ 0 ∷ 0 ∷ [])
    ∷ (registry.entry 2 refused_with 10)
    ∷ (registry.revoke 1 gives [])
    ∷ (registry.entry 1 gives 4 ∷ 0 ∷ 8 ∷ 41 ∷ 0 ∷ 0 ∷ [])
    ∷ (registry.acquire 1 refused_with 2)
    ∷ (registry.publication_records gives 2 ∷ [])
    ∷ [])
    -- leased_value is read without the revision: the publication that the lease names, and its handle
    ∷ of_store store.empty
    (after (store.publish 4 0 7 900)
    ∷ after (store.publish 4 0 8 901)
    ∷ after (store.acquire 1 5 1)
    ∷ after (store.acquire 0 5 1)
    ∷ asked (query.leased_value 0 gives 1 ∷ 901 ∷ [])
    ∷ asked (query.leased_value 1 gives 0 ∷ 900 ∷ [])
    ∷ asked (query.leased_value 2 refused_with 1)
    ∷ after (store.replace 1 4 0 902)
    ∷ after (store.revoke 1)
    ∷ asked (query.leased_value 0 gives 1 ∷ 902 ∷ [])
    ∷ after (store.release 0)
    ∷ asked (query.leased_value 0 refused_with 6)
    ∷ asked (query.leased_value 1 gives 0 ∷ 900 ∷ [])
    ∷ [])
    -- value is observe without the revision: a revoked one shows its handle, a reclaimed one and an unknown one are 10; 0 is ordinary
    ∷ of_store store.empty
    (asked (query.value 0 refused_with 10)
    ∷ after (store.publish 4 0 7 900)
    ∷ after (store.publish 4 0 8 0)
    ∷ asked (query.value 0 gives 900 ∷ [])
    ∷ asked (query.value 1 gives 0 ∷ [])
    ∷ asked (query.value 2 refused_with 10)
    ∷ after (store.replace 0 4 0 902)
    ∷ after (store.revoke 0)
    ∷ asked (query.value 0 gives 902 ∷ [])
    ∷ after (store.reclaim 0)
    ∷ asked (query.value 0 refused_with 10)
    ∷ asked (query.value 1 gives 0 ∷ [])
    ∷ [])
    -- contains_handle: yes for one that a retained publication holds, also when two did; no for one replaced, reclaimed or never seen
    ∷ of_store store.empty
    (asked (query.contains_handle 900 gives 0 ∷ [])
    ∷ after (store.publish 4 0 7 900)
    ∷ after (store.publish 4 0 8 901)
    ∷ after (store.publish 4 0 9 901)
    ∷ asked (query.contains_handle 900 gives 1 ∷ [])
    ∷ asked (query.contains_handle 901 gives 1 ∷ [])
    ∷ asked (query.contains_handle 902 gives 0 ∷ [])
    ∷ after (store.replace 0 4 0 902)
    ∷ asked (query.contains_handle 900 gives 0 ∷ [])
    ∷ asked (query.contains_handle 902 gives 1 ∷ [])
    ∷ after (store.revoke 1)
    ∷ after (store.reclaim 1)
    ∷ asked (query.contains_handle 901 gives 1 ∷ [])
    ∷ after (store.revoke 2)
    ∷ asked (query.contains_handle 901 gives 1 ∷ [])
    ∷ after (store.reclaim 2)
    ∷ asked (query.contains_handle 901 gives 0 ∷ [])
    ∷ [])
    -- contains_handle 0: no in an empty store, yes while a retained publication holds 0, no when only reclaimed cells are 0
    ∷ of_store store.empty
    (asked (query.contains_handle 0 gives 0 ∷ [])
    ∷ after (store.publish 4 0 7 0)
    ∷ asked (query.contains_handle 0 gives 1 ∷ [])
    ∷ after (store.revoke 0)
    ∷ asked (query.contains_handle 0 gives 1 ∷ [])
    ∷ after (store.reclaim 0)
    ∷ asked (query.contains_handle 0 gives 0 ∷ [])
    ∷ after (store.publish 4 0 7 900)
    ∷ asked (query.contains_handle 0 gives 0 ∷ [])
    ∷ [])
    -- the registry: counter, publications, leases, domain, then the records
    ∷ of_store (store.given 3 9)
    (asked (query.registry_copy gives 9 ∷ 1 ∷ 0 ∷ 0 ∷ 4 ∷ 0 ∷ 7 ∷ 0 ∷ 1 ∷ 1 ∷ [])
    ∷ after (store.publish 5 2 8 901)
    ∷ after (store.acquire 0 5 1)
    ∷ after (store.revoke 1)
    ∷ after (store.reclaim 1)
    ∷ asked
    (query.registry_copy gives
    10 ∷ 2 ∷ 1 ∷ 0
    ∷ 4 ∷ 0 ∷ 7 ∷ 0 ∷ 1 ∷ 1
    ∷ 5 ∷ 2 ∷ 8 ∷ 1 ∷ 0 ∷ 0
    ∷ 9 ∷ 0 ∷ 1 ∷ 5 ∷ 1
    ∷ [])
    ∷ [])
    ∷ []

-- each of them comes out as it says
pub examples_hold : T (all_right examples)
unfolding step reply registry_step
examples_hold = tt
