-- Calls of the registry: what comes back, as the contract that the call's source states allows.
-- Assumes nothing.
use Rattle.std.specs.Prelude.{◌≡◌, Option, Some, None, ℕ}
use Rattle.rules.specs.Limits.{box}
use Rattle.rules.specs.Table.{Registry}
use Rattle.rules.specs.Columns.{used_registry, filled_registry}
use Rattle.rules.specs.Sound.{RegistryColumnsSound}
use Rattle.rules.specs.RegistryRows.{Call, CallAnswer, publish, can_adopt, adopt, check_lease_capacity, acquire, leased_slot, release, revoke, reclaim, resolve, entry, lease, domain, publication_records, lease_record_count, lease_allocation_count}
use Rattle.registry.specs.Columns.{columns_of, registry_of}
use Rattle.registry.specs.Answers.{result_of}
use Rattle.registry.specs.declared.PublicationRegistry.{PublicationRegistry}
use Rattle.registry.proofs.PublicationRegistry as registry
use Rattle.demands.specs.Calls.{holds}

abbrev pub RegistrySound : PublicationRegistry → Type 0
RegistrySound s = RegistryColumnsSound box (columns_of s)

abbrev pub registry_read : PublicationRegistry → Registry
registry_read s = used_registry (columns_of s)

abbrev pub registered : Registry → PublicationRegistry
registered u = registry_of (filled_registry box u)

-- a new registry, with or without domain

abbrev pub RegistryMade : Option ℕ → PublicationRegistry → Type 0
RegistryMade None s = holds registry.new.Reads.Post tt s
RegistryMade (Some n) s = holds registry.for_domain.Reads.Post (n, tt) s

abbrev pub RegistryByDefault : PublicationRegistry → Type 0
RegistryByDefault s = holds registry.default.Reads.Post tt s

-- a call made on a registry comes back with an answer and leaves a registry; those that only look leave it as it is

abbrev pub RegistryCalled : (k : Call) → PublicationRegistry → CallAnswer k → PublicationRegistry → Type 0
RegistryCalled (publish o g q v) s a t = holds registry.publish.Reads.Post (s, (o, (g, (q, (v, tt))))) (record { answer = result_of a; table = t })
RegistryCalled (can_adopt p o g) s a t = holds registry.can_adopt.Reads.Post (s, (p, (o, (g, tt)))) (result_of a) × (t ≡ s)
RegistryCalled (adopt p o g) s a t = holds registry.adopt.Reads.Post (s, (p, (o, (g, tt)))) (record { answer = result_of a; table = t })
RegistryCalled (check_lease_capacity n) s a t = holds registry.check_lease_capacity.Reads.Post (s, (n, tt)) (result_of a) × (t ≡ s)
RegistryCalled (acquire p None) s a t = holds registry.acquire.Reads.Post (s, (p, tt)) (record { answer = result_of a; table = t })
RegistryCalled (acquire p (Some k)) s a t = holds registry.acquire_for.Reads.Post (s, (p, (k.owner, (k.generation, tt)))) (record { answer = result_of a; table = t })
RegistryCalled (leased_slot i) s a t = holds registry.leased_slot.Reads.Post (s, (i, tt)) (result_of a) × (t ≡ s)
RegistryCalled (release i) s a t = holds registry.release.Reads.Post (s, (i, tt)) (record { answer = result_of a; table = t })
RegistryCalled (revoke p) s a t = holds registry.revoke.Reads.Post (s, (p, tt)) (record { answer = result_of a; table = t })
RegistryCalled (reclaim p) s a t = holds registry.reclaim.Reads.Post (s, (p, tt)) (record { answer = result_of a; table = t })
RegistryCalled (resolve q) s a t = holds registry.resolve.Reads.Post (s, (q, tt)) (result_of a) × (t ≡ s)
RegistryCalled (entry p) s a t = holds registry.entry.Reads.Post (s, (p, tt)) (result_of a) × (t ≡ s)
RegistryCalled (lease i) s a t = holds registry.lease.Reads.Post (s, (i, tt)) (result_of a) × (t ≡ s)
RegistryCalled domain s a t = holds registry.domain.Reads.Post (s, tt) (result_of a) × (t ≡ s)
RegistryCalled publication_records s a t = holds registry.publication_records.Reads.Post (s, tt) (result_of a) × (t ≡ s)
RegistryCalled lease_record_count s a t = holds registry.lease_record_count.Reads.Post (s, tt) (result_of a) × (t ≡ s)
RegistryCalled lease_allocation_count s a t = holds registry.lease_allocation_count.Reads.Post (s, tt) (result_of a) × (t ≡ s)
