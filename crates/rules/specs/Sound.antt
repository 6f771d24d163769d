-- When a table is sound: document 01's S1 to S6. (Past the end of a list stand blank records, which are neither visible nor retained.)
-- Assumes nothing.
use Rattle.std.specs.Prelude.{◌≤◌, ◌<◌, ◌≡◌, true, false, List, [], ◌∷◌, length}
use Rattle.lists.specs.Every.{Every}
use Rattle.rules.specs.Limits.{Limits}
use Rattle.rules.specs.Table.{Registry, Store, at, publication_of, payload_of}
use Rattle.rules.specs.Columns.{RegistryColumns, StoreColumns, used_registry, used, filled_registry, filled}
use Rattle.rules.specs.declared.PublicationId.{PublicationId}
use Rattle.rules.specs.declared.Lease.{Lease}

-- publications ≤ 96, active leases ≤ 128, active leases ≤ counter
pub record S1 (L : Limits) (t : Registry) : Type 0 where
  pub publication_room : length t.publications ≤ L.publications
  pub lease_room : length t.leases ≤ L.leases
  pub given_out : length t.leases ≤ t.counter

-- visible implies retained
abbrev pub S2 : Registry → Type 0
S2 t = (p : PublicationId) → (at t.publications p).visible ≡ true → (at t.publications p).retained ≡ true

-- no two visible publications share a port, no two retained ones a slot
pub record S3 (t : Registry) : Type 0 where
  pub ports : (p q : PublicationId)
      → (at t.publications p).visible ≡ true
      → (at t.publications q).visible ≡ true
      → (at t.publications p).port ≡ (at t.publications q).port
      → p ≡ q
  pub slots : (p q : PublicationId)
      → (at t.publications p).retained ≡ true
      → (at t.publications q).retained ≡ true
      → (at t.publications p).slot ≡ (at t.publications q).slot
      → p ≡ q

-- each identifier is below all later ones
abbrev pub Rising : List Lease → Type 0
Rising [] = Unit {0}
Rising (l ∷ ls) = Every (λ m. l.id.0 < m.id.0) ls × Rising ls

-- lease identifiers rise strictly, all are below the counter, and each names a retained publication
pub record S4 (t : Registry) : Type 0 where
  pub rising : Rising t.leases
  pub below : Every (λ l. l.id.0 < t.counter) t.leases
  pub named : Every (λ l. (at t.publications l.publication).retained ≡ true) t.leases

-- (store) each slot equals its publication's identifier; a payload that isn't retained is 0; each publication has a payload and a
-- revision
pub record S5 (s : Store) : Type 0 where
  pub slots : (p : PublicationId) → p.0 < length s.registry.publications → (publication_of s p).slot ≡ p.0
  pub payloads : (p : PublicationId) → (publication_of s p).retained ≡ false → payload_of s p ≡ 0
  pub payload_each : length s.payloads ≡ length s.registry.publications
  pub revision_each : length s.revisions ≡ length s.registry.publications

-- unused records are blank: the records in use, filled up with blanks, are the columns

abbrev pub S6Registry : Limits → RegistryColumns → Type 0
S6Registry L c = filled_registry L (used_registry c) ≡ c

abbrev pub S6 : Limits → StoreColumns → Type 0
S6 L c = filled L (used c) ≡ c

-- a registry, without S5; a store

pub record RegistrySound (L : Limits) (t : Registry) : Type 0 where
  pub s1 : S1 L t
  pub s2 : S2 t
  pub s3 : S3 t
  pub s4 : S4 t

pub record StoreSound (L : Limits) (s : Store) : Type 0 where
  pub registry : RegistrySound L s.registry
  pub s5 : S5 s

-- the same of raw tables

pub record RegistryColumnsSound (L : Limits) (c : RegistryColumns) : Type 0 where
  pub in_use : RegistrySound L (used_registry c)
  pub s6 : S6Registry L c

pub record StoreColumnsSound (L : Limits) (c : StoreColumns) : Type 0 where
  pub in_use : StoreSound L (used c)
  pub s6 : S6 L c
