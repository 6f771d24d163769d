-- The tables, as lists of the records in use: a registry, and a store, which has a payload and a revision for each publication.
-- Assumes nothing.
use Rattle.std.specs.Prelude.{ℕ, false, List, [], get_or, Option, Some, None}
use Rattle.rules.specs.declared.Publication.{Publication}
use Rattle.rules.specs.declared.PublicationId.{PublicationId}
use Rattle.rules.specs.declared.Lease.{Lease}
use Rattle.rules.specs.declared.Consumer.{Consumer}
use Rattle.rules.specs.declared.Owner.{Owner}

pub record Registry : Type 0 where
  pub domain : Option ℕ
  -- by identifier, from 0 on; reclaimed ones stay
  pub publications : List Publication
  -- the active ones, in the order in which they were given out
  pub leases : List Lease
  -- how many leases were ever given out
  pub counter : ℕ

pub record Store : Type 0 where
  pub registry : Registry
  pub payloads : List ℕ
  pub revisions : List ℕ

-- blank records: numbers 0, flags false, consumer none

abbrev pub blank_publication : Publication
blank_publication =
    record { owner = record { 0 = 0 }; generation = 0; port = record { 0 = 0 }; slot = 0; visible = false; retained = false }

abbrev pub blank_lease : Lease
blank_lease = record { id = record { 0 = 0 }; publication = record { 0 = 0 }; consumer = None }

-- a lease taken by an owner in a generation
abbrev pub taken_by : Owner → ℕ → Option Consumer
taken_by o g = Some (record { owner = o; generation = g })

abbrev pub empty_registry : Option ℕ → Registry
empty_registry d = record { domain = d; publications = []; leases = []; counter = 0 }

abbrev pub empty_store : Option ℕ → Store
empty_store d = record { registry = empty_registry d; payloads = []; revisions = [] }

-- the record, the payload and the revision at an identifier; past the end they are blank

abbrev pub at : List Publication → PublicationId → Publication
at es p = get_or es p.0 blank_publication

abbrev pub publication_of : Store → PublicationId → Publication
publication_of s p = at s.registry.publications p

abbrev pub payload_of : Store → PublicationId → ℕ
payload_of s p = get_or s.payloads p.0 0

abbrev pub revision_of : Store → PublicationId → ℕ
revision_of s p = get_or s.revisions p.0 0
