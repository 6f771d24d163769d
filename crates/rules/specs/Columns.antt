-- Raw tables: columns of fixed length, filled up with blanks, beside the numbers of records in use.
-- Assumes nothing.
use Rattle.std.specs.Prelude.{ℕ, List, length, take, Option}
use Rattle.lists.specs.Column.{padded}
use Rattle.rules.specs.Limits.{Limits}
use Rattle.rules.specs.Table.{Registry, Store, blank_publication, blank_lease}
use Rattle.rules.specs.declared.Publication.{Publication}
use Rattle.rules.specs.declared.Lease.{Lease}

pub record RegistryColumns : Type 0 where
  pub domain : Option ℕ
  pub publications : List Publication
  pub count : ℕ
  pub leases : List Lease
  pub active : ℕ
  pub counter : ℕ

pub record StoreColumns : Type 0 where
  pub registry : RegistryColumns
  pub payloads : List ℕ
  pub revisions : List ℕ

-- the records in use

abbrev pub used_registry : RegistryColumns → Registry
used_registry c =
    record {
      domain = c.domain;
      publications = take c.count c.publications;
      leases = take c.active c.leases;
      counter = c.counter;
    }

abbrev pub used : StoreColumns → Store
used c =
    record {
      registry = used_registry c.registry;
      payloads = take c.registry.count c.payloads;
      revisions = take c.registry.count c.revisions;
    }

-- a table laid out in columns

abbrev pub filled_registry : Limits → Registry → RegistryColumns
filled_registry L t =
    record {
      domain = t.domain;
      publications = padded L.publications blank_publication t.publications;
      count = length t.publications;
      leases = padded L.leases blank_lease t.leases;
      active = length t.leases;
      counter = t.counter;
    }

abbrev pub filled : Limits → Store → StoreColumns
filled L s =
    record {
      registry = filled_registry L s.registry;
      payloads = padded L.publications 0 s.payloads;
      revisions = padded L.publications 0 s.revisions;
    }
