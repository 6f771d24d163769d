-- Tables as the code's parameters give them. No row and no test reads the domain, so there is none.
-- Assumes nothing.
use Rattle.std.specs.Prelude.{ℕ, None, List, [], ◌∷◌}
use Rattle.rules.specs.Columns.{RegistryColumns, StoreColumns}
use Rattle.rules.specs.Table.{Registry, Store}
use Rattle.rules.specs.declared.Publication.{Publication}
use Rattle.rules.specs.declared.PublicationId.{PublicationId}
use Rattle.rules.specs.declared.Lease.{Lease}

-- the columns of fixed length, with the numbers of records in use

abbrev pub columns_of : List Publication → ℕ → List Lease → ℕ → ℕ → RegistryColumns
columns_of publications count leases active counter =
    record {
      domain = None;
      publications = publications;
      count = count;
      leases = leases;
      active = active;
      counter = counter;
    }

abbrev pub store_columns_of : List Publication → ℕ → List Lease → ℕ → ℕ → List ℕ → List ℕ → StoreColumns
store_columns_of publications count leases active counter payloads revisions =
    record { registry = columns_of publications count leases active counter; payloads = payloads; revisions = revisions }

-- the records in use

abbrev pub table_of : List Publication → List Lease → ℕ → Registry
table_of publications leases counter = record { domain = None; publications = publications; leases = leases; counter = counter }

-- one record by itself, and its identifier

abbrev pub alone : Publication → List Lease → ℕ → Registry
alone e leases counter = table_of (e ∷ []) leases counter

abbrev pub alone_in_store : Publication → ℕ → Store
alone_in_store e revision = record { registry = alone e [] 0; payloads = 0 ∷ []; revisions = revision ∷ [] }

abbrev pub first : PublicationId
first = record { 0 = 0 }
