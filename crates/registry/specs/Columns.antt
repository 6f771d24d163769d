-- The registry's fields as columns, and back.
-- Assumes nothing.
use Rattle.rules.specs.Columns.{RegistryColumns}
use Rattle.registry.specs.declared.PublicationRegistry.{PublicationRegistry}

abbrev pub columns_of : PublicationRegistry → RegistryColumns
columns_of r =
    record {
      domain = r.domain;
      publications = r.publications;
      count = r.count;
      leases = r.leases;
      active = r.active;
      counter = r.counter;
    }

abbrev pub registry_of : RegistryColumns → PublicationRegistry
registry_of c =
    record {
      domain = c.domain;
      publications = c.publications;
      count = c.count;
      leases = c.leases;
      active = c.active;
      counter = c.counter;
    }
