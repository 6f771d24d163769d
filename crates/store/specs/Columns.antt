-- The store's fields as columns, and back.
-- Assumes nothing.
use Rattle.rules.specs.Columns.{StoreColumns}
use Rattle.registry.specs.Columns as registry
use Rattle.store.specs.declared.PublicationStore.{PublicationStore}

abbrev pub columns_of : PublicationStore → StoreColumns
columns_of s = record { registry = registry.columns_of s.registry; payloads = s.payloads; revisions = s.revisions }

abbrev pub store_of : StoreColumns → PublicationStore
store_of c = record { registry = registry.registry_of c.registry; payloads = c.payloads; revisions = c.revisions }
