-- The store's queries that the trace does not write, with plain numbers.
-- Assumes nothing.
use Rattle.std.specs.Prelude.{ℕ}
use Rattle.rules.specs.Queries.{Query}

abbrev pub leased_value : ℕ → Query
leased_value lease = Query.leased_value (record { 0 = lease })

abbrev pub value : ℕ → Query
value id = Query.value (record { 0 = id })

abbrev pub contains_handle : ℕ → Query
contains_handle handle = Query.contains_handle handle

abbrev pub registry_copy : Query
registry_copy = Query.registry_copy
