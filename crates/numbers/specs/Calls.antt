-- The values of the answer to each call of the registry, and to each query of the store that the trace does not write.
-- Assumes nothing.
use Rattle.std.specs.Prelude.{ℕ, List, [], ◌∷◌}
use Rattle.rules.specs.Queries.{Query, ReplyTo, leased_value, value, contains_handle, registry_copy}
use Rattle.rules.specs.RegistryRows.{Call, CallAnswer, publish, can_adopt, adopt, check_lease_capacity, acquire, leased_slot, release, revoke, reclaim, resolve, entry, lease, domain, publication_records, lease_record_count, lease_allocation_count}
use Rattle.registry.specs.Answers.{result_of}
use Rattle.store.specs.Answers.{contained_of}
use Rattle.numbers.specs.Registry.{flag, result_values, no_values, id_values, lease_id_values, number_values, publication_values, lease_values, domain_numbers}
use Rattle.numbers.specs.Store.{leased_values}

abbrev pub call_values : (k : Call) → CallAnswer k → List ℕ
call_values (publish o g q s) a = result_values id_values (result_of a)
call_values (can_adopt p o g) a = result_values no_values (result_of a)
call_values (adopt p o g) a = result_values no_values (result_of a)
call_values (check_lease_capacity n) a = result_values no_values (result_of a)
call_values (acquire p k) a = result_values lease_id_values (result_of a)
call_values (leased_slot i) a = result_values number_values (result_of a)
call_values (release i) a = result_values no_values (result_of a)
call_values (revoke p) a = result_values no_values (result_of a)
call_values (reclaim p) a = result_values number_values (result_of a)
call_values (resolve q) a = result_values id_values (result_of a)
call_values (entry p) a = result_values publication_values (result_of a)
call_values (lease i) a = result_values lease_values (result_of a)
call_values domain a = result_values domain_numbers (result_of a)
call_values publication_records a = result_values number_values (result_of a)
call_values lease_record_count a = result_values number_values (result_of a)
call_values lease_allocation_count a = result_values number_values (result_of a)

-- a yes or no stands beside a refusal too; of a copy of the registry no values are told

abbrev pub query_values : (q : Query) → ReplyTo q → List ℕ
query_values (leased_value i) a = result_values leased_values (result_of a)
query_values (value p) a = result_values number_values (result_of a)
query_values (contains_handle h) a = flag (contained_of a).present ∷ []
query_values registry_copy a = []
