-- The number of the answer that the code gives: document 01's reading of each answer's cases.
-- Assumes nothing.
use Rattle.std.specs.Prelude.{ℕ}
use Rattle.rules.specs.Commands.{AnswerTo}
use Rattle.rules.specs.Queries.{Query, leased_value, value, contains_handle, registry_copy}
use Rattle.rules.specs.RegistryRows.{Call, CallAnswer, publish, can_adopt, adopt, check_lease_capacity, acquire, leased_slot, release, revoke, reclaim, resolve, entry, lease, domain, publication_records, lease_record_count, lease_allocation_count}
use Rattle.rules.specs.declared.Command.{Command}
use Rattle.rules.specs.declared.Command.TheVariants.{Publish, Adopt, Acquire, Release, Revoke, Replace, Reclaim, Read, Observe, Resolve, Count}
use Rattle.registry.specs.Answers.{result_of}
use Rattle.store.specs.Answers.{rejected_of}
use Rattle.numbers.specs.Registry.{result_number}
use Rattle.numbers.specs.Store.{rejected_number}
use Rattle.demands.specs.Calls.{Given}

abbrev pub command_number : (c : Command) → AnswerTo c → ℕ
command_number (Publish o g q v) a = rejected_number (rejected_of a)
command_number (Adopt p o g) a = result_number (result_of a)
command_number (Acquire p o g) a = result_number (result_of a)
command_number (Release i) a = result_number (result_of a)
command_number (Revoke p) a = result_number (result_of a)
command_number (Replace p o g v) a = rejected_number (rejected_of a)
command_number (Reclaim p) a = result_number (result_of a)
command_number (Read i) a = result_number (result_of a)
command_number (Observe p) a = result_number (result_of a)
command_number (Resolve q) a = result_number (result_of a)
command_number Count a = result_number (result_of a)

abbrev pub query_number : (q : Query) → Given q → ℕ
query_number (leased_value i) x = result_number x
query_number (value p) x = result_number x
query_number (contains_handle h) x = result_number x.answer
query_number registry_copy x = result_number x.answer

abbrev pub call_number : (k : Call) → CallAnswer k → ℕ
call_number (publish o g q v) a = result_number (result_of a)
call_number (can_adopt p o g) a = result_number (result_of a)
call_number (adopt p o g) a = result_number (result_of a)
call_number (check_lease_capacity n) a = result_number (result_of a)
call_number (acquire p k) a = result_number (result_of a)
call_number (leased_slot i) a = result_number (result_of a)
call_number (release i) a = result_number (result_of a)
call_number (revoke p) a = result_number (result_of a)
call_number (reclaim p) a = result_number (result_of a)
call_number (resolve q) a = result_number (result_of a)
call_number (entry p) a = result_number (result_of a)
call_number (lease i) a = result_number (result_of a)
call_number domain a = result_number (result_of a)
call_number publication_records a = result_number (result_of a)
call_number lease_record_count a = result_number (result_of a)
call_number lease_allocation_count a = result_number (result_of a)
