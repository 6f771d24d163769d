-- The number of a refusal, as the code's answers carry it: the one fixed for it, and never 0.
-- Assumes nothing.
use mathlib.Core.Path.{◌≡◌, refl}
use Rattle.rules.specs.Refusals.{refusal_number}
use Rattle.rules.specs.Answers.{refused, done}
use Rattle.rules.specs.Commands.{Offered}
use Rattle.rules.specs.Queries.{Query, QueryResult, Beside, leased_value, value, contains_handle, registry_copy}
use Rattle.rules.specs.RegistryRows.{Call, publish, can_adopt, adopt, check_lease_capacity, acquire, leased_slot, release, revoke, reclaim, resolve, entry, lease, domain, publication_records, lease_record_count, lease_allocation_count}
use Rattle.rules.specs.declared.Refusal.{Refusal}
use Rattle.rules.specs.declared.Command.{Command}
use Rattle.rules.specs.declared.Command.TheVariants.{Publish, Adopt, Acquire, Release, Revoke, Replace, Reclaim, Read, Observe, Resolve, Count}
use Rattle.rules.proofs.Numbers as numbers
use Rattle.rules.proofs.Responses.{no_refusal}
use Rattle.demands.specs.Calls.{given}
use Rattle.demands.specs.Numbers.{command_number, query_number, call_number}

pub command_carries : (c : Command) (r : Refusal) (b : Offered c) → command_number c (refused r b) ≡ refusal_number r
command_carries (Publish o g q v) r b = refl
command_carries (Adopt p o g) r b = refl
command_carries (Acquire p o g) r b = refl
command_carries (Release i) r b = refl
command_carries (Revoke p) r b = refl
command_carries (Replace p o g v) r b = refl
command_carries (Reclaim p) r b = refl
command_carries (Read i) r b = refl
command_carries (Observe p) r b = refl
command_carries (Resolve q) r b = refl
command_carries Count r b = refl

pub query_carries : (q : Query) (r : Refusal) (b : Beside q) → query_number q (given q (refused r b)) ≡ refusal_number r
query_carries (leased_value i) r b = refl
query_carries (value p) r b = refl
query_carries (contains_handle h) r b = refl
query_carries registry_copy r b = refl

pub call_carries : (k : Call) (r : Refusal) → call_number k (refused r tt) ≡ refusal_number r
call_carries (publish o g q v) r = refl
call_carries (can_adopt p o g) r = refl
call_carries (adopt p o g) r = refl
call_carries (check_lease_capacity n) r = refl
call_carries (acquire p c) r = refl
call_carries (leased_slot i) r = refl
call_carries (release i) r = refl
call_carries (revoke p) r = refl
call_carries (reclaim p) r = refl
call_carries (resolve q) r = refl
call_carries (entry p) r = refl
call_carries (lease i) r = refl
call_carries domain r = refl
call_carries publication_records r = refl
call_carries lease_record_count r = refl
call_carries lease_allocation_count r = refl

-- a number says which refusal it is
pub fixed : (q r : Refusal) → refusal_number q ≡ refusal_number r → q ≡ r
fixed = numbers.fixed

pub never_zero : (r : Refusal) → refusal_number r ≡ 0 → ⊥
never_zero = no_refusal

-- a query that is answered carries 0
pub query_zero : (q : Query) (x : QueryResult q) → query_number q (given q (done x)) ≡ 0
query_zero (leased_value i) x = refl
query_zero (value p) x = refl
query_zero (contains_handle h) x = refl
query_zero registry_copy x = refl
