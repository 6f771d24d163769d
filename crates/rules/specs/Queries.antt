-- The store's queries that the trace does not write: read without the revision, observe without it, is a handle present, a copy of
-- the registry.
-- Assumes nothing.
use Rattle.std.specs.Prelude.{ℕ, Bool, false, ◌&&◌, List, [], eqb, length, None}
use Rattle.lists.specs.Every.{some_below}
use Rattle.rules.specs.Limits.{Limits}
use Rattle.rules.specs.Answers.{Answer, Test, verdict, settle}
use Rattle.rules.specs.Table.{Registry, Store, empty_registry, publication_of, payload_of}
use Rattle.rules.specs.Rows.{lease_row, observe_row, read_of}
use Rattle.rules.specs.declared.PublicationId.{PublicationId}
use Rattle.rules.specs.declared.LeaseId.{LeaseId}
use Rattle.rules.specs.declared.Leased.{Leased}

pub data Query : Type 0 where
  leased_value : (lease : LeaseId) → Query
  value : (id : PublicationId) → Query
  contains_handle : (handle : ℕ) → Query
  registry_copy : Query

abbrev pub QueryResult : Query → Type 0
QueryResult (leased_value i) = Leased
QueryResult (value p) = ℕ
QueryResult (contains_handle h) = Bool
QueryResult registry_copy = Registry

-- what stands beside a refusal: a yes or no is no, and a registry is the empty one without domain

abbrev pub Beside : Query → Type 0
Beside (leased_value i) = Unit {0}
Beside (value p) = Unit {0}
Beside (contains_handle h) = Bool
Beside registry_copy = Registry

abbrev pub beside : (q : Query) → Beside q
beside (leased_value i) = tt
beside (value p) = tt
beside (contains_handle h) = false
beside registry_copy = empty_registry None

abbrev pub ReplyTo : Query → Type 0
ReplyTo q = Answer (QueryResult q) (Beside q)

-- whether a retained publication holds the handle
abbrev pub holds_handle : Store → ℕ → Bool
holds_handle s h =
    some_below (length s.registry.publications)
    (λ n. (publication_of s (record { 0 = n })).retained && eqb (payload_of s (record { 0 = n })) h)

abbrev pub query_tests : Limits → Store → Query → List Test
query_tests L s (leased_value i) = lease_row L s.registry i
query_tests L s (value p) = observe_row L s p
query_tests L s (contains_handle h) = []
query_tests L s registry_copy = []

abbrev pub query_result : Store → (q : Query) → QueryResult q
query_result s (leased_value i) = record { id = read_of s i; handle = payload_of s (read_of s i) }
query_result s (value p) = payload_of s p
query_result s (contains_handle h) = holds_handle s h
query_result s registry_copy = s.registry

-- one query of a sound table
unfoldable pub reply : Limits → Store → (q : Query) → ReplyTo q
reply L s q = settle (verdict (query_tests L s q)) (query_result s q) (beside q)
