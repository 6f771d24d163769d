-- Wrong outcomes of the store's queries: value, observation, resolve, retained_count, contains_handle, registry.
-- After each call stands its right answer: the number, then the values or what stands beside the refusal.
-- Assumes nothing.
use Rattle.std.specs.Prelude.{true, false, List, [], ◌∷◌, T, Some, None}
use Rattle.lists.specs.Column.{padded}
use Rattle.rules.specs.Answers.{refused, done}
use Rattle.rules.specs.Table.{empty_registry}
use Rattle.rules.specs.Rows.{step}
use Rattle.rules.specs.Queries.{reply}
use Rattle.rules.specs.Columns.{used_registry}
use Rattle.rules.specs.SoundTest.{registry_test, store_test}
use Rattle.rules.specs.Calls as Calls
use Rattle.rules.specs.Probes as store
use Rattle.rules.specs.Damaged.{good, payload_is, counter_is}
use Rattle.rules.specs.declared.Refusal.TheVariants.{Unknown, Revoked, Released, BadTable, Absent}
use Rattle.tight.specs.Told.{told_registry}
use Rattle.tight.specs.Plain.{publication, observation}
use Rattle.tight.specs.StoreQueries as query
use Rattle.tight.specs.Tables.{domain_is, no_leases, left_behind, clashing}
use Rattle.tight.specs.Mistakes.{accepted, slip, refuses, answers, untested}
use Rattle.tight.specs.Wrong.{Wrong, of, of_gap, command, query, all_different, two_of_each}

abbrev pub wrong_queries : List Wrong
wrong_queries =
    of "PublicationStore::value"
    (query good (query.value 0) (0 ∷ 900 ∷ []) (slip "the handle of another one" (done 903) ∷ slip "always 0" (done 0) ∷ [])
    -- a revoked one with the handle 0, a reclaimed one, one never given out
    ∷ query good (query.value 1) (0 ∷ 0 ∷ []) (slip "takes a handle of 0 for none" (refused Absent tt) ∷ slip "refuses a revoked one" (refused Revoked tt) ∷ [])
    ∷ query good (query.value 2) (10 ∷ []) (slip "shows the blank cell of a reclaimed one" (done 0) ∷ slip "Released for a reclaimed one" (refused Released tt) ∷ [])
    ∷ query good (query.value 4) (10 ∷ []) (slip "Unknown for one never given out" (refused Unknown tt) ∷ [])
    ∷ query left_behind (query.value 2) (9 ∷ []) (accepted "10 instead of 9" (refused Absent tt) ∷ accepted "shows the handle left behind" (done 902) ∷ [])
    ∷ [])
    ∷ of "PublicationStore::observation"
    (command good (store.observe 1) (0 ∷ 2 ∷ 0 ∷ [])
    (slip "takes a handle of 0 for none" (refuses Absent)
    ∷ slip "observes another revision" (answers (done (observation 1 0)))
    ∷ slip "observes another handle" (answers (done (observation 2 900)))
    ∷ [])
    ∷ command good (store.observe 2) (10 ∷ [])
    (slip "shows the blank cell of a reclaimed one" (answers (done (observation 1 0))) ∷ slip "Released for a reclaimed one" (refuses Released) ∷ [])
    ∷ command good (store.observe 4) (10 ∷ []) (slip "Unknown for one never given out" (refuses Unknown) ∷ [])
    ∷ command left_behind (store.observe 2) (9 ∷ [])
    (accepted "10 instead of 9" (refuses Absent) ∷ accepted "shows the handle left behind" (answers (done (observation 1 902))) ∷ [])
    ∷ [])
    -- an addition to upstream's store
    ∷ of "PublicationStore::resolve"
    (command good (store.resolve 9) (0 ∷ 3 ∷ []) (slip "resolves to a reclaimed one" (answers (done (publication 2))) ∷ slip "resolves nothing" (refuses Absent) ∷ [])
    ∷ command good (store.resolve 8) (10 ∷ [])
    (slip "resolves to a revoked one" (answers (done (publication 1))) ∷ slip "Revoked for a revoked one" (refuses Revoked) ∷ [])
    ∷ command clashing (store.resolve 7) (9 ∷ [])
    (slip "the first of two on the port" untested ∷ slip "the last of two on the port" (answers (done (publication 3))) ∷ slip "10 instead of 9" (refuses Absent) ∷ [])
    ∷ [])
    ∷ of_gap "PublicationStore::retained_count"
    (command good store.count (0 ∷ 3 ∷ [])
    (accepted "counts none" (answers (done 0))
    ∷ accepted "counts reclaimed ones too" (answers (done 4))
    ∷ accepted "counts visible ones only" (answers (done 2))
    ∷ [])
    ∷ command left_behind store.count (9 ∷ []) (accepted "does not test the table" untested ∷ accepted "counts the handle left behind" (answers (done 4)) ∷ [])
    ∷ [])
    ∷ of "PublicationStore::contains_handle"
    (query good (query.contains_handle 903) (0 ∷ 1 ∷ []) (slip "looks at the first one only" (done false) ∷ slip "refuses to tell" (refused Absent false) ∷ [])
    ∷ query good (query.contains_handle 902) (0 ∷ 0 ∷ []) (slip "always yes" (done true) ∷ slip "10 for a handle that is absent" (refused Absent false) ∷ [])
    -- the handle 0: held by 1, which is retained; then in reclaimed and unused cells only
    ∷ query good (query.contains_handle 0) (0 ∷ 1 ∷ []) (slip "takes a handle of 0 for none" (done false) ∷ [])
    ∷ query (payload_is 1 901 good) (query.contains_handle 0) (0 ∷ 0 ∷ []) (slip "looks into reclaimed and unused cells" (done true) ∷ [])
    -- in a damaged table: upstream answers it as well
    ∷ query left_behind (query.contains_handle 902) (9 ∷ 0 ∷ [])
    (accepted "does not test the table" (done false)
    ∷ slip "finds the handle left behind" (done true)
    ∷ slip "yes beside a refusal" (refused BadTable true)
    ∷ slip "10 instead of 9" (refused Absent false)
    ∷ [])
    ∷ [])
    ∷ of "PublicationStore::registry"
    (query good query.registry_copy (0 ∷ told_registry (used_registry good.registry))
    (slip "the empty registry" (done (empty_registry None))
    ∷ slip "without the domain" (done (used_registry (domain_is None good).registry))
    ∷ slip "without the leases" (done (used_registry (no_leases good).registry))
    ∷ slip "with a new counter" (done (used_registry (counter_is 0 good).registry))
    ∷ slip "refuses" (refused Absent (empty_registry None))
    ∷ [])
    ∷ query left_behind query.registry_copy (9 ∷ told_registry (empty_registry None))
    (accepted "tests the registry, and not the store" (done (used_registry left_behind.registry))
    ∷ slip "the registry beside a refusal" (refused BadTable (used_registry left_behind.registry))
    ∷ slip "the domain beside a refusal" (refused BadTable (empty_registry (Some 6)))
    ∷ [])
    ∷ [])
    ∷ []

pub wrong_queries_differ : T (all_different wrong_queries)
unfolding Calls.command Calls.query store_test registry_test step reply padded
wrong_queries_differ = tt

pub two_of_each_query : T (two_of_each wrong_queries)
two_of_each_query = tt
