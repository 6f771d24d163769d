-- Wrong outcomes of the store's calls on leases: acquire_for, release, leased_observation, leased_value.
-- After each call stands its right answer: the number, then the values or what stands beside the refusal.
-- Assumes nothing.
use Rattle.std.specs.Prelude.{false, true, List, [], ◌∷◌, T, None}
use Rattle.lists.specs.Column.{padded}
use Rattle.rules.specs.Limits.{box}
use Rattle.rules.specs.Answers.{refused, done}
use Rattle.rules.specs.Table.{blank_lease}
use Rattle.rules.specs.Rows.{step}
use Rattle.rules.specs.Queries.{reply}
use Rattle.rules.specs.SoundTest.{registry_test, store_test}
use Rattle.rules.specs.Calls as Calls
use Rattle.rules.specs.Probes as store
use Rattle.rules.specs.Probes.{entry, lent}
use Rattle.rules.specs.Damaged.{viewer, good, relied_on, publication_is, lease_is, payload_is, active_is, counter_is}
use Rattle.rules.specs.declared.Refusal.TheVariants.{Unknown, Revoked, Relied, Released, Capacity, Absent}
use Rattle.tight.specs.Plain.{lease, episode, reading, leased}
use Rattle.tight.specs.StoreQueries as query
use Rattle.tight.specs.Tables.{domain_is, no_leases, spent, left_behind, stray}
use Rattle.tight.specs.Mistakes.{accepted, slip, refuses, answers, leaves, does_nothing, gives, tests_with, untested, without, first}
use Rattle.tight.specs.Wrong.{Wrong, of_gap, command, query, all_different, two_of_each}

abbrev pub wrong_leases : List Wrong
wrong_leases =
    of_gap "PublicationStore::acquire_for"
    (command good (store.acquire 0 5 3) (0 ∷ 9 ∷ [])
    (slip "does nothing" does_nothing
    ∷ slip "the counter is not raised" (leaves (counter_is 9))
    ∷ slip "the record is not counted" (leaves (active_is 2))
    ∷ slip "no consumer is recorded" (leaves (lease_is 2 (lent 9 0 None)))
    ∷ slip "owner and generation changed over" (leaves (lease_is 2 (lent 9 0 (episode 3 5))))
    ∷ slip "the record comes first" (leaves (λ c. lease_is 0 (lent 9 0 (episode 5 3)) (lease_is 1 (lent 2 0 viewer) (lease_is 2 (lent 4 1 None) c))))
    ∷ slip "answers the place in the column" (answers (done (lease 2)))
    ∷ slip "gives out a released identifier again" (answers (done (lease 3)))
    ∷ [])
    -- one never given out, one revoked, one reclaimed
    ∷ command good (store.acquire 4 5 3) (1 ∷ [])
    (accepted "Revoked for one never given out" (refuses Revoked) ∷ accepted "Capacity for every refusal" (refuses Capacity) ∷ [])
    ∷ command good (store.acquire 1 5 3) (2 ∷ [])
    (accepted "Unknown for a revoked one" (refuses Unknown) ∷ slip "lends a revoked one" (tests_with (without Revoked)) ∷ [])
    ∷ command good (store.acquire 2 5 3) (2 ∷ []) (accepted "Released for a reclaimed one" (refuses Released) ∷ [])
    -- with 128 active leases, and with the counter at its end
    ∷ command relied_on (store.acquire 0 5 3) (7 ∷ [])
    (accepted "a 129th lease" (tests_with (without Capacity)) ∷ slip "Relied where no lease is left" (refuses Relied) ∷ [])
    ∷ command spent (store.acquire 0 5 3) (7 ∷ [])
    (slip "the counter goes round to 0" (gives (done (lease box.top)) (counter_is 0 (active_is 3 (lease_is 2 (lent box.top 0 (episode 5 3)) spent))))
    ∷ accepted "Unknown at the counter's end" (refuses Unknown)
    ∷ [])
    ∷ command spent (store.acquire 1 5 3) (2 ∷ []) (accepted "tests the room before visible" (tests_with (first Capacity)) ∷ [])
    -- of a damaged table
    ∷ command left_behind (store.acquire 0 5 3) (9 ∷ [])
    (accepted "does not test the table" untested ∷ slip "mends the table silently" (leaves (payload_is 2 0)) ∷ [])
    ∷ [])
    ∷ of_gap "PublicationStore::release"
    (command good (store.release 2) (0 ∷ [])
    (accepted "done, and nothing is done" does_nothing
    ∷ accepted "drops every lease" (leaves no_leases)
    ∷ accepted "drops every lease, sets the counter to 0 and answers Unknown" (gives (refused Unknown tt) (counter_is 0 (no_leases good)))
    ∷ accepted "releases another lease" (gives (done tt) (active_is 1 (lease_is 1 blank_lease good)))
    ∷ accepted "carries it out and answers Released" (answers (refused Released tt))
    ∷ accepted "always Unknown" (refuses Unknown)
    ∷ accepted "the counter goes back" (leaves (counter_is 5))
    ∷ accepted "the domain is forgotten" (leaves (domain_is None))
    ∷ accepted "a revoked one gets another owner" (leaves (publication_is 1 (entry 9 0 8 1 false true)))
    ∷ accepted "the other lease gets a consumer" (leaves (lease_is 0 (lent 4 1 viewer)))
    ∷ slip "the record after the released one stays in its place" (leaves (λ c. active_is 2 (lease_is 0 blank_lease (lease_is 1 (lent 4 1 None) c))))
    ∷ slip "the last place is not blank" (leaves (lease_is 1 (lent 4 1 None)))
    ∷ slip "only the number of leases goes down" (gives (done tt) (active_is 1 good))
    ∷ slip "hides the publication" (leaves (publication_is 0 (entry 4 0 7 0 false true)))
    ∷ [])
    -- one released before, one never given out
    ∷ command good (store.release 3) (6 ∷ []) (accepted "Unknown for a released lease" (refuses Unknown) ∷ accepted "done again" (answers (done tt)) ∷ [])
    ∷ command good (store.release 9) (1 ∷ [])
    (accepted "Released for a lease never given out" (refuses Released) ∷ accepted "a refusal raises the counter" (leaves (counter_is 10)) ∷ [])
    ∷ command stray (store.release 2) (9 ∷ [])
    (accepted "does not test the table, and so mends it" untested ∷ slip "mends the table silently" (leaves (payload_is 4 0)) ∷ [])
    ∷ [])
    ∷ of_gap "PublicationStore::leased_observation"
    (command good (store.read 4) (0 ∷ 1 ∷ 2 ∷ 0 ∷ [])
    (slip "reads another publication" (answers (done (reading 0 0 900)))
    ∷ slip "reads another revision" (answers (done (reading 1 0 0)))
    ∷ slip "refuses to read a revoked one" (refuses Revoked)
    ∷ [])
    ∷ command good (store.read 9) (1 ∷ [])
    (accepted "Released for a lease never given out" (refuses Released) ∷ accepted "Capacity for every lease that is not active" (refuses Capacity) ∷ [])
    ∷ command good (store.read 3) (6 ∷ [])
    (accepted "Unknown for a released lease" (refuses Unknown) ∷ slip "reads on after the release" (answers (done (reading 0 0 900))) ∷ [])
    ∷ command left_behind (store.read 4) (9 ∷ []) (accepted "does not test the table" untested ∷ slip "10 instead of 9" (refuses Absent) ∷ [])
    ∷ [])
    ∷ of_gap "PublicationStore::leased_value"
    (query good (query.leased_value 4) (0 ∷ 1 ∷ 0 ∷ [])
    (slip "reads another publication" (done (leased 0 900))
    ∷ slip "reads another handle" (done (leased 1 900))
    ∷ slip "refuses to read a revoked one" (refused Revoked tt)
    ∷ [])
    ∷ query good (query.leased_value 9) (1 ∷ [])
    (accepted "Released for a lease never given out" (refused Released tt) ∷ accepted "Capacity for every lease that is not active" (refused Capacity tt) ∷ [])
    ∷ query good (query.leased_value 3) (6 ∷ [])
    (accepted "Unknown for a released lease" (refused Unknown tt) ∷ slip "reads on after the release" (done (leased 0 900)) ∷ [])
    ∷ query left_behind (query.leased_value 4) (9 ∷ [])
    (accepted "does not test the table" (done (leased 1 0)) ∷ slip "10 instead of 9" (refused Absent tt) ∷ [])
    ∷ [])
    ∷ []

pub wrong_leases_differ : T (all_different wrong_leases)
unfolding Calls.command Calls.query store_test registry_test step reply padded
wrong_leases_differ = tt

pub two_of_each_lease_call : T (two_of_each wrong_leases)
two_of_each_lease_call = tt
