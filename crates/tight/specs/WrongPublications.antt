-- Wrong outcomes of the store's commands on publications: publish, adopt, revoke, replace, reclaim.
-- After each call stands its right answer: the number, then the values or what stands beside the refusal.
-- Assumes nothing.
use Rattle.std.specs.Prelude.{true, false, ◌&&◌, List, [], ◌∷◌, T, eqb, Some}
use Rattle.lists.specs.Column.{padded}
use Rattle.lists.specs.Search.{some_pass}
use Rattle.rules.specs.Limits.{box}
use Rattle.rules.specs.Answers.{◌⇒◌, refused, done}
use Rattle.rules.specs.Table.{blank_publication}
use Rattle.rules.specs.Conditions.{full}
use Rattle.rules.specs.Rows.{step}
use Rattle.rules.specs.SoundTest.{registry_test, store_test}
use Rattle.rules.specs.Calls as Calls
use Rattle.rules.specs.Probes as store
use Rattle.rules.specs.Probes.{entry}
use Rattle.rules.specs.Damaged.{good, crowded, publication_is, payload_is, revision_is, count_is, counter_is}
use Rattle.rules.specs.declared.Refusal.TheVariants.{Unknown, Revoked, Conflict, Relied, Visible, Released, Capacity, InvalidState, BadTable, Absent}
use Rattle.tight.specs.Plain.{publication}
use Rattle.tight.specs.Tables.{domain_is, no_leases, drained, never_adopted, worn, left_behind, stray, clashing}
use Rattle.tight.specs.Mistakes.{accepted, slip, refuses, answers, leaves, does_nothing, gives, tests_by, tests_with, untested, without, first}
use Rattle.tight.specs.Wrong.{Wrong, of_gap, command, all_different, two_of_each}

abbrev pub wrong_publications : List Wrong
wrong_publications =
    of_gap "PublicationStore::publish"
    (command good (store.publish 5 1 10 904) (0 ∷ 4 ∷ [])
    (accepted "refuses every publish" (refuses Capacity)
    ∷ slip "does nothing" does_nothing
    ∷ slip "gives out a reclaimed identifier again" (answers (done (publication 2)))
    ∷ slip "uses the room of a reclaimed one" (gives (done (publication 2)) (publication_is 2 (entry 5 1 10 2 true true) (payload_is 2 904 good)))
    ∷ slip "the handle is not stored" (leaves (payload_is 4 0))
    ∷ slip "the revision starts at 1" (leaves (revision_is 4 1))
    ∷ slip "the generation is always 0" (leaves (publication_is 4 (entry 5 0 10 4 true true)))
    ∷ slip "out of sight at first" (leaves (publication_is 4 (entry 5 1 10 4 false true)))
    ∷ slip "a lease is counted as given out" (leaves (counter_is 10))
    ∷ slip "the domain comes back as 7" (leaves (domain_is (Some 7)))
    ∷ [])
    -- on the port of a revoked one
    ∷ command good (store.publish 5 1 8 904) (0 ∷ 4 ∷ [])
    (accepted "tests the port against retained ones"
    (tests_by (λ t. (full t box ⇒ Capacity) ∷ (some_pass (λ e. e.retained && eqb e.port.0 8) t.publications ⇒ Conflict) ∷ []))
    ∷ [])
    -- on the port of a visible one
    ∷ command good (store.publish 5 1 7 904) (3 ∷ 904 ∷ [])
    (accepted "says full where the port is held" (refuses Capacity)
    ∷ slip "does not test the port" (tests_with (without Conflict))
    ∷ slip "the offered handle is lost" (answers (refused Conflict 0))
    ∷ slip "hands back the handle that holds the port" (answers (refused Conflict 900))
    ∷ slip "a refusal hides the one that holds the port" (leaves (publication_is 0 (entry 4 0 7 0 false true)))
    ∷ [])
    -- with 96 records, on a port that is held, and on one that is free
    ∷ command crowded (store.publish 5 1 7 904) (7 ∷ 904 ∷ []) (accepted "tests the port before the room" (tests_with (first Conflict)) ∷ [])
    ∷ command crowded (store.publish 5 1 200 904) (7 ∷ 904 ∷ []) (accepted "a 97th record" (tests_with (without Capacity)) ∷ [])
    -- to a damaged table
    ∷ command left_behind (store.publish 5 1 10 904) (9 ∷ 904 ∷ [])
    (accepted "does not test the table" untested
    ∷ slip "mends the table silently" (leaves (payload_is 2 0))
    ∷ slip "hands back the handle that was left behind" (answers (refused BadTable 902))
    ∷ accepted "says full" (refuses Capacity)
    ∷ [])
    ∷ [])
    ∷ of_gap "PublicationStore::adopt"
    (command good (store.adopt 3 4 1) (0 ∷ [])
    (accepted "always relied on" (refuses Relied)
    ∷ accepted "refuses every visible one" (refuses Visible)
    ∷ slip "does nothing" does_nothing
    ∷ slip "the generation becomes 2" (leaves (publication_is 3 (entry 4 2 9 3 true true)))
    ∷ slip "hides it" (leaves (publication_is 3 (entry 4 1 9 3 false true)))
    ∷ slip "raises the revision" (leaves (revision_is 3 1))
    ∷ [])
    -- a reclaimed one in generation 0
    ∷ command never_adopted (store.adopt 2 4 1) (6 ∷ [])
    (accepted "adopts a reclaimed one too" (tests_with (without Released)) ∷ accepted "Unknown for a reclaimed one" (refuses Unknown) ∷ [])
    -- a leased one, by another owner and by its own
    ∷ command good (store.adopt 0 5 1) (8 ∷ []) (accepted "tests the leases before the owner" (tests_with (first Relied)) ∷ [])
    ∷ command good (store.adopt 0 4 1) (4 ∷ [])
    (slip "adopts under a lease" (tests_with (without Relied)) ∷ accepted "InvalidState for a leased one" (refuses InvalidState) ∷ [])
    -- by another owner, and to another generation
    ∷ command good (store.adopt 3 5 1) (8 ∷ []) (slip "any owner adopts" (tests_with (without InvalidState)) ∷ [])
    ∷ command good (store.adopt 3 4 2) (8 ∷ [])
    (slip "adopts to any generation" (gives (done tt) (publication_is 3 (entry 4 2 9 3 true true) good)) ∷ [])
    ∷ command left_behind (store.adopt 3 4 1) (9 ∷ [])
    (accepted "does not test the table" untested ∷ accepted "InvalidState for a damaged table" (refuses InvalidState) ∷ [])
    ∷ [])
    ∷ of_gap "PublicationStore::revoke"
    (command good (store.revoke 0) (0 ∷ [])
    (slip "does nothing" does_nothing
    ∷ slip "ends it as well" (leaves (publication_is 0 (entry 4 0 7 0 false false)))
    ∷ slip "drops the leases" (leaves no_leases)
    ∷ slip "clears the handle" (leaves (payload_is 0 0))
    ∷ slip "forgets the port" (leaves (publication_is 0 (entry 4 0 0 0 false true)))
    ∷ slip "refuses a leased one" (refuses Relied)
    ∷ [])
    -- one never given out
    ∷ command good (store.revoke 4) (1 ∷ [])
    (accepted "Released for one never given out" (refuses Released) ∷ accepted "Capacity for one never given out" (refuses Capacity) ∷ [])
    -- one that is revoked, and one that is reclaimed
    ∷ command good (store.revoke 1) (0 ∷ []) (slip "refuses to revoke again" (refuses Revoked) ∷ [])
    ∷ command good (store.revoke 2) (0 ∷ [])
    (slip "refuses a reclaimed one" (refuses Released) ∷ slip "brings a reclaimed one back" (leaves (publication_is 2 (entry 4 1 9 2 false true))) ∷ [])
    -- a damaged table that would be sound without it
    ∷ command clashing (store.revoke 0) (9 ∷ [])
    (accepted "does not test the table, and so mends it" untested ∷ accepted "Unknown for a damaged table" (refuses Unknown) ∷ [])
    ∷ [])
    ∷ of_gap "PublicationStore::replace"
    (command good (store.replace 3 4 0 950) (0 ∷ 903 ∷ [])
    (accepted "always InvalidState" (refuses InvalidState)
    ∷ slip "does nothing" does_nothing
    ∷ slip "hands back the new handle" (answers (done 950))
    ∷ slip "hands back the same handle each time" (answers (done 900))
    ∷ slip "the new handle is not stored" (leaves (payload_is 3 903))
    ∷ slip "the revision is not raised" (leaves (revision_is 3 0))
    ∷ slip "another revision is raised" (leaves (λ c. revision_is 3 0 (revision_is 0 1 c)))
    ∷ [])
    -- a revoked one, by another owner and by its own
    ∷ command good (store.replace 1 5 0 950) (8 ∷ 950 ∷ [])
    (accepted "tests visible before the owner" (tests_with (first Revoked))
    ∷ slip "the offered handle is lost" (answers (refused InvalidState 0))
    ∷ slip "hands back the handle that is stored" (answers (refused InvalidState 903))
    ∷ [])
    ∷ command good (store.replace 1 4 0 950) (2 ∷ 950 ∷ [])
    (slip "replaces in a revoked one" (tests_with (without Revoked)) ∷ accepted "Released for a revoked one" (refuses Released) ∷ [])
    -- by another owner, and one never given out
    ∷ command good (store.replace 3 5 0 950) (8 ∷ 950 ∷ []) (slip "any owner replaces" (tests_with (without InvalidState)) ∷ [])
    ∷ command good (store.replace 4 4 0 950) (1 ∷ 950 ∷ []) (accepted "Revoked for one never given out" (refuses Revoked) ∷ [])
    -- with the revision at its end
    ∷ command worn (store.replace 3 4 0 950) (7 ∷ 950 ∷ [])
    (slip "the revision goes round to 0" (gives (done 903) (payload_is 3 950 (revision_is 3 0 worn)))
    ∷ slip "the revision stays at its end" (gives (done 903) (payload_is 3 950 worn))
    ∷ accepted "Revoked at the revision's end" (refuses Revoked)
    ∷ [])
    ∷ command stray (store.replace 3 4 0 950) (9 ∷ 950 ∷ [])
    (accepted "does not test the table" untested
    ∷ slip "hands back the stray handle" (answers (refused BadTable 904))
    ∷ slip "mends the table silently" (leaves (payload_is 4 0))
    ∷ [])
    ∷ [])
    ∷ of_gap "PublicationStore::reclaim"
    (command drained (store.reclaim 3) (0 ∷ 903 ∷ [])
    (accepted "always relied on" (refuses Relied)
    ∷ slip "hands the handle out, and does nothing" does_nothing
    ∷ slip "the handle stays in its cell" (leaves (payload_is 3 903))
    ∷ slip "returns the slot" (answers (done 3))
    ∷ slip "returns what it put into the cell" (answers (done 0))
    ∷ slip "hands back the same handle each time" (answers (done 900))
    ∷ slip "the revision is lost" (leaves (revision_is 3 0))
    ∷ slip "stays retained" (leaves (publication_is 3 (entry 4 0 9 3 false true)))
    ∷ slip "the record is blanked" (leaves (publication_is 3 blank_publication))
    ∷ slip "the identifier is free again" (leaves (λ c. count_is 3 (publication_is 3 blank_publication (revision_is 3 0 c))))
    ∷ [])
    -- visible and leased; revoked and leased
    ∷ command good (store.reclaim 0) (5 ∷ [])
    (accepted "tests the leases before visible" (tests_with (first Relied))
    ∷ slip "hides it on the way" (leaves (publication_is 0 (entry 4 0 7 0 false true)))
    ∷ [])
    ∷ command good (store.reclaim 1) (4 ∷ [])
    (slip "reclaims under a lease" (tests_with (without Relied)) ∷ accepted "Visible for a leased one" (refuses Visible) ∷ [])
    -- reclaimed before; never given out
    ∷ command good (store.reclaim 2) (6 ∷ [])
    (accepted "Unknown for one reclaimed before" (refuses Unknown) ∷ slip "hands out the blank cell" (answers (done 0)) ∷ [])
    ∷ command good (store.reclaim 4) (1 ∷ []) (accepted "Released for one never given out" (refuses Released) ∷ [])
    ∷ command left_behind (store.reclaim 2) (9 ∷ [])
    (accepted "hands out the handle that was left behind" (gives (done 902) good) ∷ slip "10 instead of 9" (refuses Absent) ∷ [])
    ∷ [])
    ∷ []

pub wrong_publications_differ : T (all_different wrong_publications)
unfolding Calls.command store_test registry_test step padded
wrong_publications_differ = tt

pub two_of_each_publication_command : T (two_of_each wrong_publications)
two_of_each_publication_command = tt
