-- Wrong outcomes of the registry's queries: domain, the three counts, entry, lease, resolve. Upstream answers all but lease to a
-- damaged registry as well.
-- After each call stands its right answer: the number, then the values or what stands beside the refusal.
-- Assumes nothing.
use Rattle.std.specs.Prelude.{false, List, [], ◌∷◌, T, Some, None}
use Rattle.lists.specs.Column.{padded}
use Rattle.rules.specs.Answers.{done}
use Rattle.rules.specs.Table.{blank_publication}
use Rattle.rules.specs.RegistryRows.{registry_step}
use Rattle.rules.specs.SoundTest.{registry_test}
use Rattle.rules.specs.Calls.{registry_call}
use Rattle.rules.specs.Probes.{entry, lent}
use Rattle.rules.specs.Damaged.{viewer}
use Rattle.rules.specs.declared.Refusal.TheVariants.{Unknown, Revoked, Released, Absent}
use Rattle.tight.specs.Plain.{publication}
use Rattle.tight.specs.RegistryCalls as registry
use Rattle.tight.specs.Tables.{domain_is, within, slotted, crossed, doubled}
use Rattle.tight.specs.Mistakes.{accepted, slip, refuses, answers, untested}
use Rattle.tight.specs.Wrong.{Wrong, of, of_gap, call, all_different, two_of_each}

abbrev pub wrong_registry_queries : List Wrong
wrong_registry_queries =
    of "PublicationRegistry::domain"
    (call slotted registry.domain (0 ∷ 1 ∷ 6 ∷ []) (slip "always none" (answers (done None)) ∷ slip "comes back as 7" (answers (done (Some 7))) ∷ [])
    ∷ call (within (domain_is None) slotted) registry.domain (0 ∷ 0 ∷ []) (slip "10 for none" (refuses Absent) ∷ slip "0 for none" (answers (done (Some 0))) ∷ [])
    ∷ call doubled registry.domain (9 ∷ []) (accepted "does not test the table" untested ∷ slip "none instead of 9" (answers (done None)) ∷ [])
    ∷ [])
    ∷ of "PublicationRegistry::publication_records"
    (call slotted registry.publication_records (0 ∷ 4 ∷ [])
    (slip "without reclaimed ones" (answers (done 3)) ∷ slip "visible ones only" (answers (done 2)) ∷ slip "the column's length" (answers (done 96)) ∷ [])
    ∷ call doubled registry.publication_records (9 ∷ []) (accepted "does not test the table" untested ∷ [])
    ∷ [])
    ∷ of "PublicationRegistry::lease_record_count"
    (call slotted registry.lease_record_count (0 ∷ 2 ∷ [])
    (slip "all that were given out" (answers (done 9)) ∷ slip "the column's length" (answers (done 128)) ∷ slip "those with a consumer" (answers (done 1)) ∷ [])
    ∷ call doubled registry.lease_record_count (9 ∷ []) (accepted "does not test the table" untested ∷ slip "counts a doubled lease once" (answers (done 1)) ∷ [])
    ∷ [])
    ∷ of "PublicationRegistry::lease_allocation_count"
    (call slotted registry.lease_allocation_count (0 ∷ 9 ∷ [])
    (slip "the active ones" (answers (done 2)) ∷ slip "one more than the last active one" (answers (done 5)) ∷ slip "the last identifier given out" (answers (done 8)) ∷ [])
    ∷ call doubled registry.lease_allocation_count (9 ∷ []) (accepted "does not test the table" untested ∷ [])
    ∷ [])
    ∷ of "PublicationRegistry::entry"
    (call slotted (registry.entry 2) (0 ∷ 4 ∷ 1 ∷ 9 ∷ 42 ∷ 0 ∷ 0 ∷ [])
    (slip "10 for a reclaimed one" (refuses Absent)
    ∷ slip "a blank record for a reclaimed one" (answers (done blank_publication))
    ∷ slip "the slot is the identifier" (answers (done (entry 4 1 9 2 false false)))
    ∷ [])
    ∷ call slotted (registry.entry 4) (10 ∷ [])
    (slip "a blank record past the end" (answers (done blank_publication)) ∷ slip "Unknown for one never given out" (refuses Unknown) ∷ [])
    ∷ call crossed (registry.entry 0) (9 ∷ []) (accepted "does not test the table" untested ∷ slip "10 instead of 9" (refuses Absent) ∷ [])
    ∷ [])
    ∷ of "PublicationRegistry::lease"
    (call slotted (registry.lease 2) (0 ∷ 2 ∷ 0 ∷ 1 ∷ 5 ∷ 1 ∷ [])
    (slip "the record of another lease" (answers (done (lent 4 1 None))) ∷ slip "without the consumer" (answers (done (lent 2 0 None))) ∷ [])
    ∷ call slotted (registry.lease 3) (10 ∷ [])
    (slip "Released for a released lease" (refuses Released) ∷ slip "the record of a released lease" (answers (done (lent 3 0 viewer))) ∷ [])
    ∷ call slotted (registry.lease 9) (10 ∷ []) (slip "Unknown for a lease never given out" (refuses Unknown) ∷ [])
    -- lease 2 has two records
    ∷ call doubled (registry.lease 2) (9 ∷ [])
    (accepted "the first of two records" untested
    ∷ accepted "the last of two records, the one without a consumer" (answers (done (lent 2 1 None)))
    ∷ accepted "10 instead of 9" (refuses Absent)
    ∷ [])
    ∷ [])
    ∷ of_gap "PublicationRegistry::resolve"
    (call slotted (registry.resolve 9) (0 ∷ 3 ∷ []) (slip "resolves to a reclaimed one" (answers (done (publication 2))) ∷ slip "answers the slot" (answers (done (publication 43))) ∷ [])
    ∷ call slotted (registry.resolve 8) (10 ∷ [])
    (slip "resolves to a revoked one" (answers (done (publication 1))) ∷ slip "Revoked for a revoked one" (refuses Revoked) ∷ [])
    -- three are visible on port 7, and 1 has the largest generation
    ∷ call crossed (registry.resolve 7) (9 ∷ [])
    (accepted "the first on the port" untested
    ∷ accepted "the last on the port" (answers (done (publication 3)))
    ∷ accepted "the one in the largest generation" (answers (done (publication 1)))
    ∷ slip "10 instead of 9" (refuses Absent)
    ∷ [])
    ∷ [])
    ∷ []

pub wrong_registry_queries_differ : T (all_different wrong_registry_queries)
unfolding registry_call registry_test registry_step padded
wrong_registry_queries_differ = tt

pub two_of_each_registry_query : T (two_of_each wrong_registry_queries)
two_of_each_registry_query = tt
