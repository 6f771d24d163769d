-- Wrong outcomes of the registry's calls on leases: check_lease_capacity, acquire, acquire_for, leased_slot, release.
-- After each call stands its right answer: the number, then the values or what stands beside the refusal.
-- Assumes nothing.
use Rattle.std.specs.Prelude.{true, false, List, [], ◌∷◌, T, Some, None}
use Rattle.lists.specs.Column.{padded}
use Rattle.rules.specs.Limits.{box}
use Rattle.rules.specs.Answers.{done}
use Rattle.rules.specs.Table.{blank_lease}
use Rattle.rules.specs.RegistryRows.{registry_step}
use Rattle.rules.specs.SoundTest.{registry_test}
use Rattle.rules.specs.Calls.{registry_call}
use Rattle.rules.specs.Probes.{entry, lent}
use Rattle.rules.specs.Damaged.{viewer, relied_on, publication_is, lease_is, active_is, counter_is}
use Rattle.rules.specs.declared.Refusal.TheVariants.{Unknown, Revoked, Released, Capacity, InvalidState, Absent}
use Rattle.tight.specs.Plain.{lease, episode}
use Rattle.tight.specs.RegistryCalls as registry
use Rattle.tight.specs.Tables.{domain_is, no_leases, within, slotted, crossed, doubled}
use Rattle.tight.specs.Mistakes.{accepted, slip, refuses, answers, leaves, does_nothing, gives, tests_with, untested, without}
use Rattle.tight.specs.Wrong.{Wrong, of, of_gap, call, all_different, two_of_each}

abbrev pub wrong_registry_leases : List Wrong
wrong_registry_leases =
    -- two leases are active, and nine were given out
    of "PublicationRegistry::check_lease_capacity"
    (call slotted (registry.check_lease_capacity 126) (0 ∷ [])
    (slip "stops below 128" (refuses Capacity) ∷ slip "gives them out" (leaves (within (counter_is 135))) ∷ [])
    ∷ call slotted (registry.check_lease_capacity 120) (0 ∷ []) (slip "counts what was given out against the 128" (refuses Capacity) ∷ [])
    ∷ call slotted (registry.check_lease_capacity 127) (7 ∷ [])
    (accepted "tests the counter only" (answers (done tt)) ∷ slip "InvalidState where there is no room" (refuses InvalidState) ∷ [])
    -- with the counter one below its end
    ∷ call (within (counter_is 18_446_744_073_709_551_614) slotted) (registry.check_lease_capacity 1) (0 ∷ []) (slip "stops before the counter's end" (refuses Capacity) ∷ [])
    ∷ call (within (counter_is 18_446_744_073_709_551_614) slotted) (registry.check_lease_capacity 2) (7 ∷ [])
    (slip "the sum goes round to 0" (answers (done tt)) ∷ slip "Unknown at the counter's end" (refuses Unknown) ∷ [])
    -- of a damaged table: upstream answers it as well
    ∷ call doubled (registry.check_lease_capacity 1) (9 ∷ []) (accepted "does not test the table" untested ∷ slip "Capacity instead of 9" (refuses Capacity) ∷ [])
    ∷ [])
    ∷ of_gap "PublicationRegistry::acquire"
    (call slotted (registry.acquire 0) (0 ∷ 9 ∷ [])
    (slip "does nothing" does_nothing
    ∷ slip "the counter is not raised" (leaves (within (counter_is 9)))
    ∷ slip "owner 0 in generation 0 for nobody" (leaves (within (lease_is 2 (lent 9 0 (episode 0 0)))))
    ∷ slip "the lease of another one" (leaves (within (lease_is 2 (lent 9 3 None))))
    ∷ slip "answers the place in the column" (answers (done (lease 2)))
    ∷ [])
    ∷ call slotted (registry.acquire 4) (1 ∷ [])
    (accepted "Revoked for one never given out" (refuses Revoked) ∷ accepted "Capacity for every refusal" (refuses Capacity) ∷ [])
    ∷ call slotted (registry.acquire 1) (2 ∷ [])
    (accepted "Unknown for a revoked one" (refuses Unknown) ∷ slip "lends a revoked one" (tests_with (without Revoked)) ∷ [])
    ∷ call relied_on.registry (registry.acquire 0) (7 ∷ []) (accepted "a 129th lease" (tests_with (without Capacity)) ∷ [])
    ∷ call crossed (registry.acquire 0) (9 ∷ []) (accepted "does not test the table" untested ∷ slip "10 instead of 9" (refuses Absent) ∷ [])
    ∷ [])
    ∷ of_gap "PublicationRegistry::acquire_for"
    (call slotted (registry.acquire_for 0 5 3) (0 ∷ 9 ∷ [])
    (slip "no consumer is recorded" (leaves (within (lease_is 2 (lent 9 0 None))))
    ∷ slip "owner and generation changed over" (leaves (within (lease_is 2 (lent 9 0 (episode 3 5)))))
    ∷ slip "the generation becomes that of the publication" (leaves (within (lease_is 2 (lent 9 0 (episode 5 0)))))
    ∷ slip "the record is not counted" (leaves (within (active_is 2)))
    ∷ slip "gives out a released identifier again" (answers (done (lease 3)))
    ∷ [])
    ∷ call slotted (registry.acquire_for 4 5 3) (1 ∷ [])
    (accepted "Revoked for one never given out" (refuses Revoked) ∷ accepted "Capacity for every refusal" (refuses Capacity) ∷ [])
    ∷ call slotted (registry.acquire_for 2 5 3) (2 ∷ [])
    (accepted "Unknown for a reclaimed one" (refuses Unknown) ∷ accepted "Released for a reclaimed one" (refuses Released) ∷ [])
    ∷ call (within (counter_is box.top) slotted) (registry.acquire_for 0 5 3) (7 ∷ [])
    (slip "the counter goes past its end" (tests_with (without Capacity)) ∷ accepted "Unknown at the counter's end" (refuses Unknown) ∷ [])
    ∷ call crossed (registry.acquire_for 0 5 3) (9 ∷ []) (accepted "does not test the table" untested ∷ accepted "Revoked for a damaged table" (refuses Revoked) ∷ [])
    ∷ [])
    ∷ of "PublicationRegistry::leased_slot"
    (call slotted (registry.leased_slot 4) (0 ∷ 41 ∷ [])
    (slip "answers the publication" (answers (done 1)) ∷ slip "answers the first slot" (answers (done 40)) ∷ slip "refuses a revoked one" (refuses Revoked) ∷ [])
    ∷ call slotted (registry.leased_slot 9) (1 ∷ []) (slip "Released for a lease never given out" (refuses Released) ∷ [])
    ∷ call slotted (registry.leased_slot 3) (6 ∷ [])
    (slip "Unknown for a released lease" (refuses Unknown) ∷ slip "reads on after the release" (answers (done 40)) ∷ slip "10 for a released lease" (refuses Absent) ∷ [])
    -- lease 2 has two records, of 0 and of 1
    ∷ call doubled (registry.leased_slot 2) (9 ∷ []) (accepted "the slot of the first record" untested ∷ accepted "the slot of the last record" (answers (done 41)) ∷ [])
    ∷ [])
    ∷ of "PublicationRegistry::release"
    (call slotted (registry.release 2) (0 ∷ [])
    (slip "done, and nothing is done" does_nothing
    ∷ slip "drops every lease" (leaves (within no_leases))
    ∷ slip "releases another lease" (gives (done tt) (within (λ c. active_is 1 (lease_is 1 blank_lease c)) slotted))
    ∷ slip "the record after the released one stays in its place" (leaves (within (λ c. active_is 2 (lease_is 0 blank_lease (lease_is 1 (lent 4 1 None) c)))))
    ∷ slip "the last place is not blank" (leaves (within (lease_is 1 (lent 4 1 None))))
    ∷ slip "the counter goes back" (leaves (within (counter_is 5)))
    ∷ slip "the domain comes back as 7" (leaves (within (domain_is (Some 7))))
    ∷ slip "the other lease gets a consumer" (leaves (within (lease_is 0 (lent 4 1 viewer))))
    ∷ slip "hides the publication" (leaves (within (publication_is 0 (entry 4 0 7 40 false true))))
    ∷ [])
    ∷ call slotted (registry.release 3) (6 ∷ []) (slip "Unknown for a released lease" (refuses Unknown) ∷ slip "done again" (answers (done tt)) ∷ [])
    ∷ call slotted (registry.release 9) (1 ∷ []) (slip "Released for a lease never given out" (refuses Released) ∷ [])
    -- a damaged table that would be sound without it
    ∷ call doubled (registry.release 2) (9 ∷ [])
    (accepted "does not test the table, and so drops both records" untested
    ∷ accepted "drops the first record, and so mends the table" (gives (done tt) (within (λ c. active_is 1 (lease_is 0 (lent 2 1 None) (lease_is 1 blank_lease c))) doubled))
    ∷ [])
    ∷ [])
    ∷ []

pub wrong_registry_leases_differ : T (all_different wrong_registry_leases)
unfolding registry_call registry_test registry_step padded
wrong_registry_leases_differ = tt

pub two_of_each_registry_lease_call : T (two_of_each wrong_registry_leases)
two_of_each_registry_lease_call = tt
