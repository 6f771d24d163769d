-- Wrong outcomes of the registry's calls on publications: publish, can_adopt, adopt, revoke, reclaim.
-- After each call stands its right answer: the number, then the values or what stands beside the refusal.
-- Assumes nothing.
use Rattle.std.specs.Prelude.{true, false, ◌&&◌, ◌||◌, List, [], ◌∷◌, T, eqb, None}
use Rattle.lists.specs.Column.{padded}
use Rattle.lists.specs.Search.{some_pass}
use Rattle.rules.specs.Limits.{box}
use Rattle.rules.specs.Answers.{◌⇒◌, done}
use Rattle.rules.specs.Table.{blank_publication}
use Rattle.rules.specs.Conditions.{full, port_held, slot_held}
use Rattle.rules.specs.RegistryRows.{registry_step}
use Rattle.rules.specs.SoundTest.{registry_test}
use Rattle.rules.specs.Calls.{registry_call}
use Rattle.rules.specs.Probes.{entry}
use Rattle.rules.specs.Damaged.{crowded, publication_is, count_is, counter_is}
use Rattle.rules.specs.declared.Refusal.TheVariants.{Unknown, Revoked, Conflict, Relied, Visible, Released, Capacity, InvalidState, Absent}
use Rattle.tight.specs.Plain.{publication}
use Rattle.tight.specs.RegistryCalls as registry
use Rattle.tight.specs.Tables.{domain_is, no_leases, within, slotted, crossed, doubled}
use Rattle.tight.specs.Mistakes.{accepted, slip, refuses, answers, leaves, does_nothing, tests_by, tests_with, untested, without, first}
use Rattle.tight.specs.Wrong.{Wrong, of_gap, call, all_different, two_of_each}

abbrev pub wrong_registry_publications : List Wrong
wrong_registry_publications =
    of_gap "PublicationRegistry::publish"
    (call slotted (registry.publish 5 1 10 44) (0 ∷ 4 ∷ [])
    (accepted "refuses every publish" (refuses Capacity)
    ∷ slip "does nothing" does_nothing
    ∷ slip "answers the slot" (answers (done (publication 44)))
    ∷ slip "the slot is the identifier" (leaves (within (publication_is 4 (entry 5 1 10 4 true true))))
    ∷ slip "out of sight at first" (leaves (within (publication_is 4 (entry 5 1 10 44 false true))))
    ∷ slip "the domain is forgotten" (leaves (within (domain_is None)))
    ∷ [])
    -- on the port of a revoked one; in the slot of a reclaimed one
    ∷ call slotted (registry.publish 5 1 8 44) (0 ∷ 4 ∷ [])
    (accepted "tests the port against retained ones"
    (tests_by (λ t. (full t box ⇒ Capacity) ∷ (some_pass (λ e. e.retained && eqb e.port.0 8) t.publications || slot_held t 44 ⇒ Conflict) ∷ []))
    ∷ [])
    ∷ call slotted (registry.publish 5 1 10 42) (0 ∷ 4 ∷ [])
    (accepted "tests the slot against all"
    (tests_by (λ t. (full t box ⇒ Capacity) ∷ (port_held t (record { 0 = 10 }) || some_pass (λ e. eqb e.slot 42) t.publications ⇒ Conflict) ∷ []))
    ∷ [])
    -- in the slot of a revoked one; on the port of a visible one
    ∷ call slotted (registry.publish 5 1 10 41) (3 ∷ [])
    (slip "tests the slot against visible ones"
    (tests_by (λ t. (full t box ⇒ Capacity) ∷ (port_held t (record { 0 = 10 }) || some_pass (λ e. e.visible && eqb e.slot 41) t.publications ⇒ Conflict) ∷ []))
    ∷ accepted "Relied where the slot is held" (refuses Relied)
    ∷ slip "a refusal frees the slot" (leaves (within (publication_is 1 (entry 4 0 8 41 false false))))
    ∷ [])
    ∷ call slotted (registry.publish 5 1 7 44) (3 ∷ [])
    (accepted "Visible where the port is held" (refuses Visible) ∷ slip "does not test port or slot" (tests_with (without Conflict)) ∷ [])
    -- with 96 records, on a port that is held
    ∷ call crowded.registry (registry.publish 5 1 7 200) (7 ∷ []) (accepted "tests the port before the room" (tests_with (first Conflict)) ∷ [])
    ∷ call crossed (registry.publish 5 1 10 44) (9 ∷ [])
    (accepted "does not test the table" untested
    ∷ accepted "Conflict for a damaged table" (refuses Conflict)
    ∷ slip "mends the table silently" (leaves (within (λ c. publication_is 1 (entry 4 5 7 41 false true) (publication_is 3 (entry 4 0 7 43 false true) c))))
    ∷ [])
    ∷ [])
    ∷ of_gap "PublicationRegistry::can_adopt"
    (call slotted (registry.can_adopt 3 4 1) (0 ∷ [])
    (accepted "always Unknown" (refuses Unknown)
    ∷ accepted "refuses every visible one" (refuses Visible)
    ∷ slip "adopts it" (leaves (within (publication_is 3 (entry 4 1 9 43 true true))))
    ∷ [])
    ∷ call slotted (registry.can_adopt 0 5 1) (8 ∷ []) (accepted "tests the leases before the owner" (tests_with (first Relied)) ∷ [])
    ∷ call slotted (registry.can_adopt 0 4 1) (4 ∷ [])
    (slip "yes under a lease" (tests_with (without Relied)) ∷ accepted "InvalidState for a leased one" (refuses InvalidState) ∷ [])
    ∷ call slotted (registry.can_adopt 2 4 1) (6 ∷ []) (accepted "tests the owner before retained" (tests_with (first InvalidState)) ∷ [])
    -- of a damaged table: upstream answers it as well
    ∷ call crossed (registry.can_adopt 3 4 1) (9 ∷ []) (accepted "does not test the table" untested ∷ slip "10 instead of 9" (refuses Absent) ∷ [])
    ∷ [])
    ∷ of_gap "PublicationRegistry::adopt"
    (call slotted (registry.adopt 3 4 1) (0 ∷ [])
    (accepted "always InvalidState, also where can_adopt says yes" (refuses InvalidState)
    ∷ slip "does nothing" does_nothing
    ∷ slip "the generation becomes 2" (leaves (within (publication_is 3 (entry 4 2 9 43 true true))))
    ∷ slip "the slot becomes the identifier" (leaves (within (publication_is 3 (entry 4 1 9 3 true true))))
    ∷ [])
    ∷ call slotted (registry.adopt 0 5 1) (8 ∷ []) (accepted "tests the leases before the owner" (tests_with (first Relied)) ∷ [])
    ∷ call slotted (registry.adopt 0 4 1) (4 ∷ [])
    (slip "adopts under a lease" (tests_with (without Relied)) ∷ accepted "Visible for a leased one" (refuses Visible) ∷ [])
    ∷ call (within (publication_is 2 (entry 4 0 9 42 false false)) slotted) (registry.adopt 2 4 1) (6 ∷ [])
    (slip "adopts a reclaimed one too" (tests_with (without Released)) ∷ accepted "Unknown for a reclaimed one" (refuses Unknown) ∷ [])
    ∷ call crossed (registry.adopt 3 4 1) (9 ∷ []) (accepted "does not test the table" untested ∷ accepted "Unknown for a damaged table" (refuses Unknown) ∷ [])
    ∷ [])
    ∷ of_gap "PublicationRegistry::revoke"
    (call slotted (registry.revoke 0) (0 ∷ [])
    (slip "does nothing" does_nothing
    ∷ slip "ends it as well" (leaves (within (publication_is 0 (entry 4 0 7 40 false false))))
    ∷ slip "drops the leases" (leaves (within no_leases))
    ∷ slip "frees the slot" (leaves (within (publication_is 0 (entry 4 0 7 0 false true))))
    ∷ [])
    ∷ call slotted (registry.revoke 4) (1 ∷ [])
    (accepted "Released for one never given out" (refuses Released) ∷ accepted "Capacity for one never given out" (refuses Capacity) ∷ [])
    ∷ call slotted (registry.revoke 2) (0 ∷ []) (slip "refuses a reclaimed one" (refuses Released) ∷ slip "refuses to revoke again" (refuses Revoked) ∷ [])
    ∷ call doubled (registry.revoke 0) (9 ∷ []) (accepted "does not test the table" untested ∷ accepted "Unknown for a damaged table" (refuses Unknown) ∷ [])
    ∷ [])
    ∷ of_gap "PublicationRegistry::reclaim"
    (call (within (publication_is 3 (entry 4 0 9 43 false true)) slotted) (registry.reclaim 3) (0 ∷ 43 ∷ [])
    (slip "answers the identifier" (answers (done 3))
    ∷ slip "answers 0" (answers (done 0))
    ∷ slip "answers the slot, and does nothing" does_nothing
    ∷ slip "the slot is blanked" (leaves (within (publication_is 3 (entry 4 0 9 0 false false))))
    ∷ slip "the record is blanked" (leaves (within (publication_is 3 blank_publication)))
    ∷ slip "the identifier is free again" (leaves (within (λ c. count_is 3 (publication_is 3 blank_publication c))))
    ∷ slip "a lease is counted as given out" (leaves (within (counter_is 10)))
    ∷ [])
    ∷ call slotted (registry.reclaim 0) (5 ∷ [])
    (accepted "tests the leases before visible" (tests_with (first Relied)) ∷ slip "ends a visible one" (tests_with (λ ts. without Visible (without Relied ts))) ∷ [])
    ∷ call slotted (registry.reclaim 1) (4 ∷ [])
    (slip "reclaims under a lease" (tests_with (without Relied)) ∷ accepted "Visible for a leased one" (refuses Visible) ∷ [])
    ∷ call slotted (registry.reclaim 2) (6 ∷ [])
    (accepted "Unknown for one reclaimed before" (refuses Unknown) ∷ slip "hands out its slot again" (tests_with (without Released)) ∷ [])
    ∷ call slotted (registry.reclaim 4) (1 ∷ []) (accepted "Released for one never given out" (tests_with (without Unknown)) ∷ [])
    ∷ call doubled (registry.reclaim 3) (9 ∷ []) (accepted "Visible for a damaged table" (refuses Visible) ∷ slip "10 instead of 9" (refuses Absent) ∷ [])
    ∷ [])
    ∷ []

pub wrong_registry_publications_differ : T (all_different wrong_registry_publications)
unfolding registry_call registry_test registry_step padded
wrong_registry_publications_differ = tt

pub two_of_each_registry_publication_call : T (two_of_each wrong_registry_publications)
two_of_each_registry_publication_call = tt
