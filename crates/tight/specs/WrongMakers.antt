-- Wrong tables from the makers: new and for_domain of a store; new, for_domain and default of a registry.
-- Assumes nothing.
use Rattle.std.specs.Prelude.{ℕ, true, List, [], ◌∷◌, ◌++◌, T, take, Option, Some, None}
use Rattle.lists.specs.Column.{padded}
use Rattle.rules.specs.Limits.{box}
use Rattle.rules.specs.Table.{empty_registry, empty_store, blank_lease}
use Rattle.rules.specs.Columns.{StoreColumns, RegistryColumns, filled, filled_registry}
use Rattle.rules.specs.Probes.{entry}
use Rattle.rules.specs.Damaged.{publication_is, payloads_are, leases_are, count_is, counter_is, payload_is}
use Rattle.tight.specs.Tables.{within}
use Rattle.tight.specs.Mistakes.{accepted, slip}
use Rattle.tight.specs.Wrong.{Wrong, of, of_gap, new_store, new_registry, all_different, two_of_each}

-- the empty tables, in columns
abbrev store_for : Option ℕ → StoreColumns
store_for d = filled box (empty_store d)

abbrev registry_for : Option ℕ → RegistryColumns
registry_for d = filled_registry box (empty_registry d)

abbrev pub wrong_makers : List Wrong
wrong_makers =
    of "PublicationStore::new"
    (new_store None
    (slip "for domain 0" (store_for (Some 0))
    ∷ slip "the counter starts at 1" (counter_is 1 (store_for None))
    ∷ slip "one blank record counts as published" (count_is 1 (store_for None))
    ∷ slip "a handle is left from before" (payload_is 95 900 (store_for None))
    ∷ slip "a column is one short" (payloads_are (take 95 (store_for None).payloads) (store_for None))
    ∷ [])
    ∷ [])
    ∷ of "PublicationStore::for_domain"
    (new_store (Some 6)
    (slip "the domain is forgotten" (store_for None)
    ∷ slip "another domain" (store_for (Some 7))
    ∷ slip "starts with a publication" (count_is 1 (publication_is 0 (entry 6 0 0 0 true true) (store_for (Some 6))))
    ∷ [])
    ∷ new_store (Some 0) (slip "takes domain 0 for none" (store_for None) ∷ [])
    ∷ [])
    ∷ of "PublicationRegistry::new"
    (new_registry None
    (slip "for domain 0" (registry_for (Some 0))
    ∷ slip "the counter starts at 1" (within (counter_is 1) (registry_for None))
    ∷ slip "a column is one too long" (within (λ c. leases_are (c.registry.leases ++ (blank_lease ∷ [])) c) (registry_for None))
    ∷ [])
    ∷ [])
    ∷ of "PublicationRegistry::for_domain"
    (new_registry (Some 6) (slip "the domain is forgotten" (registry_for None) ∷ slip "another domain" (registry_for (Some 7)) ∷ [])
    ∷ new_registry (Some 0) (slip "takes domain 0 for none" (registry_for None) ∷ [])
    ∷ [])
    ∷ of_gap "PublicationRegistry::default"
    (new_registry None
    (accepted "for domain 7" (registry_for (Some 7))
    ∷ accepted "no lease can ever be acquired" (within (counter_is box.top) (registry_for None))
    ∷ accepted "a damaged table" (within (publication_is 0 (entry 0 0 0 0 true true)) (registry_for None))
    ∷ [])
    ∷ [])
    ∷ []

pub wrong_makers_differ : T (all_different wrong_makers)
unfolding padded
wrong_makers_differ = tt

pub two_of_each_maker : T (two_of_each wrong_makers)
two_of_each_maker = tt
