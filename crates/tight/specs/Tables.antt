-- The tables on which wrong outcomes are shown: sound ones, damaged ones, and changes of them.
-- Assumes nothing.
use Rattle.std.specs.Prelude.{ℕ, true, false, [], ◌∷◌, Option, Some, None}
use Rattle.lists.specs.Column.{padded}
use Rattle.rules.specs.Limits.{box}
use Rattle.rules.specs.Table.{blank_lease}
use Rattle.rules.specs.Columns.{RegistryColumns, StoreColumns, filled_registry}
use Rattle.rules.specs.Probes.{entry, lent}
use Rattle.rules.specs.Damaged.{viewer, good, registry_with, publication_is, lease_is, leases_are, active_is, counter_is, payload_is, revision_is}

-- changes beside those of Damaged

abbrev pub domain_is : Option ℕ → StoreColumns → StoreColumns
domain_is d =
    registry_with (λ c. record { domain = d; publications = c.publications; count = c.count; leases = c.leases; active = c.active; counter = c.counter })

abbrev pub no_leases : StoreColumns → StoreColumns
no_leases c = active_is 0 (leases_are (padded box.leases blank_lease []) c)

-- a change of a store around a registry, as a change of the registry
abbrev pub within : (StoreColumns → StoreColumns) → RegistryColumns → RegistryColumns
within f c = (f (record { registry = c; payloads = []; revisions = [] })).registry

-- Sound stores. `good` has 0 and 3 visible, 1 revoked with the handle 0, 2 reclaimed; lease 2 is of 0, lease 4 of 1, of nine given out.

-- 3 is revoked, nobody relies on it, and its revision is 6
abbrev pub drained : StoreColumns
drained = revision_is 3 6 (publication_is 3 (entry 4 0 9 3 false true) good)

-- 2 is reclaimed, and still in generation 0
abbrev pub never_adopted : StoreColumns
never_adopted = publication_is 2 (entry 4 0 9 2 false false) good

-- the revision of 3 is at its end; the lease counter is at its end
abbrev pub worn : StoreColumns
worn = revision_is 3 box.top good

abbrev pub spent : StoreColumns
spent = counter_is box.top good

-- Damaged stores.

-- a handle in a reclaimed cell; a handle in a cell that was never used
abbrev pub left_behind : StoreColumns
left_behind = payload_is 2 902 good

abbrev pub stray : StoreColumns
stray = payload_is 4 904 good

-- two visible publications on port 7
abbrev pub clashing : StoreColumns
clashing = publication_is 3 (entry 4 0 7 3 true true) good

-- A sound registry, as that of `good`, with slots of its own.
abbrev pub slotted : RegistryColumns
slotted =
    filled_registry box
    (record {
      domain = Some 6;
      publications = entry 4 0 7 40 true true ∷ entry 4 0 8 41 false true ∷ entry 4 1 9 42 false false ∷ entry 4 0 9 43 true true ∷ [];
      leases = lent 2 0 viewer ∷ lent 4 1 None ∷ [];
      counter = 9;
    })

-- Damaged registries.

-- three visible publications on port 7, the second in the largest generation
abbrev pub crossed : RegistryColumns
crossed = within (λ c. publication_is 1 (entry 4 5 7 41 true true) (publication_is 3 (entry 4 0 7 43 true true) c)) slotted

-- two records of lease 2
abbrev pub doubled : RegistryColumns
doubled = within (lease_is 1 (lent 2 1 None)) slotted
