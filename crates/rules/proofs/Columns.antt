-- Laws of laying a table out in columns, and of the columns of a sound table.
-- Assumes nothing.
use Prim.Native.Nat.{ℕ, ◌≤◌}
use mathlib.Core.Path.{◌≡◌, sym, ap, subst, ◌∙◌}
use lib.ListN.{length, take, get_or}
use Rattle.lists.proofs.Column.{take-padded, take-padded_at, length-padded, get_or-padded}
use Rattle.rules.specs.Limits.{Limits}
use Rattle.rules.specs.Table.{Registry, Store, blank_publication, blank_lease}
use Rattle.rules.specs.Columns.{RegistryColumns, StoreColumns, used_registry, used, filled_registry, filled}
use Rattle.rules.specs.Sound.{S6Registry, S6, RegistrySound, StoreSound, RegistryColumnsSound, StoreColumnsSound}

-- what is laid out is in use, and nothing else is

module _ (L : Limits) (t : Registry) where
  pub used_filled_registry : used_registry (filled_registry L t) ≡ t
  used_filled_registry = simp take-padded

  pub filled_registry_blank : S6Registry L (filled_registry L t)
  filled_registry_blank = ap (filled_registry L) used_filled_registry

  pub filled_registry_sound : RegistrySound L t → RegistryColumnsSound L (filled_registry L t)
  filled_registry_sound s = record { in_use = subst (RegistrySound L) (sym used_filled_registry) s; s6 = filled_registry_blank }

module _ (L : Limits) (s : Store)
    (payload_each : length s.payloads ≡ length s.registry.publications)
    (revision_each : length s.revisions ≡ length s.registry.publications) where
  pub used_filled : used (filled L s) ≡ s
  used_filled = simp (take-padded, take-padded_at)

  pub filled_blank : S6 L (filled L s)
  filled_blank = ap (filled L) used_filled

pub filled_sound : (L : Limits) (s : Store) → StoreSound L s → StoreColumnsSound L (filled L s)
filled_sound L s k =
    let e = used_filled L s k.s5.payload_each k.s5.revision_each in
    record { in_use = subst (StoreSound L) (sym e) k; s6 = ap (filled L) e }

-- the counts of a sound table, the lengths of its columns, and what stands at any place, also past the end

module _ (L : Limits) (c : RegistryColumns) (s : RegistryColumnsSound L c) where
  pub count_used : length (take c.count c.publications) ≡ c.count
  count_used = ap (λ (c : RegistryColumns). c.count) s.s6

  pub active_used : length (take c.active c.leases) ≡ c.active
  active_used = ap (λ (c : RegistryColumns). c.active) s.s6

  pub count_room : c.count ≤ L.publications
  count_room = rw count_used at s.in_use.s1.publication_room

  pub active_room : c.active ≤ L.leases
  active_room = rw active_used at s.in_use.s1.lease_room

  pub active_given_out : c.active ≤ c.counter
  active_given_out = rw active_used at s.in_use.s1.given_out

  pub publications_length : length c.publications ≡ L.publications
  publications_length =
      ap (λ (c : RegistryColumns). length c.publications) (sym s.s6) ∙ length-padded _ _ _ s.in_use.s1.publication_room

  pub leases_length : length c.leases ≡ L.leases
  leases_length = ap (λ (c : RegistryColumns). length c.leases) (sym s.s6) ∙ length-padded _ _ _ s.in_use.s1.lease_room

  pub record_used : (i : ℕ) → get_or c.publications i blank_publication ≡ get_or (take c.count c.publications) i blank_publication
  record_used i = ap (λ (c : RegistryColumns). get_or c.publications i blank_publication) (sym s.s6) ∙ get_or-padded _ _ _ i

  pub lease_used : (i : ℕ) → get_or c.leases i blank_lease ≡ get_or (take c.active c.leases) i blank_lease
  lease_used i = ap (λ (c : RegistryColumns). get_or c.leases i blank_lease) (sym s.s6) ∙ get_or-padded _ _ _ i

module _ (L : Limits) (c : StoreColumns) (s : StoreColumnsSound L c) where
  -- the registry's columns, by themselves
  pub registry_columns : RegistryColumnsSound L c.registry
  registry_columns = record { in_use = s.in_use.registry; s6 = ap (λ (c : StoreColumns). c.registry) s.s6 }

  pub payloads_used : length (take c.registry.count c.payloads) ≡ c.registry.count
  payloads_used = s.in_use.s5.payload_each ∙ count_used L c.registry registry_columns

  pub revisions_used : length (take c.registry.count c.revisions) ≡ c.registry.count
  revisions_used = s.in_use.s5.revision_each ∙ count_used L c.registry registry_columns

  pub payloads_length : length c.payloads ≡ L.publications
  payloads_length =
      ap (λ (c : StoreColumns). length c.payloads) (sym s.s6)
      ∙ length-padded _ _ _ (rw s.in_use.s5.payload_each s.in_use.registry.s1.publication_room)

  pub revisions_length : length c.revisions ≡ L.publications
  revisions_length =
      ap (λ (c : StoreColumns). length c.revisions) (sym s.s6)
      ∙ length-padded _ _ _ (rw s.in_use.s5.revision_each s.in_use.registry.s1.publication_room)

  pub payload_used : (i : ℕ) → get_or c.payloads i 0 ≡ get_or (take c.registry.count c.payloads) i 0
  payload_used i = ap (λ (c : StoreColumns). get_or c.payloads i 0) (sym s.s6) ∙ get_or-padded _ _ _ i

  pub revision_used : (i : ℕ) → get_or c.revisions i 0 ≡ get_or (take c.registry.count c.revisions) i 0
  revision_used i = ap (λ (c : StoreColumns). get_or c.revisions i 0) (sym s.s6) ∙ get_or-padded _ _ _ i
