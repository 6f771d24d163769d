-- What each effect makes of the columns of a sound registry.
-- Assumes nothing.
use Rattle.std.specs.Prelude.{Option}
use Prim.Native.Nat.{ℕ, ◌+◌, ◌-◌, ◌<◌}
use mathlib.Core.Path.{◌≡◌, ap}
use mathlib.Core.List.{List}
use native.Mathlib.Numerals.{add-one}
use native.Mathlib.Omega.{arith}
use lib.ListN.{length, take, set, length-append, length-set}
use Rattle.lists.specs.Column.{padded}
use Rattle.lists.specs.Removal.{remove}
use Rattle.lists.proofs.Column.{padded-snoc, padded-set}
use Rattle.lists.proofs.Removal.{length-remove}
use Rattle.rules.specs.Limits.{Limits}
use Rattle.rules.specs.Table.{blank_publication, blank_lease, at}
use Rattle.rules.specs.Changes.{and_publication, change, and_lease}
use Rattle.rules.specs.Columns.{RegistryColumns, used_registry, filled_registry}
use Rattle.rules.specs.Sound.{RegistryColumnsSound}
use Rattle.rules.specs.declared.PublicationId.{PublicationId}
use Rattle.rules.specs.declared.Publication.{Publication}
use Rattle.rules.specs.declared.Consumer.{Consumer}
use Rattle.rules.specs.declared.Lease.{Lease}
use Rattle.rules.proofs.Columns.{count_used, active_used, record_used}

-- other records in the same columns

module _ (c : RegistryColumns) where
  abbrev pub with_publications : List Publication → ℕ → RegistryColumns
  with_publications es n =
      record { domain = c.domain; publications = es; count = n; leases = c.leases; active = c.active; counter = c.counter }

  abbrev pub with_leases : List Lease → ℕ → ℕ → RegistryColumns
  with_leases ls n k =
      record { domain = c.domain; publications = c.publications; count = c.count; leases = ls; active = n; counter = k }

module _ {L : Limits} {c : RegistryColumns} (h : RegistryColumnsSound L c) where
  -- the records in use and blanks are the columns

  pub blanks : padded L.publications blank_publication (take c.count c.publications) ≡ c.publications
  blanks = ap (λ (x : RegistryColumns). x.publications) h.s6

  pub blank_leases : padded L.leases blank_lease (take c.active c.leases) ≡ c.leases
  blank_leases = ap (λ (x : RegistryColumns). x.leases) h.s6

  -- one publication more
  pub filled_published : (e : Publication) → c.count < L.publications
      → filled_registry L (and_publication (used_registry c) e) ≡ with_publications c (set c.publications c.count e) (c.count + 1)
  filled_published e k =
      let n = count_used L c h in
      let l : length (take c.count c.publications) < L.publications = omega arith in
      rw (padded-snoc L.publications blank_publication (take c.count c.publications) e l, length-append, n, blanks, active_used L c h, blank_leases)

  -- one publication changed
  pub filled_changed : (p : PublicationId) (f : Publication → Publication) → p.0 < c.count
      → filled_registry L (change (used_registry c) p f) ≡ with_publications c (set c.publications p.0 (f (at c.publications p))) c.count
  filled_changed p f k =
      let n = count_used L c h in
      let l : p.0 < length (take c.count c.publications) = omega arith in
      rw (← record_used L c h p.0, padded-set L.publications blank_publication (take c.count c.publications) p.0 (f (at c.publications p)) l, length-set, n, blanks, active_used L c h, blank_leases)

  -- one lease more
  pub filled_lent : (p : PublicationId) (k : Option Consumer) → c.active < L.leases
      → filled_registry L (and_lease (used_registry c) p k)
      ≡ with_leases c (set c.leases c.active (record { id = record { 0 = c.counter }; publication = p; consumer = k })) (c.active + 1) (c.counter + 1)
  filled_lent p k m =
      let n = active_used L c h in
      let l : length (take c.active c.leases) < L.leases = omega arith in
      rw (padded-snoc L.leases blank_lease (take c.active c.leases) (record { id = record { 0 = c.counter }; publication = p; consumer = k }) l, length-append, n, blanks, count_used L c h, blank_leases, add-one c.counter)

  -- the lease at a place out
  pub filled_released : (ls : List Lease) (i : ℕ) → ls ≡ remove (take c.active c.leases) i → i < c.active
      → filled_registry L (record { domain = c.domain; publications = take c.count c.publications; leases = ls; counter = c.counter })
      ≡ with_leases c (padded L.leases blank_lease (remove (take c.active c.leases) i)) (c.active - 1) c.counter
  filled_released ls i e k =
      let n : length (remove (take c.active c.leases) i) ≡ c.active - 1 =
      omega (arith, active_used L c h, length-remove (take c.active c.leases) i (omega (arith, active_used L c h))) in
      rw (e, n, count_used L c h, blanks)
