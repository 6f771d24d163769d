-- What a verdict that passes shows of the columns of a sound table: room for a record, a record that was given out, an active lease; and what a lookup shows.
-- Assumes nothing.
use Rattle.std.specs.Prelude.{Option, Some, Result, Ok}
use Prim.Native.Nat.{ℕ, ◌<◌}
use mathlib.Core.Path.{◌≡◌, refl}
use mathlib.Core.Bool.{true, false, not}
use mathlib.Core.List.{List, [], ◌∷◌}
use native.Mathlib.Omega.{arith}
use borrow.Author.Tests.{leb-false, not-false}
use lib.Dec.{leb}
use lib.ListN.{length, take, get_or}
use Rattle.lists.specs.Search.{some_pass, first_place}
use Rattle.lists.proofs.Bools.{or_left, or_right}
use Rattle.lists.proofs.Every.{every_at}
use Rattle.lists.proofs.Place.{within}
use Rattle.lists.proofs.Scan.{first_below}
use Rattle.rules.specs.Limits.{Limits}
use Rattle.rules.specs.Answers.{Test, ◌⇒◌, pass, verdict}
use Rattle.rules.specs.Table.{blank_publication, blank_lease, at}
use Rattle.rules.specs.Conditions.{unknown, full, no_lease_left, is_lease, never_lent, active}
use Rattle.rules.specs.Columns.{RegistryColumns, used_registry}
use Rattle.rules.specs.Sound.{RegistryColumnsSound}
use Rattle.rules.specs.Rows.{acquire_row, lease_row}
use Rattle.rules.specs.declared.Publication.{Publication}
use Rattle.rules.specs.declared.PublicationId.{PublicationId}
use Rattle.rules.specs.declared.LeaseId.{LeaseId}
use Rattle.rules.specs.declared.Refusal.{Refusal}
use Rattle.rules.specs.declared.Refusal.TheVariants.{Unknown, Revoked, Released, Capacity}
use Rattle.rules.proofs.Clear.{not_first, not_later}
use Rattle.rules.proofs.Columns.{count_used, active_used, lease_used}
use Rattle.columns.specs.Verdicts.{known_of, verdict_of, lookup_of}
use Rattle.columns.proofs.Verdicts.{known_there, told_pass, looked_pass, looked_at}

module _ {L : Limits} {c : RegistryColumns} (h : RegistryColumnsSound L c) where
  -- a row that begins with Capacity: there is room for a publication
  module _ (ts : List Test) {w : Result (Unit {0}) Refusal} (e : w ≡ verdict_of (verdict ((full (used_registry c) L ⇒ Capacity) ∷ ts))) where
    pub publication_room : w ≡ Ok tt → c.count < L.publications
    publication_room t =
        omega (arith, count_used L c h, leb-false L.publications (length (take c.count c.publications)) (not_first (full (used_registry c) L) Capacity ts (told_pass (verdict ((full (used_registry c) L ⇒ Capacity) ∷ ts)) e t)))

  -- a row that begins with Unknown: the identifier was given out
  module _ (p : PublicationId) (ts : List Test) {w : Result (Unit {0}) Refusal} (e : w ≡ verdict_of (verdict ((unknown (used_registry c) p ⇒ Unknown) ∷ ts))) where
    pub known_below : w ≡ Ok tt → p.0 < c.count
    known_below t =
        omega (arith, count_used L c h, leb-false (length (take c.count c.publications)) p.0 (not_first (unknown (used_registry c) p) Unknown ts (told_pass (verdict ((unknown (used_registry c) p ⇒ Unknown) ∷ ts)) e t)))

  -- a lookup that finds a publication: the identifier was given out
  pub publication_below : (p : PublicationId) {w : Option Publication} → w ≡ known_of (take c.count c.publications) p → {e : Publication} → w ≡ Some e → p.0 < c.count
  publication_below p k t =
      omega (arith, count_used L c h, leb-false (length (take c.count c.publications)) p.0 (known_there (take c.count c.publications) p k t))

  -- acquire: there is room for a lease, and a number for it
  module _ (p : PublicationId) {w : Result (Unit {0}) Refusal} (e : w ≡ verdict_of (verdict (acquire_row L (used_registry c) p))) where
    some_left : w ≡ Ok tt → no_lease_left (used_registry c) L ≡ false
    some_left t =
        not_first (no_lease_left (used_registry c) L) Capacity []
        (not_later (not (at (take c.count c.publications) p).visible) Revoked ((no_lease_left (used_registry c) L ⇒ Capacity) ∷ [])
        (not_later (unknown (used_registry c) p) Unknown ((not (at (take c.count c.publications) p).visible ⇒ Revoked) ∷ (no_lease_left (used_registry c) L ⇒ Capacity) ∷ [])
        (told_pass (verdict (acquire_row L (used_registry c) p)) e t)))

    pub numbers_left : w ≡ Ok tt → c.counter < L.top
    numbers_left t =
        leb-false L.top c.counter (or_left (leb L.top c.counter) (leb L.leases (length (take c.active c.leases))) (some_left t))

    pub lease_room : w ≡ Ok tt → c.active < L.leases
    lease_room t =
        omega (arith, active_used L c h, leb-false L.leases (length (take c.active c.leases)) (or_right (leb L.top c.counter) (leb L.leases (length (take c.active c.leases))) (some_left t)))

  -- a lease that is looked up: it is active, at that place
  module _ (i : LeaseId) {w : Result ℕ Refusal} (e : w ≡ lookup_of (verdict (lease_row L (used_registry c) i)) (first_place (is_lease i) (take c.active c.leases)))
      {k : ℕ} (t : w ≡ Ok k) where
    pub lease_passes : verdict (lease_row L (used_registry c) i) ≡ pass
    lease_passes = looked_pass (verdict (lease_row L (used_registry c) i)) (first_place (is_lease i) (take c.active c.leases)) e t

    pub lease_place : first_place (is_lease i) (take c.active c.leases) ≡ k
    lease_place = looked_at (verdict (lease_row L (used_registry c) i)) (first_place (is_lease i) (take c.active c.leases)) e t

    pub lease_active : some_pass (is_lease i) (take c.active c.leases) ≡ true
    lease_active =
        not-false (active (used_registry c) i)
        (not_first (not (active (used_registry c) i)) Released [] (not_later (never_lent (used_registry c) i) Unknown ((not (active (used_registry c) i) ⇒ Released) ∷ []) lease_passes))

    pub lease_below : k < c.active
    lease_below = omega (arith, active_used L c h, lease_place, first_below (is_lease i) (take c.active c.leases) lease_active)

  -- the publication that an active lease names was given out
  pub named_below : (k : ℕ) → k < c.active → (get_or c.leases k blank_lease).publication.0 < c.count
  named_below k m =
      let r : (at (take c.count c.publications) (get_or (take c.active c.leases) k blank_lease).publication).retained ≡ true =
      every_at (λ l. (at (take c.count c.publications) l.publication).retained ≡ true) (take c.active c.leases) blank_lease h.in_use.s4.named k (rw (active_used L c h) m) in
      let b = within (λ e. e.retained) (take c.count c.publications) (get_or (take c.active c.leases) k blank_lease).publication.0 blank_publication refl r in
      rw (lease_used L c h k) (omega (arith, count_used L c h))
