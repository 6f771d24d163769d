-- The conditions that the tests name.
-- Assumes nothing.
use Rattle.std.specs.Prelude.{ℕ, Bool, ◌&&◌, ◌||◌, leb, eqb, length, get_or}
use Rattle.lists.specs.Search.{some_pass, first_place}
use Rattle.rules.specs.Limits.{Limits}
use Rattle.rules.specs.Table.{Registry, blank_lease}
use Rattle.rules.specs.declared.PublicationId.{PublicationId}
use Rattle.rules.specs.declared.LeaseId.{LeaseId}
use Rattle.rules.specs.declared.Owner.{Owner}
use Rattle.rules.specs.declared.Port.{Port}
use Rattle.rules.specs.declared.Publication.{Publication}
use Rattle.rules.specs.declared.Lease.{Lease}

-- of a record

abbrev pub visible_on : Port → Publication → Bool
visible_on q e = e.visible && eqb e.port.0 q.0

abbrev pub retained_in : ℕ → Publication → Bool
retained_in slot e = e.retained && eqb e.slot slot

abbrev pub owned_by : Owner → ℕ → Publication → Bool
owned_by o g e = eqb e.owner.0 o.0 && eqb e.generation g

abbrev pub is_lease : LeaseId → Lease → Bool
is_lease i l = eqb l.id.0 i.0

abbrev pub names : PublicationId → Lease → Bool
names p l = eqb l.publication.0 p.0

-- of a table

module _ (t : Registry) where
  -- the identifier was never given out
  abbrev pub unknown : PublicationId → Bool
  unknown p = leb (length t.publications) p.0

  abbrev pub port_held : Port → Bool
  port_held q = some_pass (visible_on q) t.publications

  abbrev pub slot_held : ℕ → Bool
  slot_held slot = some_pass (retained_in slot) t.publications

  -- an active lease names the publication
  abbrev pub leased : PublicationId → Bool
  leased p = some_pass (names p) t.leases

  -- the lease was never given out; it is active; its record
  abbrev pub never_lent : LeaseId → Bool
  never_lent i = leb t.counter i.0

  abbrev pub active : LeaseId → Bool
  active i = some_pass (is_lease i) t.leases

  abbrev pub lease_of : LeaseId → Lease
  lease_of i = get_or t.leases (first_place (is_lease i) t.leases) blank_lease

  -- the publication that is visible on a port
  abbrev pub resolved : Port → PublicationId
  resolved q = record { 0 = first_place (visible_on q) t.publications }

  module _ (L : Limits) where
    -- no publication more; no lease more
    abbrev pub full : Bool
    full = leb L.publications (length t.publications)

    abbrev pub no_lease_left : Bool
    no_lease_left = leb L.top t.counter || leb L.leases (length t.leases)
