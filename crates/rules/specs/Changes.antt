-- The changes that effects are made of.
-- Assumes nothing.
use Rattle.std.specs.Prelude.{ℕ, suc, true, false, List, [], ◌∷◌, ◌++◌, set, Option}
use Rattle.lists.specs.Search.{leave_out}
use Rattle.rules.specs.Table.{Registry, Store, at}
use Rattle.rules.specs.Conditions.{is_lease}
use Rattle.rules.specs.declared.PublicationId.{PublicationId}
use Rattle.rules.specs.declared.LeaseId.{LeaseId}
use Rattle.rules.specs.declared.Owner.{Owner}
use Rattle.rules.specs.declared.Port.{Port}
use Rattle.rules.specs.declared.Publication.{Publication}
use Rattle.rules.specs.declared.Consumer.{Consumer}

-- of a record

abbrev pub published : Owner → ℕ → Port → ℕ → Publication
published o g q slot = record { owner = o; generation = g; port = q; slot = slot; visible = true; retained = true }

abbrev pub adopted : Publication → Publication
adopted e =
    record { owner = e.owner; generation = 1; port = e.port; slot = e.slot; visible = e.visible; retained = e.retained }

abbrev pub hidden : Publication → Publication
hidden e =
    record { owner = e.owner; generation = e.generation; port = e.port; slot = e.slot; visible = false; retained = e.retained }

abbrev pub reclaimed : Publication → Publication
reclaimed e =
    record { owner = e.owner; generation = e.generation; port = e.port; slot = e.slot; visible = e.visible; retained = false }

-- of a registry's table

module _ (t : Registry) where
  abbrev pub with_publications : List Publication → Registry
  with_publications es = record { domain = t.domain; publications = es; leases = t.leases; counter = t.counter }

  -- one publication more, at the next identifier
  abbrev pub and_publication : Publication → Registry
  and_publication e = with_publications (t.publications ++ (e ∷ []))

  -- one publication changed
  abbrev pub change : PublicationId → (Publication → Publication) → Registry
  change p f = with_publications (set t.publications p.0 (f (at t.publications p)))

  -- one lease more, the last; the counter is its identifier, and goes up by 1
  abbrev pub and_lease : PublicationId → Option Consumer → Registry
  and_lease p k =
      record {
        domain = t.domain;
        publications = t.publications;
        leases = t.leases ++ (record { id = record { 0 = t.counter }; publication = p; consumer = k } ∷ []);
        counter = suc t.counter;
      }

  -- one lease out, later ones up by one
  abbrev pub without_lease : LeaseId → Registry
  without_lease i =
      record { domain = t.domain; publications = t.publications; leases = leave_out (is_lease i) t.leases; counter = t.counter }

-- of a store's table

module _ (s : Store) where
  abbrev pub with_registry : Registry → Store
  with_registry t = record { registry = t; payloads = s.payloads; revisions = s.revisions }

  abbrev pub with_payload : PublicationId → ℕ → Store
  with_payload p h = record { registry = s.registry; payloads = set s.payloads p.0 h; revisions = s.revisions }

  abbrev pub with_revision : PublicationId → ℕ → Store
  with_revision p n = record { registry = s.registry; payloads = s.payloads; revisions = set s.revisions p.0 n }
