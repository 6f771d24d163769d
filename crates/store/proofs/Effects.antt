-- What each effect makes of the columns of a sound store.
-- Assumes nothing.
use Prim.Native.Nat.{ℕ, ◌+◌, ◌<◌}
use mathlib.Core.Path.{◌≡◌, ap}
use mathlib.Core.List.{List, [], ◌∷◌, ◌++◌}
use native.Mathlib.Omega.{arith}
use lib.ListN.{length, take, set}
use Rattle.lists.specs.Column.{padded}
use Rattle.lists.proofs.Column.{padded-snoc, padded-set}
use Rattle.rules.specs.Limits.{Limits}
use Rattle.rules.specs.Table.{Registry}
use Rattle.rules.specs.Changes.{and_publication, with_registry}
use Rattle.rules.specs.Columns.{RegistryColumns, StoreColumns, used, used_registry, filled, filled_registry}
use Rattle.rules.specs.Sound.{StoreColumnsSound}
use Rattle.rules.specs.declared.Publication.{Publication}
use Rattle.rules.proofs.Columns.{registry_columns, payloads_used, revisions_used}
use Rattle.columns.proofs.Effects.{with_publications, filled_published}

-- another registry beside the same cells
abbrev pub beside_cells : StoreColumns → RegistryColumns → StoreColumns
beside_cells c x = record { registry = x; payloads = c.payloads; revisions = c.revisions }

pub made_of : {x y : RegistryColumns} {a b m n : List ℕ} → x ≡ y → a ≡ b → m ≡ n
    → ◌≡◌ {A = StoreColumns} (record { registry = x; payloads = a; revisions = m }) (record { registry = y; payloads = b; revisions = n })
made_of e f g = rw (e, f, g)

module _ {L : Limits} {c : StoreColumns} (h : StoreColumnsSound L c) where
  -- the cells in use and blanks are the columns

  pub blank_payloads : padded L.publications 0 (take c.registry.count c.payloads) ≡ c.payloads
  blank_payloads = ap (λ (x : StoreColumns). x.payloads) h.s6

  pub blank_revisions : padded L.publications 0 (take c.registry.count c.revisions) ≡ c.revisions
  blank_revisions = ap (λ (x : StoreColumns). x.revisions) h.s6

  -- one publication more, with its payload and its revision
  pub filled_stored : (e : Publication) (v n : ℕ) → c.registry.count < L.publications
      → filled L
      (record {
        registry = and_publication (used_registry c.registry) e;
        payloads = take c.registry.count c.payloads ++ (v ∷ []);
        revisions = take c.registry.count c.revisions ++ (n ∷ []);
      })
      ≡ record {
        registry = with_publications c.registry (set c.registry.publications c.registry.count e) (c.registry.count + 1);
        payloads = set c.payloads c.registry.count v;
        revisions = set c.revisions c.registry.count n;
      }
  filled_stored e v n k =
      let p = payloads_used L c h in
      let r = revisions_used L c h in
      let lp : length (take c.registry.count c.payloads) < L.publications = omega arith in
      let lr : length (take c.registry.count c.revisions) < L.publications = omega arith in
      rw (filled_published (registry_columns L c h) e k, padded-snoc L.publications 0 (take c.registry.count c.payloads) v lp, padded-snoc L.publications 0 (take c.registry.count c.revisions) n lr, p, r, blank_payloads, blank_revisions)

  -- only the registry changed
  pub filled_beside : (t : Registry) → filled L (with_registry (used c) t) ≡ beside_cells c (filled_registry L t)
  filled_beside t = rw (blank_payloads, blank_revisions)

  -- one cell changed

  module _ (i v : ℕ) (k : i < c.registry.count) where
    pub filled_payload : padded L.publications 0 (set (take c.registry.count c.payloads) i v) ≡ set c.payloads i v
    filled_payload =
        let n = payloads_used L c h in
        let l : i < length (take c.registry.count c.payloads) = omega arith in
        rw (padded-set L.publications 0 (take c.registry.count c.payloads) i v l, blank_payloads)

    pub filled_revision : padded L.publications 0 (set (take c.registry.count c.revisions) i v) ≡ set c.revisions i v
    filled_revision =
        let n = revisions_used L c h in
        let l : i < length (take c.registry.count c.revisions) = omega arith in
        rw (padded-set L.publications 0 (take c.registry.count c.revisions) i v l, blank_revisions)
