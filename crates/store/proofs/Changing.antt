-- What replace and reclaim leave of a sound store is what their rows say.
-- Assumes nothing.
use Rattle.std.specs.Prelude.{Option, Some, None, Result, Ok, Err}
use Prim.Native.Nat.{ℕ, suc, ◌+◌}
use mathlib.Core.Path.{◌≡◌, sym, ap, ◌∙◌}
use native.Mathlib.Numerals.{add-one}
use lib.ListN.{take, drop, set, get_or}
use Rattle.lists.specs.Column.{padded}
use Rattle.rules.specs.Limits.{Limits}
use Rattle.rules.specs.Answers.{stop, verdict}
use Rattle.rules.specs.Table.{Store, at}
use Rattle.rules.specs.Changes.{reclaimed}
use Rattle.rules.specs.Columns.{StoreColumns, used_registry, used}
use Rattle.rules.specs.Sound.{StoreColumnsSound}
use Rattle.rules.specs.Rows.{reclaim_row, replace_row, step}
use Rattle.rules.specs.Calls.{laid_out}
use Rattle.rules.specs.declared.PublicationId.{PublicationId}
use Rattle.rules.specs.declared.Owner.{Owner}
use Rattle.rules.specs.declared.Publication.{Publication}
use Rattle.rules.specs.declared.Refusal.{Refusal}
use Rattle.rules.specs.declared.Refusal.TheVariants.{Unknown}
use Rattle.rules.specs.declared.Command.TheVariants.{Replace, Reclaim}
use Rattle.rules.proofs.Columns.{registry_columns, payload_used, revision_used}
use Rattle.columns.specs.Columns.{alone_in_store, first}
use Rattle.columns.specs.Verdicts.{known_of, verdict_of}
use Rattle.columns.proofs.Verdicts.{not_known, known_there, known_is, told_pass, told_stop}
use Rattle.columns.proofs.Effects.{with_publications, filled_changed}
use Rattle.columns.proofs.Passes.{known_below, publication_below}
use Rattle.store.specs.Columns.{store_of}
use Rattle.store.specs.Answers.{answered_of, returned_of}
use Rattle.store.proofs.Steps.{stopped, carried, stopped_by, carried_by}
use Rattle.store.proofs.Effects.{made_of, blank_revisions, filled_payload, filled_revision}

module _ {L : Limits} {c : StoreColumns} (h : StoreColumnsSound L c) (p : PublicationId) where
  module _ {w : Result (Unit {0}) Refusal} (e : w ≡ verdict_of (verdict (reclaim_row L (used_registry c.registry) p))) where
    pub reclaim_refused : {r : Refusal} → w ≡ Err r
        → record { answer = Err r; table = store_of c } ≡ answered_of (laid_out L (step L (used c) (Reclaim p)))
    reclaim_refused t = sym (ap answered_of (stopped_by L c (Reclaim p) e h t))

    pub reclaim_done : w ≡ Ok tt
        → record {
          answer = Ok (get_or c.payloads p.0 0);
          table =
              store_of
              (record {
                registry =
                    with_publications c.registry (set c.registry.publications p.0 (reclaimed (at c.registry.publications p))) c.registry.count;
                payloads = set c.payloads p.0 0;
                revisions = c.revisions;
              });
        }
        ≡ answered_of (laid_out L (step L (used c) (Reclaim p)))
    reclaim_done t =
        let k = known_below (registry_columns L c h) p (drop 1 (reclaim_row L (used_registry c.registry) p)) e t in
        sym
        (ap answered_of
        (carried_by L c (Reclaim p) e t
        (made_of (filled_changed (registry_columns L c h) p reclaimed k) (filled_payload h p.0 0 k) (blank_revisions h)))
        ∙ rw (← payload_used L c h p.0))

  -- replace, of a record that is known
  module _ (o : Owner) (g v : ℕ) {f : Option Publication} (k : f ≡ known_of (take c.registry.count c.registry.publications) p) where
    pub replace_unknown : f ≡ None
        → record { answer = Err (record { why = Unknown; handle = v }); table = store_of c } ≡ returned_of (laid_out L (step L (used c) (Replace p o g v)))
    replace_unknown q =
        let u : verdict (replace_row L (used c) p o g) ≡ stop Unknown =
        rw (not_known (take c.registry.count c.registry.publications) p k q) in
        sym (ap returned_of (stopped L c (Replace p o g v) h u))

    abbrev cell : Publication → Store
    cell r = alone_in_store r (get_or c.revisions p.0 0)

    module _ {r : Publication} (q : f ≡ Some r) {w : Result (Unit {0}) Refusal} (e : w ≡ verdict_of (verdict (replace_row L (cell r) first o g))) where
      replace_alone : verdict (replace_row L (used c) p o g) ≡ verdict (replace_row L (cell r) first o g)
      replace_alone =
          rw (known_there (take c.registry.count c.registry.publications) p k q, known_is (take c.registry.count c.registry.publications) p k q, revision_used L c h p.0)

      pub replace_refused : {y : Refusal} → w ≡ Err y
          → record { answer = Err (record { why = y; handle = v }); table = store_of c } ≡ returned_of (laid_out L (step L (used c) (Replace p o g v)))
      replace_refused t =
          sym (ap returned_of (stopped L c (Replace p o g v) h (replace_alone ∙ told_stop (verdict (replace_row L (cell r) first o g)) e t)))

      pub replace_done : w ≡ Ok tt
          → record {
            answer = Ok (get_or c.payloads p.0 0);
            table =
                store_of
                (record {
                  registry = c.registry;
                  payloads = set c.payloads p.0 v;
                  revisions = set c.revisions p.0 (get_or c.revisions p.0 0 + 1);
                });
          }
          ≡ returned_of (laid_out L (step L (used c) (Replace p o g v)))
      replace_done t =
          let b = publication_below (registry_columns L c h) p k q in
          let up : padded L.publications 0 (set (take c.registry.count c.revisions) p.0 (suc (get_or (take c.registry.count c.revisions) p.0 0)))
          ≡ set c.revisions p.0 (get_or c.revisions p.0 0 + 1) =
          rw (← revision_used L c h p.0, add-one (get_or c.revisions p.0 0)) (filled_revision h p.0 (suc (get_or c.revisions p.0 0)) b) in
          sym
          (ap returned_of
          (carried L c (Replace p o g v) (replace_alone ∙ told_pass (verdict (replace_row L (cell r) first o g)) e t)
          (made_of (registry_columns L c h).s6 (filled_payload h p.0 v b) up))
          ∙ rw (← payload_used L c h p.0))
