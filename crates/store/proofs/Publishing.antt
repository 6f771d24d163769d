-- What publish leaves of a sound store is what its row says.
-- Assumes nothing.
use Rattle.std.specs.Prelude.{Result, Ok, Err}
use Prim.Native.Nat.{ℕ, ◌+◌, ◌<◌}
use mathlib.Core.Path.{◌≡◌, sym, ap, ◌∙◌}
use mathlib.Core.List.{[], ◌∷◌}
use lib.ListN.{set}
use Rattle.rules.specs.Limits.{Limits}
use Rattle.rules.specs.Answers.{◌⇒◌, verdict}
use Rattle.rules.specs.Conditions.{port_held}
use Rattle.rules.specs.Changes.{published}
use Rattle.rules.specs.Columns.{StoreColumns, used_registry, used}
use Rattle.rules.specs.Sound.{StoreColumnsSound}
use Rattle.rules.specs.Rows.{publish_row, step}
use Rattle.rules.specs.Calls.{laid_out}
use Rattle.rules.specs.declared.Owner.{Owner}
use Rattle.rules.specs.declared.Port.{Port}
use Rattle.rules.specs.declared.Refusal.{Refusal}
use Rattle.rules.specs.declared.Refusal.TheVariants.{Conflict}
use Rattle.rules.specs.declared.Command.TheVariants.{Publish}
use Rattle.rules.proofs.Columns.{registry_columns, count_used}
use Rattle.columns.specs.Verdicts.{verdict_of}
use Rattle.columns.proofs.Effects.{with_publications}
use Rattle.columns.proofs.Passes.{publication_room}
use Rattle.store.specs.Columns.{store_of}
use Rattle.store.specs.Answers.{returned_of}
use Rattle.store.proofs.Steps.{stopped_by, carried_by}
use Rattle.store.proofs.Effects.{filled_stored}

module _ {L : Limits} {c : StoreColumns} (h : StoreColumnsSound L c) (q : Port)
    {w : Result (Unit {0}) Refusal} (e : w ≡ verdict_of (verdict (publish_row L (used_registry c.registry) q))) where
  publish_room : w ≡ Ok tt → c.registry.count < L.publications
  publish_room t = publication_room (registry_columns L c h) ((port_held (used_registry c.registry) q ⇒ Conflict) ∷ []) e t

  module _ (o : Owner) (g v : ℕ) where
    pub publish_refused : {r : Refusal} → w ≡ Err r
        → record { answer = Err (record { why = r; handle = v }); table = store_of c } ≡ returned_of (laid_out L (step L (used c) (Publish o g q v)))
    publish_refused t = sym (ap returned_of (stopped_by L c (Publish o g q v) e h t))

    -- one publication more, with its handle and revision 0
    abbrev stored : StoreColumns
    stored =
        record {
          registry =
              with_publications c.registry (set c.registry.publications c.registry.count (published o g q c.registry.count)) (c.registry.count + 1);
          payloads = set c.payloads c.registry.count v;
          revisions = set c.revisions c.registry.count 0;
        }

    pub publish_done : w ≡ Ok tt
        → record { answer = Ok (record { 0 = c.registry.count }); table = store_of stored } ≡ returned_of (laid_out L (step L (used c) (Publish o g q v)))
    publish_done t =
        let n = count_used L c.registry (registry_columns L c h) in
        sym
        (ap returned_of (carried_by L c (Publish o g q v) e t {t = stored} (rw n (filled_stored h (published o g q c.registry.count) v 0 (publish_room t)))) ∙ rw n)
