-- What publish, adopt, revoke and reclaim leave of a sound registry is what their rows say.
-- Assumes nothing.
use Rattle.std.specs.Prelude.{Result, Ok}
use Prim.Native.Nat.{ℕ, ◌+◌}
use mathlib.Core.Path.{◌≡◌, sym, ap}
use mathlib.Core.Bool.{◌||◌}
use mathlib.Core.List.{[], ◌∷◌}
use lib.ListN.{drop, set}
use Rattle.rules.specs.Limits.{Limits}
use Rattle.rules.specs.Answers.{◌⇒◌, verdict}
use Rattle.rules.specs.Table.{at}
use Rattle.rules.specs.Conditions.{port_held, slot_held}
use Rattle.rules.specs.Changes.{published, adopted, hidden, reclaimed}
use Rattle.rules.specs.Columns.{RegistryColumns, used_registry}
use Rattle.rules.specs.Sound.{RegistryColumnsSound}
use Rattle.rules.specs.Rows.{adopt_row, revoke_row, reclaim_row}
use Rattle.rules.specs.RegistryRows.{slot_publish_row, registry_step, publish, adopt, revoke, reclaim}
use Rattle.rules.specs.Calls.{laid_out_registry}
use Rattle.rules.specs.declared.PublicationId.{PublicationId}
use Rattle.rules.specs.declared.Publication.{Publication}
use Rattle.rules.specs.declared.Owner.{Owner}
use Rattle.rules.specs.declared.Port.{Port}
use Rattle.rules.specs.declared.Refusal.{Refusal}
use Rattle.rules.specs.declared.Refusal.TheVariants.{Conflict}
use Rattle.rules.proofs.Columns.{count_used, record_used}
use Rattle.columns.specs.Verdicts.{verdict_of}
use Rattle.columns.proofs.Effects.{with_publications, filled_published, filled_changed}
use Rattle.columns.proofs.Passes.{publication_room, known_below}
use Rattle.registry.specs.Columns.{registry_of}
use Rattle.registry.specs.Answers.{answered_of}
use Rattle.registry.proofs.Steps.{passes, gives_result}

module _ {L : Limits} {c : RegistryColumns} (h : RegistryColumnsSound L c) where
  pub publish_done : (q : Port) (s : ℕ) {w : Result (Unit {0}) Refusal} → w ≡ verdict_of (verdict (slot_publish_row L (used_registry c) q s))
      → (o : Owner) (g : ℕ) → w ≡ Ok tt
      → record { answer = Ok (record { 0 = c.count }); table = registry_of (with_publications c (set c.publications c.count (published o g q s)) (c.count + 1)) }
      ≡ answered_of (laid_out_registry L (registry_step L (used_registry c) (publish o g q s)))
  publish_done q s e o g t =
      gives_result L c (publish o g q s) (passes L c (publish o g q s) e t)
      (ap (λ (n : ℕ). Ok (record { 0 = n })) (sym (count_used L c h)))
      (filled_published h (published o g q s) (publication_room h ((port_held (used_registry c) q || slot_held (used_registry c) s ⇒ Conflict) ∷ []) e t))

  module _ (p : PublicationId) where
    -- one record changed
    abbrev changed : (Publication → Publication) → RegistryColumns
    changed f = with_publications c (set c.publications p.0 (f (at c.publications p))) c.count

    pub adopt_done : (o : Owner) (g : ℕ) {w : Result (Unit {0}) Refusal} → w ≡ verdict_of (verdict (adopt_row L (used_registry c) p o g)) → w ≡ Ok tt
        → record { answer = w; table = registry_of (changed adopted) } ≡ answered_of (laid_out_registry L (registry_step L (used_registry c) (adopt p o g)))
    adopt_done o g e t =
        gives_result L c (adopt p o g) (passes L c (adopt p o g) e t) t
        (filled_changed h p adopted (known_below h p (drop 1 (adopt_row L (used_registry c) p o g)) e t))

    pub revoke_done : {w : Result (Unit {0}) Refusal} → w ≡ verdict_of (verdict (revoke_row L (used_registry c) p)) → w ≡ Ok tt
        → record { answer = w; table = registry_of (changed hidden) } ≡ answered_of (laid_out_registry L (registry_step L (used_registry c) (revoke p)))
    revoke_done e t =
        gives_result L c (revoke p) (passes L c (revoke p) e t) t
        (filled_changed h p hidden (known_below h p (drop 1 (revoke_row L (used_registry c) p)) e t))

    pub reclaim_done : {w : Result (Unit {0}) Refusal} → w ≡ verdict_of (verdict (reclaim_row L (used_registry c) p)) → w ≡ Ok tt
        → record { answer = Ok (at c.publications p).slot; table = registry_of (changed reclaimed) }
        ≡ answered_of (laid_out_registry L (registry_step L (used_registry c) (reclaim p)))
    reclaim_done e t =
        gives_result L c (reclaim p) (passes L c (reclaim p) e t)
        (ap (λ (e : Publication). Ok e.slot) (record_used L c h p.0))
        (filled_changed h p reclaimed (known_below h p (drop 1 (reclaim_row L (used_registry c) p)) e t))
