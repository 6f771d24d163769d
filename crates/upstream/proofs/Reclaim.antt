-- `reclaim` of the registry and of the store: R20 and S15, and when it succeeds.
-- Assumes nothing.
use Prim.Native.Nat.{ℕ, ◌<◌}
use mathlib.Core.Path.{◌≡◌, refl, ap, ◌∙◌}
use mathlib.Core.Bool.{Bool, true, false, cond}
use mathlib.Core.Logic.Iff
use mathlib.Core.Logic.{◌↔◌}
use mathlib.Core.Option.{none, some}
use lib.ListN.{length, set}
use borrow.Author.Tests.{leb-false, lt-leb, not-false}
use Rattle.rules.specs.Limits.{Limits}
use Rattle.rules.specs.Commands.{AnswerTo}
use Rattle.rules.specs.Table.{Registry, Store, at, publication_of, payload_of}
use Rattle.rules.specs.Changes.{reclaimed}
use Rattle.rules.specs.Rows.{reclaim_row, step}
use Rattle.rules.specs.RegistryRows.{Call, CallAnswer, reclaim, registry_step}
use Rattle.rules.specs.Sound.{RegistrySound, StoreSound}
use Rattle.rules.specs.VisibleTable.{visible_table}
use Rattle.rules.specs.declared.PublicationId.{PublicationId}
use Rattle.rules.specs.declared.Port.{Port}
use Rattle.rules.specs.declared.Command.{Command}
use Rattle.rules.specs.declared.Command.TheVariants.{Reclaim}
use Rattle.rules.proofs.Clear.{Clear}
use Rattle.rules.proofs.Refusals.{call_step_keeps, step_keeps}
use Rattle.rules.proofs.VisibleAfter.{visible_table_kept}
use Rattle.upstream.specs.Answers.{is_ok, IfOk, IfErr}
use Rattle.upstream.specs.Registry.{domain_id, publications, lease_records, lease_allocations, Unleased, Unchanged, RegistryWf}
use Rattle.upstream.specs.Store.{registry_view, values, revisions, value_at, StoreWf, Same, LeaseFrame}
use Rattle.upstream.proofs.Held.{held_set}
use Rattle.upstream.proofs.Wf.{length-values, value_is}
use Rattle.upstream.proofs.Leases.{unleased_exactly}
use Rattle.upstream.proofs.Outcomes.{call_ok, call_unchanged, call_wf, call_if_ok, command_ok, command_same, command_wf, command_frame, command_if_ok}

module _ (id : PublicationId) where
  -- what holds before, where it succeeds; S15.11 and S15.12 as well
  pub record Reclaimable (old : Registry) : Type 0 where
    pub R20_8 : id.0 < length (publications old)
    pub R20_9 : Unleased old id
    pub R20_10 : (at (publications old) id).visible ≡ false
    pub R20_11 : (at (publications old) id).retained ≡ true

  abbrev drops : Registry → Registry → Type 0
  drops old final = publications final ≡ set (publications old) id.0 (reclaimed (at (publications old) id))

  pub record ReclaimOk (old : Registry) (slot : ℕ) (final : Registry) : Type 0 where
    pub before : Reclaimable old
    pub R20_12 : slot ≡ (at (publications old) id).slot
    pub R20_13 : drops old final

  pub record ReclaimClauses (old final : Registry) (out : CallAnswer (reclaim id)) : Type 0 where
    pub R20_2 : RegistryWf final
    pub R20_3 : domain_id final ≡ domain_id old
    pub R20_4 : lease_records final ≡ lease_records old
    pub R20_5 : lease_allocations final ≡ lease_allocations old
    pub R20_6 : (is_ok out ≡ true) ↔ Reclaimable old
    pub R20_7 : IfErr out (λ b. Unchanged final old)
    pub ok : IfOk out (λ slot. ReclaimOk old slot final)

  -- the store's

  pub record StoreReclaimOk (old : Store) (value : ℕ) (final : Store) : Type 0 where
    pub S15_7 : id.0 < length (values old)
    pub S15_8 : value_at old id.0 ≡ some value
    pub S15_9 : values final ≡ set (values old) id.0 none
    pub S15_10 : drops (registry_view old) (registry_view final)
    pub before : Reclaimable (registry_view old)

  pub record StoreReclaimClauses (old final : Store) (out : AnswerTo (Reclaim id)) : Type 0 where
    pub S15_2 : StoreWf final
    pub S15_3 : LeaseFrame final old
    pub S15_4 : (q : Port) → visible_table final q ≡ visible_table old q
    pub S15_5 : revisions final ≡ revisions old
    pub S15_6 : IfErr out (λ b. Same final old)
    pub ok : IfOk out (λ value. StoreReclaimOk old value final)

module _ (L : Limits) (p : PublicationId) where
  -- the row lets it pass exactly then
  pub reclaimable_exactly : (t : Registry) → Clear (reclaim_row L t p) ↔ Reclaimable p t
  reclaimable_exactly t = (
    λ c.
        record {
          R20_8 = leb-false (length (publications t)) p.0 c.0;
          R20_9 = (unleased_exactly t p).0 c.1.1.1.0;
          R20_10 = c.1.0;
          R20_11 = not-false (at (publications t) p).retained c.1.1.0;
        },
    λ r. (
      lt-leb (length (publications t)) p.0 r.R20_8,
      (r.R20_10, (rw r.R20_11, ((unleased_exactly t p).1 r.R20_9, tt))),
    ),
  )

  pub reclaim_R20 : (t : Registry) → RegistrySound L t
      → ReclaimClauses p t (registry_step L t (reclaim p)).table (registry_step L t (reclaim p)).answer
  reclaim_R20 t s =
      record {
        R20_2 = call_wf L t k s;
        R20_3 = call_step_keeps L t k (λ u. domain_id u ≡ domain_id t) refl (λ e. refl);
        R20_4 = call_step_keeps L t k (λ u. lease_records u ≡ lease_records t) refl (λ e. refl);
        R20_5 = call_step_keeps L t k (λ u. lease_allocations u ≡ lease_allocations t) refl (λ e. refl);
        R20_6 = Iff.trans (call_ok L t k) (reclaimable_exactly t);
        R20_7 = call_unchanged L t k;
        ok =
            call_if_ok L t k (ReclaimOk p t) (λ c. record { before = (reclaimable_exactly t).0 c; R20_12 = refl; R20_13 = refl });
      }
    where
      k : Call
      k = reclaim p

  pub reclaim_S15 : (s : Store) → StoreSound L s → StoreReclaimClauses p s (step L s (Reclaim p)).table (step L s (Reclaim p)).answer
  reclaim_S15 s h =
      record {
        S15_2 = command_wf L s c h;
        S15_3 = command_frame L s c (record { D15_1 = refl; D15_2 = refl; D15_3 = refl });
        S15_4 = λ q. visible_table_kept L s h c q refl;
        S15_5 = step_keeps L s c (λ u. revisions u ≡ revisions s) refl (λ e. refl);
        S15_6 = command_same L s c;
        ok =
            command_if_ok L s c (StoreReclaimOk p s)
            (λ k.
            let r = (reclaimable_exactly s.registry).0 k in
            record {
              S15_7 = rw (length-values L s h) r.R20_8;
              S15_8 = value_is L s h p.0 ∙ ap (λ (b : Bool). cond b (some (payload_of s p)) none) r.R20_11;
              S15_9 = held_set s.registry.publications s.payloads p.0 (reclaimed (publication_of s p)) 0;
              S15_10 = refl;
              before = r;
            });
      }
    where
      c : Command
      c = Reclaim p

  pub store_reclaim_exactly : (s : Store) → (is_ok (step L s (Reclaim p)).answer ≡ true) ↔ Reclaimable p (registry_view s)
  store_reclaim_exactly s = Iff.trans (command_ok L s (Reclaim p)) (reclaimable_exactly s.registry)
