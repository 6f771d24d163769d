-- `publish` of the registry and of the store: R11 and S3, and when it succeeds.
-- Assumes nothing.
use Prim.Native.Nat.{ℕ, ◌<◌}
use mathlib.Core.Path.{◌≡◌, refl, sym}
use mathlib.Core.Bool.{true}
use mathlib.Core.List.{[], ◌∷◌, ◌++◌}
use mathlib.Core.Logic.Iff
use mathlib.Core.Logic.{◌↔◌}
use mathlib.Core.Option.{none, some}
use lib.ListN.{length}
use borrow.Author.Tests.{leb-false, lt-leb}
use Rattle.lists.proofs.Bools.{or_left, or_right}
use Rattle.rules.specs.Limits.{Limits}
use Rattle.rules.specs.Table.{Registry, Store}
use Rattle.rules.specs.Commands.{AnswerTo}
use Rattle.rules.specs.Conditions.{port_held, slot_held}
use Rattle.rules.specs.Changes.{published}
use Rattle.rules.specs.Rows.{tests, step}
use Rattle.rules.specs.RegistryRows.{Call, CallAnswer, publish, registry_step}
use Rattle.rules.specs.Sound.{RegistrySound, StoreSound}
use Rattle.rules.specs.VisibleTable.{visible_table, lookup, put}
use Rattle.rules.specs.declared.PublicationId.{PublicationId}
use Rattle.rules.specs.declared.Owner.{Owner}
use Rattle.rules.specs.declared.Port.{Port}
use Rattle.rules.specs.declared.Command.{Command}
use Rattle.rules.specs.declared.Command.TheVariants.{Publish}
use Rattle.rules.proofs.Clear.{clear_passes}
use Rattle.rules.proofs.Refusals.{call_step_keeps}
use Rattle.rules.proofs.VisibleAfter.{publish_finds, publish_shows}
use Rattle.upstream.specs.Answers.{is_ok, IfOk, IfErr}
use Rattle.upstream.specs.Registry.{domain_id, publications, lease_records, lease_allocations, Unchanged, RegistryWf}
use Rattle.upstream.specs.Store.{registry_view, values, revisions, StoreWf, Same, LeaseFrame}
use Rattle.upstream.proofs.Outcomes.{call_ok, call_unchanged, call_wf, call_if_ok, command_ok, command_same, command_returns, command_wf, command_frame, command_if_ok}
use Rattle.upstream.proofs.Conflicts.{PortFree, SlotFree, port_free_exactly, slot_free_exactly}
use Rattle.upstream.proofs.Held.{held_snoc}
use Rattle.upstream.proofs.Wf.{length-values}

-- when it succeeds: the registry's looks at the slot too
pub record Publishable (L : Limits) (port : Port) (old : Registry) : Type 0 where
  pub room : length (publications old) < L.publications
  pub port_free : PortFree old port

module _ (owner : Owner) (generation : ℕ) (port : Port) where
  -- the registry's

  pub record PublishOk (slot : ℕ) (old : Registry) (id : PublicationId) (final : Registry) : Type 0 where
    pub R11_7 : id.0 ≡ length (publications old)
    pub R11_8 : publications final ≡ publications old ++ (published owner generation port slot ∷ [])

  pub record PublishClauses (slot : ℕ) (old final : Registry) (out : CallAnswer (publish owner generation port slot)) : Type 0 where
    pub R11_2 : RegistryWf final
    pub R11_3 : domain_id final ≡ domain_id old
    pub R11_4 : lease_records final ≡ lease_records old
    pub R11_5 : lease_allocations final ≡ lease_allocations old
    pub R11_6 : IfErr out (λ b. Unchanged final old)
    pub ok : IfOk out (λ id. PublishOk slot old id final)

  -- the store's

  pub record StorePublishOk (value : ℕ) (old : Store) (id : PublicationId) (final : Store) : Type 0 where
    pub S3_6 : lookup old port ≡ none
    pub S3_7 : (q : Port) → visible_table final q ≡ put (visible_table old) port (some value) q
    pub S3_8 : id.0 ≡ length (values old)
    pub S3_9 : values final ≡ values old ++ (some value ∷ [])
    pub S3_10 : revisions final ≡ revisions old ++ (0 ∷ [])
    pub S3_11 : publications (registry_view final) ≡ publications (registry_view old) ++ (published owner generation port id.0 ∷ [])

  pub record StorePublishClauses (value : ℕ) (old final : Store) (out : AnswerTo (Publish owner generation port value)) : Type 0 where
    pub S3_2 : StoreWf final
    pub S3_3 : LeaseFrame final old
    pub S3_4 : IfErr out (λ back. Same final old)
    pub S3_5 : IfErr out (λ back. back ≡ value)
    pub ok : IfOk out (λ id. StorePublishOk value old id final)

module _ (L : Limits) (o : Owner) (g : ℕ) (q : Port) where
  pub publish_R11 : (n : ℕ) (t : Registry) → RegistrySound L t
      → PublishClauses o g q n t (registry_step L t (publish o g q n)).table (registry_step L t (publish o g q n)).answer
  publish_R11 n t s =
      record {
        R11_2 = call_wf L t k s;
        R11_3 = call_step_keeps L t k (λ u. domain_id u ≡ domain_id t) refl (λ e. refl);
        R11_4 = call_step_keeps L t k (λ u. lease_records u ≡ lease_records t) refl (λ e. refl);
        R11_5 = call_step_keeps L t k (λ u. lease_allocations u ≡ lease_allocations t) refl (λ e. refl);
        R11_6 = call_unchanged L t k;
        ok = call_if_ok L t k (PublishOk o g q n t) (λ c. record { R11_7 = refl; R11_8 = refl });
      }
    where
      k : Call
      k = publish o g q n

  pub publish_S3 : (v : ℕ) (s : Store) → StoreSound L s
      → StorePublishClauses o g q v s (step L s (Publish o g q v)).table (step L s (Publish o g q v)).answer
  publish_S3 v s h =
      record {
        S3_2 = command_wf L s c h;
        S3_3 = command_frame L s c (record { D15_1 = refl; D15_2 = refl; D15_3 = refl });
        S3_4 = command_same L s c;
        S3_5 = command_returns L s c;
        ok =
            command_if_ok L s c (StorePublishOk o g q v s)
            (λ k.
            let e = clear_passes (tests L s c) k in
            record {
              S3_6 = publish_finds L s h o g q v e;
              S3_7 = publish_shows L s h o g q v e;
              S3_8 = sym (length-values L s h);
              S3_9 = held_snoc s.registry.publications s.payloads (published o g q (length s.registry.publications)) v h.s5.payload_each;
              S3_10 = refl;
              S3_11 = refl;
            });
      }
    where
      c : Command
      c = Publish o g q v

  pub publish_exactly : (n : ℕ) (t : Registry)
      → (is_ok (registry_step L t (publish o g q n)).answer ≡ true) ↔ (Publishable L q t × SlotFree t n)
  publish_exactly n t =
      Iff.trans (call_ok L t (publish o g q n)) (
        λ c. (
          record {
            room = leb-false L.publications (length (publications t)) c.0;
            port_free = (port_free_exactly t q).0 (or_left (port_held t q) (slot_held t n) c.1.0);
          },
          (slot_free_exactly t n).0 (or_right (port_held t q) (slot_held t n) c.1.0),
        ),
        λ p. (
          lt-leb L.publications (length (publications t)) p.0.room,
          (rw ((port_free_exactly t q).1 p.0.port_free, (slot_free_exactly t n).1 p.1), tt),
        ),
      )

  pub store_publish_exactly : (v : ℕ) (s : Store) → (is_ok (step L s (Publish o g q v)).answer ≡ true) ↔ Publishable L q (registry_view s)
  store_publish_exactly v s =
      Iff.trans (command_ok L s (Publish o g q v)) (
        λ c.
            record {
              room = leb-false L.publications (length s.registry.publications) c.0;
              port_free = (port_free_exactly s.registry q).0 c.1.0;
            },
        λ p. (
          lt-leb L.publications (length s.registry.publications) p.room,
          ((port_free_exactly s.registry q).1 p.port_free, tt),
        ),
      )
