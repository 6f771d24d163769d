-- `revoke` of the registry and of the store: R19 and S11.
-- Assumes nothing.
use Prim.Native.Nat.{◌<◌}
use mathlib.Core.Path.{◌≡◌, refl}
use mathlib.Core.Bool.{true, cond}
use mathlib.Core.Logic.Iff
use mathlib.Core.Logic.{◌↔◌}
use lib.ListN.{length, set}
use borrow.Author.Tests.{leb-false, lt-leb}
use Rattle.rules.specs.Limits.{Limits}
use Rattle.rules.specs.Commands.{AnswerTo}
use Rattle.rules.specs.Table.{Registry, Store, at, publication_of}
use Rattle.rules.specs.Changes.{hidden}
use Rattle.rules.specs.Rows.{revoke_row, tests, step}
use Rattle.rules.specs.RegistryRows.{Call, CallAnswer, revoke, registry_step}
use Rattle.rules.specs.Sound.{RegistrySound, StoreSound}
use Rattle.rules.specs.VisibleTable.{visible_table, removed}
use Rattle.rules.specs.declared.PublicationId.{PublicationId}
use Rattle.rules.specs.declared.Port.{Port}
use Rattle.rules.specs.declared.Command.{Command}
use Rattle.rules.specs.declared.Command.TheVariants.{Revoke}
use Rattle.rules.proofs.Clear.{Clear, clear_passes}
use Rattle.rules.proofs.Refusals.{call_step_keeps, step_keeps}
use Rattle.rules.proofs.VisibleAfter.{visible_table_after}
use Rattle.upstream.specs.Answers.{is_ok, IfOk, IfErr}
use Rattle.upstream.specs.Registry.{domain_id, publications, lease_records, lease_allocations, Unchanged, RegistryWf}
use Rattle.upstream.specs.Store.{registry_view, values, revisions, StoreWf, Same, LeaseFrame}
use Rattle.upstream.proofs.Held.{held_kept}
use Rattle.upstream.proofs.Wf.{length-values}
use Rattle.upstream.proofs.Outcomes.{call_ok, call_unchanged, call_wf, call_if_ok, command_ok, command_same, command_wf, command_frame, command_if_ok}

module _ (id : PublicationId) where
  abbrev hides : Registry → Registry → Type 0
  hides old final = publications final ≡ set (publications old) id.0 (hidden (at (publications old) id))

  pub record RevokeOk (old final : Registry) : Type 0 where
    pub R19_8 : id.0 < length (publications old)
    pub R19_9 : hides old final

  pub record RevokeClauses (old final : Registry) (out : CallAnswer (revoke id)) : Type 0 where
    pub R19_2 : (is_ok out ≡ true) ↔ (id.0 < length (publications old))
    pub R19_3 : RegistryWf final
    pub R19_4 : domain_id final ≡ domain_id old
    pub R19_5 : lease_records final ≡ lease_records old
    pub R19_6 : lease_allocations final ≡ lease_allocations old
    pub R19_7 : IfErr out (λ b. Unchanged final old)
    pub ok : IfOk out (λ x. RevokeOk old final)

  -- the store's

  pub record StoreRevokeOk (old final : Store) : Type 0 where
    pub S11_8 : id.0 < length (values old)
    pub S11_9 : hides (registry_view old) (registry_view final)
    pub S11_10 : (q : Port) → visible_table final q ≡ cond (publication_of old id).visible (removed (visible_table old) (publication_of old id).port) (visible_table old) q

  pub record StoreRevokeClauses (old final : Store) (out : AnswerTo (Revoke id)) : Type 0 where
    pub S11_2 : (is_ok out ≡ true) ↔ (id.0 < length (values old))
    pub S11_3 : StoreWf final
    pub S11_4 : LeaseFrame final old
    pub S11_5 : values final ≡ values old
    pub S11_6 : revisions final ≡ revisions old
    pub S11_7 : IfErr out (λ b. Same final old)
    pub ok : IfOk out (λ x. StoreRevokeOk old final)

module _ (L : Limits) (p : PublicationId) where
  -- the row lets it pass exactly then
  known_exactly : (t : Registry) → Clear (revoke_row L t p) ↔ (p.0 < length (publications t))
  known_exactly t = (
    λ c. leb-false (length (publications t)) p.0 c.0,
    λ h. (lt-leb (length (publications t)) p.0 h, tt),
  )

  pub revoke_R19 : (t : Registry) → RegistrySound L t
      → RevokeClauses p t (registry_step L t (revoke p)).table (registry_step L t (revoke p)).answer
  revoke_R19 t s =
      record {
        R19_2 = Iff.trans (call_ok L t k) (known_exactly t);
        R19_3 = call_wf L t k s;
        R19_4 = call_step_keeps L t k (λ u. domain_id u ≡ domain_id t) refl (λ e. refl);
        R19_5 = call_step_keeps L t k (λ u. lease_records u ≡ lease_records t) refl (λ e. refl);
        R19_6 = call_step_keeps L t k (λ u. lease_allocations u ≡ lease_allocations t) refl (λ e. refl);
        R19_7 = call_unchanged L t k;
        ok = call_if_ok L t k (λ x u. RevokeOk p t u) (λ c. record { R19_8 = (known_exactly t).0 c; R19_9 = refl });
      }
    where
      k : Call
      k = revoke p

  pub revoke_S11 : (s : Store) → StoreSound L s → StoreRevokeClauses p s (step L s (Revoke p)).table (step L s (Revoke p)).answer
  revoke_S11 s h =
      record {
        S11_2 = rw (length-values L s h) (Iff.trans (command_ok L s c) (known_exactly s.registry));
        S11_3 = command_wf L s c h;
        S11_4 = command_frame L s c (record { D15_1 = refl; D15_2 = refl; D15_3 = refl });
        S11_5 =
            step_keeps L s c (λ u. values u ≡ values s) refl
            (λ e. held_kept s.registry.publications s.payloads p.0 (hidden (publication_of s p)) refl);
        S11_6 = step_keeps L s c (λ u. revisions u ≡ revisions s) refl (λ e. refl);
        S11_7 = command_same L s c;
        ok =
            command_if_ok L s c (λ x u. StoreRevokeOk p s u)
            (λ k.
            record {
              S11_8 = rw (length-values L s h) ((known_exactly s.registry).0 k);
              S11_9 = refl;
              S11_10 = visible_table_after L s h c (clear_passes (tests L s c) k);
            });
      }
    where
      c : Command
      c = Revoke p
