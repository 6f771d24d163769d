-- `can_adopt`, and `adopt` of the registry and of the store: R12, R13 and S14, and when they succeed.
-- Assumes nothing.
use Prim.Native.Nat.{ℕ, ◌<◌}
use mathlib.Core.Path.{◌≡◌, refl}
use mathlib.Core.Bool.{true, ◌&&◌}
use mathlib.Core.Logic.Iff
use mathlib.Core.Logic.{◌↔◌}
use lib.Dec.{eqb}
use lib.ListN.{length, set}
use borrow.Author.Tests.{leb-false, lt-leb, eqb-true, eq-eqb, not-false}
use Rattle.lists.proofs.Bools.{and_left, and_right}
use Rattle.rules.specs.Limits.{Limits}
use Rattle.rules.specs.Answers.{Verdict, pass, stop, verdict, carry}
use Rattle.rules.specs.Commands.{AnswerTo}
use Rattle.rules.specs.Table.{Registry, Store, at, publication_of}
use Rattle.rules.specs.Conditions.{owned_by}
use Rattle.rules.specs.Changes.{adopted, change}
use Rattle.rules.specs.Rows.{adopt_row, step}
use Rattle.rules.specs.RegistryRows.{Call, CallAnswer, can_adopt, adopt, registry_step}
use Rattle.rules.specs.Sound.{RegistrySound, StoreSound}
use Rattle.rules.specs.VisibleTable.{visible_table}
use Rattle.rules.specs.declared.PublicationId.{PublicationId}
use Rattle.rules.specs.declared.Owner.{Owner}
use Rattle.rules.specs.declared.Port.{Port}
use Rattle.rules.specs.declared.Publication.{Publication}
use Rattle.rules.specs.declared.Command.{Command}
use Rattle.rules.specs.declared.Command.TheVariants.{Adopt}
use Rattle.rules.proofs.Clear.{Clear}
use Rattle.rules.proofs.Refusals.{call_step_keeps, step_keeps}
use Rattle.rules.proofs.VisibleAfter.{visible_table_kept}
use Rattle.upstream.specs.Answers.{is_ok, IfOk, IfErr}
use Rattle.upstream.specs.Registry.{with_generation, domain_id, publications, lease_records, lease_allocations, Unleased, Unchanged, RegistryWf}
use Rattle.upstream.specs.Store.{registry_view, values, revisions, StoreWf, Same, LeaseFrame}
use Rattle.upstream.proofs.Numbers.{owned_exactly}
use Rattle.upstream.proofs.Held.{held_kept}
use Rattle.upstream.proofs.Wf.{length-values}
use Rattle.upstream.proofs.Leases.{unleased_exactly}
use Rattle.upstream.proofs.Outcomes.{call_ok, call_unchanged, call_wf, call_if_ok, command_ok, command_same, command_wf, command_frame, command_if_ok}

module _ (id : PublicationId) (owner : Owner) (generation : ℕ) where
  -- what holds before, where it succeeds: R12.1 to R12.6 as well, and S14.8 to S14.12 with S14.14
  pub record Adoptable (old : Registry) : Type 0 where
    pub R13_7 : id.0 < length (publications old)
    pub R13_8 : (at (publications old) id).owner ≡ owner
    pub R13_9 : (at (publications old) id).generation ≡ 0
    pub R13_10 : (at (publications old) id).retained ≡ true
    pub R13_11 : generation ≡ 1
    pub R13_12 : Unleased old id

  pub record CanAdoptClauses (self : Registry) (out : CallAnswer (can_adopt id owner generation)) : Type 0 where
    pub ok : IfOk out (λ x. Adoptable self)

  abbrev adopts : Registry → Registry → Type 0
  adopts old final = publications final ≡ set (publications old) id.0 (with_generation (at (publications old) id) generation)

  pub record AdoptOk (old final : Registry) : Type 0 where
    pub before : Adoptable old
    pub R13_13 : adopts old final

  pub record AdoptClauses (old final : Registry) (out : CallAnswer (adopt id owner generation)) : Type 0 where
    pub R13_2 : RegistryWf final
    pub R13_3 : domain_id final ≡ domain_id old
    pub R13_4 : lease_records final ≡ lease_records old
    pub R13_5 : lease_allocations final ≡ lease_allocations old
    pub R13_6 : IfErr out (λ b. Unchanged final old)
    pub ok : IfOk out (λ x. AdoptOk old final)

  -- the store's

  pub record StoreAdoptOk (old final : Store) : Type 0 where
    pub S14_8 : id.0 < length (values old)
    pub before : Adoptable (registry_view old)
    pub S14_13 : adopts (registry_view old) (registry_view final)

  pub record StoreAdoptClauses (old final : Store) (out : AnswerTo (Adopt id owner generation)) : Type 0 where
    pub S14_2 : StoreWf final
    pub S14_3 : LeaseFrame final old
    pub S14_4 : values final ≡ values old
    pub S14_5 : (q : Port) → visible_table final q ≡ visible_table old q
    pub S14_6 : revisions final ≡ revisions old
    pub S14_7 : IfErr out (λ b. Same final old)
    pub ok : IfOk out (λ x. StoreAdoptOk old final)

module _ (L : Limits) (p : PublicationId) (o : Owner) (g : ℕ) where
  -- the row lets it pass exactly then

  pub adoptable_exactly : (t : Registry) → Clear (adopt_row L t p o g) ↔ Adoptable p o g t
  adoptable_exactly t = (to, back)
    where
      e : Publication
      e = at t.publications p

      to : Clear (adopt_row L t p o g) → Adoptable p o g t
      to c =
          let fits = not-false (owned_by o 0 e && eqb g 1) c.1.1.0 in
          let owned = (owned_exactly o 0 e).0 (and_left (owned_by o 0 e) (eqb g 1) fits) in
          record {
            R13_7 = leb-false (length t.publications) p.0 c.0;
            R13_8 = owned.0;
            R13_9 = owned.1;
            R13_10 = not-false e.retained c.1.0;
            R13_11 = eqb-true g 1 (and_right (owned_by o 0 e) (eqb g 1) fits);
            R13_12 = (unleased_exactly t p).0 c.1.1.1.0;
          }

      back : Adoptable p o g t → Clear (adopt_row L t p o g)
      back a = (
        lt-leb (length t.publications) p.0 a.R13_7,
        (
          rw a.R13_10,
          (
            rw ((owned_exactly o 0 e).1 (a.R13_8, a.R13_9), eq-eqb g 1 a.R13_11),
            ((unleased_exactly t p).1 a.R13_12, tt),
          ),
        ),
      )

  -- a generation of 1 is the new one
  new_generation : (t : Registry) → Adoptable p o g t → adopts p o g t (change t p adopted)
  new_generation t a = rw a.R13_11

  pub can_adopt_R12 : (t : Registry) → CanAdoptClauses p o g t (registry_step L t (can_adopt p o g)).answer
  can_adopt_R12 t = record { ok = call_if_ok L t (can_adopt p o g) (λ x u. Adoptable p o g t) (adoptable_exactly t).0 }

  pub can_adopt_exactly : (t : Registry) → (is_ok (registry_step L t (can_adopt p o g)).answer ≡ true) ↔ Adoptable p o g t
  can_adopt_exactly t = Iff.trans (call_ok L t (can_adopt p o g)) (adoptable_exactly t)

  -- `can_adopt` answers as `adopt` does
  pub can_adopt_answers : (t : Registry) → (registry_step L t (can_adopt p o g)).answer ≡ (registry_step L t (adopt p o g)).answer
  unfolding registry_step
  can_adopt_answers t = go (verdict (adopt_row L t p o g))
    where
      go : (v : Verdict) → (carry v t (tt {0}) (tt {0}) t).answer ≡ (carry v t (tt {0}) (tt {0}) (change t p adopted)).answer
      go pass = refl
      go (stop r) = refl

  pub adopt_R13 : (t : Registry) → RegistrySound L t
      → AdoptClauses p o g t (registry_step L t (adopt p o g)).table (registry_step L t (adopt p o g)).answer
  adopt_R13 t s =
      record {
        R13_2 = call_wf L t k s;
        R13_3 = call_step_keeps L t k (λ u. domain_id u ≡ domain_id t) refl (λ e. refl);
        R13_4 = call_step_keeps L t k (λ u. lease_records u ≡ lease_records t) refl (λ e. refl);
        R13_5 = call_step_keeps L t k (λ u. lease_allocations u ≡ lease_allocations t) refl (λ e. refl);
        R13_6 = call_unchanged L t k;
        ok =
            call_if_ok L t k (λ x u. AdoptOk p o g t u)
            (λ c. let a = (adoptable_exactly t).0 c in record { before = a; R13_13 = new_generation t a });
      }
    where
      k : Call
      k = adopt p o g

  pub adopt_exactly : (t : Registry) → (is_ok (registry_step L t (adopt p o g)).answer ≡ true) ↔ Adoptable p o g t
  adopt_exactly t = Iff.trans (call_ok L t (adopt p o g)) (adoptable_exactly t)

  pub adopt_S14 : (s : Store) → StoreSound L s → StoreAdoptClauses p o g s (step L s (Adopt p o g)).table (step L s (Adopt p o g)).answer
  adopt_S14 s h =
      record {
        S14_2 = command_wf L s c h;
        S14_3 = command_frame L s c (record { D15_1 = refl; D15_2 = refl; D15_3 = refl });
        S14_4 =
            step_keeps L s c (λ u. values u ≡ values s) refl
            (λ e. held_kept s.registry.publications s.payloads p.0 (adopted (publication_of s p)) refl);
        S14_5 = λ q. visible_table_kept L s h c q refl;
        S14_6 = step_keeps L s c (λ u. revisions u ≡ revisions s) refl (λ e. refl);
        S14_7 = command_same L s c;
        ok =
            command_if_ok L s c (λ x u. StoreAdoptOk p o g s u)
            (λ k.
            let a = (adoptable_exactly s.registry).0 k in
            record { S14_8 = rw (length-values L s h) a.R13_7; before = a; S14_13 = new_generation s.registry a });
      }
    where
      c : Command
      c = Adopt p o g

  pub store_adopt_exactly : (s : Store) → (is_ok (step L s (Adopt p o g)).answer ≡ true) ↔ Adoptable p o g (registry_view s)
  store_adopt_exactly s = Iff.trans (command_ok L s (Adopt p o g)) (adoptable_exactly s.registry)
