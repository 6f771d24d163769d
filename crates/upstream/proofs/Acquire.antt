-- `check_lease_capacity`, and `acquire` of the registry (`acquire_for`, `acquire_tagged`) and of the store: R14 to R16, R22 and S12.
-- Assumes nothing.
use Rattle.std.specs.Prelude.{Option, None}
use Prim.Native.Nat.{ℕ, ◌+◌, ◌<◌}
use mathlib.Core.Path.{◌≡◌, refl, sym, ap, ◌∙◌}
use mathlib.Core.Bool.{true, false}
use mathlib.Core.List.{[], ◌∷◌, ◌++◌}
use mathlib.Core.Logic.Iff
use mathlib.Core.Logic.{◌↔◌, ⊎_elim}
use mathlib.Core.Option.{some}
use native.Mathlib.Omega.{arith}
use borrow.Author.Tests.{eq-eqb, ne_eqb}
use Rattle.lists.proofs.Every.{every_map}
use Rattle.lists.proofs.Search.{none_found}
use Rattle.rules.specs.Limits.{Limits}
use Rattle.rules.specs.Answers.{refused}
use Rattle.rules.specs.Commands.{AnswerTo}
use Rattle.rules.specs.Table.{Registry, Store, taken_by}
use Rattle.rules.specs.Conditions.{is_lease, active}
use Rattle.rules.specs.Rows.{step}
use Rattle.rules.specs.RegistryRows.{Call, CallAnswer, acquire, check_lease_capacity, registry_step}
use Rattle.rules.specs.Sound.{RegistrySound, StoreSound}
use Rattle.rules.specs.Acquisition.{AcquisitionEnabled}
use Rattle.rules.specs.VisibleTable.{visible_table}
use Rattle.rules.specs.declared.PublicationId.{PublicationId}
use Rattle.rules.specs.declared.LeaseId.{LeaseId}
use Rattle.rules.specs.declared.Owner.{Owner}
use Rattle.rules.specs.declared.Port.{Port}
use Rattle.rules.specs.declared.Lease.{Lease}
use Rattle.rules.specs.declared.Consumer.{Consumer}
use Rattle.rules.specs.declared.Refusal.TheVariants.{Capacity}
use Rattle.rules.specs.declared.Command.{Command}
use Rattle.rules.specs.declared.Command.TheVariants.{Acquire}
use Rattle.rules.proofs.Refusals.{call_step_keeps, step_keeps}
use Rattle.rules.proofs.Acquisition.{acquire_exactly, store_acquire_exactly, LeaseCapacity, capacity_exactly}
use Rattle.upstream.specs.Answers.{is_ok, IfOk, IfErr}
use Rattle.upstream.specs.Registry.{domain_id, publications, lease_records, lease_allocations, active_lease, Unchanged, RegistryWf}
use Rattle.upstream.specs.Store.{registry_view, values, revisions, StoreWf, Same}
use Rattle.upstream.proofs.Searches.{first_snoc}
use Rattle.upstream.proofs.Outcomes.{call_done, call_refusals, call_unchanged, call_wf, call_if_ok, command_done, command_same, command_wf, command_if_ok}

-- R14: is there room for so many leases more?

pub record CheckLeaseCapacityClauses (L : Limits) (count : ℕ) (self : Registry) (out : CallAnswer (check_lease_capacity count)) : Type 0 where
  pub R14_1 : (is_ok out ≡ true) ↔ LeaseCapacity L self count
  pub R14_2 : IfErr out (λ b. out ≡ refused Capacity tt)

pub check_lease_capacity_R14 : (L : Limits) (n : ℕ) (t : Registry)
    → CheckLeaseCapacityClauses L n t (registry_step L t (check_lease_capacity n)).answer
check_lease_capacity_R14 L n t =
    record {
      R14_1 = Iff.trans (call_done L t (check_lease_capacity n)) (Iff.symm (capacity_exactly L t n));
      R14_2 =
          λ r b e.
          ⊎_elim (λ m. e ∙ ap (λ q. refused q b) (sym m.1)) (λ m. absurd m.1) ((call_refusals L t (check_lease_capacity n) r).0 e);
    }

-- the record of a lease
abbrev lent : LeaseId → PublicationId → Option Consumer → Lease
lent i p k = record { id = i; publication = p; consumer = k }

module _ (L : Limits) (id : PublicationId) (consumer : Option Consumer) where
  pub record AcquireOk (old : Registry) (lease : LeaseId) (final : Registry) : Type 0 where
    pub R22_7 : lease.0 ≡ lease_allocations old
    pub R22_8 : lease_allocations final ≡ lease_allocations old + 1
    pub R22_9 : lease_records final ≡ lease_records old ++ (lent lease id consumer ∷ [])

  -- whoever takes it; R15 and R16 read the same
  pub record AcquireClauses (old final : Registry) (out : CallAnswer (acquire id consumer)) : Type 0 where
    pub R22_2 : (is_ok out ≡ true) ↔ AcquisitionEnabled L old id
    pub R22_3 : RegistryWf final
    pub R22_4 : domain_id final ≡ domain_id old
    pub R22_5 : publications final ≡ publications old
    pub R22_6 : IfErr out (λ b. Unchanged final old)
    pub ok : IfOk out (λ lease. AcquireOk old lease final)

module _ (L : Limits) (id : PublicationId) (owner : Owner) (generation : ℕ) where
  pub record StoreAcquireOk (old : Store) (lease : LeaseId) (final : Store) : Type 0 where
    pub S12_10 : lease.0 ≡ lease_allocations (registry_view old)
    pub S12_11 : lease_allocations (registry_view final) ≡ lease_allocations (registry_view old) + 1
    pub S12_12 : lease_records (registry_view final) ≡ lease_records (registry_view old) ++ (lent lease id (taken_by owner generation) ∷ [])
    pub S12_13 : active_lease (registry_view final) lease ≡ some (lent lease id (taken_by owner generation))

  pub record StoreAcquireClauses (old final : Store) (out : AnswerTo (Acquire id owner generation)) : Type 0 where
    pub S12_2 : StoreWf final
    pub S12_3 : values final ≡ values old
    pub S12_4 : revisions final ≡ revisions old
    pub S12_5 : (q : Port) → visible_table final q ≡ visible_table old q
    pub S12_6 : domain_id (registry_view final) ≡ domain_id (registry_view old)
    pub S12_7 : publications (registry_view final) ≡ publications (registry_view old)
    pub S12_8 : (is_ok out ≡ true) ↔ AcquisitionEnabled L (registry_view old) id
    pub S12_9 : IfErr out (λ b. Same final old)
    pub ok : IfOk out (λ lease. StoreAcquireOk old lease final)

-- the next lease is not active yet
next_inactive : (L : Limits) (t : Registry) → RegistrySound L t → active t (record { 0 = t.counter }) ≡ false
next_inactive L t s =
    none_found (is_lease (record { 0 = t.counter })) t.leases
    (every_map (λ l. l.id.0 < t.counter) (λ l. is_lease (record { 0 = t.counter }) l ≡ false)
    (λ l h. ne_eqb l.id.0 t.counter (λ e. omega arith))
    t.leases
    s.s4.below)

module _ (L : Limits) (t : Registry) (p : PublicationId) (s : RegistrySound L t) where
  pub acquire_R22 : (c : Option Consumer) → AcquireClauses L p c t (registry_step L t (acquire p c)).table (registry_step L t (acquire p c)).answer
  acquire_R22 c =
      record {
        R22_2 = Iff.trans (call_done L t k) (Iff.symm (acquire_exactly L t p c));
        R22_3 = call_wf L t k s;
        R22_4 = call_step_keeps L t k (λ u. domain_id u ≡ domain_id t) refl (λ e. refl);
        R22_5 = call_step_keeps L t k (λ u. publications u ≡ publications t) refl (λ e. refl);
        R22_6 = call_unchanged L t k;
        ok = call_if_ok L t k (AcquireOk L p c t) (λ e. record { R22_7 = refl; R22_8 = omega arith; R22_9 = refl });
      }
    where
      k : Call
      k = acquire p c

  -- for nobody by name, and for an owner in a generation

  pub acquire_R15 : AcquireClauses L p None t (registry_step L t (acquire p None)).table (registry_step L t (acquire p None)).answer
  acquire_R15 = acquire_R22 None

  pub acquire_for_R16 : (o : Owner) (g : ℕ)
      → AcquireClauses L p (taken_by o g) t (registry_step L t (acquire p (taken_by o g))).table (registry_step L t (acquire p (taken_by o g))).answer
  acquire_for_R16 o g = acquire_R22 (taken_by o g)

pub acquire_for_S12 : (L : Limits) (s : Store) → StoreSound L s → (p : PublicationId) (o : Owner) (g : ℕ)
    → StoreAcquireClauses L p o g s (step L s (Acquire p o g)).table (step L s (Acquire p o g)).answer
acquire_for_S12 L s h p o g =
    record {
      S12_2 = command_wf L s c h;
      S12_3 = step_keeps L s c (λ u. values u ≡ values s) refl (λ e. refl);
      S12_4 = step_keeps L s c (λ u. revisions u ≡ revisions s) refl (λ e. refl);
      S12_5 = λ q. step_keeps L s c (λ u. visible_table u q ≡ visible_table s q) refl (λ e. refl);
      S12_6 = step_keeps L s c (λ u. domain_id u.registry ≡ domain_id s.registry) refl (λ e. refl);
      S12_7 = step_keeps L s c (λ u. publications u.registry ≡ publications s.registry) refl (λ e. refl);
      S12_8 = Iff.trans (command_done L s c) (Iff.symm (store_acquire_exactly L s p o g));
      S12_9 = command_same L s c;
      ok =
          command_if_ok L s c (StoreAcquireOk L p o g s)
          (λ e.
          record {
            S12_10 = refl;
            S12_11 = omega arith;
            S12_12 = refl;
            S12_13 =
                first_snoc (is_lease next) s.registry.leases (lent next p (taken_by o g)) (next_inactive L s.registry h.registry)
                (eq-eqb next.0 next.0 refl);
          });
    }
  where
    c : Command
    c = Acquire p o g

    next : LeaseId
    next = record { 0 = s.registry.counter }
