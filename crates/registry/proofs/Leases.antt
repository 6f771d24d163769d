-- What acquire and release leave of a sound registry, and what a lease shows, is what their rows say; a verdict that is the whole answer.
-- Assumes nothing.
use Rattle.std.specs.Prelude.{Option, Result, Ok, Err}
use Prim.Native.Nat.{ℕ, ◌+◌, ◌-◌}
use mathlib.Core.Path.{◌≡◌, refl, sym, ap, ◌∙◌}
use lib.ListN.{take, set, get_or}
use Rattle.lists.specs.Column.{padded}
use Rattle.lists.specs.Search.{first_place, leave_out}
use Rattle.lists.specs.Removal.{remove}
use Rattle.rules.specs.Limits.{Limits}
use Rattle.rules.specs.Answers.{Verdict, pass, stop, verdict, carry}
use Rattle.rules.specs.Table.{Registry, blank_lease, at}
use Rattle.rules.specs.Conditions.{is_lease}
use Rattle.rules.specs.Columns.{RegistryColumns, used_registry}
use Rattle.rules.specs.Sound.{RegistryColumnsSound}
use Rattle.rules.specs.Rows.{adopt_row, acquire_row, lease_row}
use Rattle.rules.specs.RegistryRows.{registry_step, can_adopt, check_lease_capacity, lease_capacity, acquire, leased_slot, release}
use Rattle.rules.specs.Calls.{laid_out_registry}
use Rattle.rules.specs.declared.PublicationId.{PublicationId}
use Rattle.rules.specs.declared.LeaseId.{LeaseId}
use Rattle.rules.specs.declared.Owner.{Owner}
use Rattle.rules.specs.declared.Consumer.{Consumer}
use Rattle.rules.specs.declared.Lease.{Lease}
use Rattle.rules.specs.declared.Publication.{Publication}
use Rattle.rules.specs.declared.Refusal.{Refusal}
use Rattle.rules.proofs.Columns.{record_used, lease_used}
use Rattle.rules.proofs.Leaving.{leave_lease}
use Rattle.columns.specs.Verdicts.{verdict_of, lookup_of}
use Rattle.columns.proofs.Verdicts.{looked_stop}
use Rattle.columns.proofs.Effects.{with_leases, filled_lent, filled_released}
use Rattle.columns.proofs.Passes.{lease_room, lease_passes, lease_place, lease_active, lease_below}
use Rattle.registry.specs.Columns.{registry_of}
use Rattle.registry.specs.Answers.{result_of, answered_of}
use Rattle.registry.proofs.Steps.{passes, gives_refusal, gives_result, answers_refusal, answers_result}

module _ {L : Limits} {c : RegistryColumns} (h : RegistryColumnsSound L c) where
  pub acquire_done : (p : PublicationId) {w : Result (Unit {0}) Refusal} → w ≡ verdict_of (verdict (acquire_row L (used_registry c) p))
      → (k : Option Consumer) → w ≡ Ok tt
      → record {
        answer = Ok (record { 0 = c.counter });
        table = registry_of (with_leases c (set c.leases c.active (record { id = record { 0 = c.counter }; publication = p; consumer = k })) (c.active + 1) (c.counter + 1));
      }
      ≡ answered_of (laid_out_registry L (registry_step L (used_registry c) (acquire p k)))
  acquire_done p e k t = gives_result L c (acquire p k) (passes L c (acquire p k) e t) refl (filled_lent h p k (lease_room h p e t))

  module _ (i : LeaseId) {w : Result ℕ Refusal}
      (e : w ≡ lookup_of (verdict (lease_row L (used_registry c) i)) (first_place (is_lease i) (take c.active c.leases))) where
    stops : {r : Refusal} → w ≡ Err r → verdict (lease_row L (used_registry c) i) ≡ stop r
    stops t = looked_stop (verdict (lease_row L (used_registry c) i)) (first_place (is_lease i) (take c.active c.leases)) e t

    pub leased_slot_refused : {r : Refusal} → w ≡ Err r → Err r ≡ result_of (registry_step L (used_registry c) (leased_slot i)).answer
    leased_slot_refused t = answers_refusal L c (leased_slot i) (stops t)

    pub release_refused : {r : Refusal} → w ≡ Err r
        → record { answer = Err r; table = registry_of c } ≡ answered_of (laid_out_registry L (registry_step L (used_registry c) (release i)))
    release_refused t = gives_refusal L c (release i) h (stops t) refl

    module _ {k : ℕ} (t : w ≡ Ok k) where
      pub leased_slot_done : Ok (at c.publications (get_or c.leases k blank_lease).publication).slot ≡ result_of (registry_step L (used_registry c) (leased_slot i)).answer
      leased_slot_done =
          ap (λ (e : Publication). Ok e.slot) (record_used L c h (get_or c.leases k blank_lease).publication.0)
          ∙ ap (λ (l : Lease). Ok (at (take c.count c.publications) l.publication).slot) (lease_used L c h k)
          ∙ ap (λ (n : ℕ). Ok (at (take c.count c.publications) (get_or (take c.active c.leases) n blank_lease).publication).slot) (sym (lease_place h i e t))
          ∙ answers_result L c (leased_slot i) (lease_passes h i e t)

      pub release_done : record {
        answer = Ok tt;
        table = registry_of (with_leases c (padded L.leases blank_lease (remove (take c.active c.leases) k)) (c.active - 1) c.counter);
      }
          ≡ answered_of (laid_out_registry L (registry_step L (used_registry c) (release i)))
      release_done =
          let out : leave_out (is_lease i) (take c.active c.leases) ≡ remove (take c.active c.leases) k =
          rw (← lease_place h i e t) (leave_lease i (take c.active c.leases) h.in_use.s4.rising (lease_active h i e t)) in
          gives_result L c (release i) (lease_passes h i e t) refl
          (filled_released h (leave_out (is_lease i) (take c.active c.leases)) k out (lease_below h i e t))

-- a verdict that is the whole answer

told : (v : Verdict) (t u : Registry) → verdict_of v ≡ result_of (carry v t (tt {0}) (tt {0}) u).answer
told pass t u = refl
told (stop r) t u = refl

module _ (L : Limits) (t : Registry) where
  pub can_adopt_told : (p : PublicationId) (o : Owner) (g : ℕ) → verdict_of (verdict (adopt_row L t p o g)) ≡ result_of (registry_step L t (can_adopt p o g)).answer
  unfolding registry_step
  can_adopt_told p o g = told (verdict (adopt_row L t p o g)) t t

  pub capacity_told : (n : ℕ) → verdict_of (verdict (lease_capacity L t n)) ≡ result_of (registry_step L t (check_lease_capacity n)).answer
  unfolding registry_step
  capacity_told n = told (verdict (lease_capacity L t n)) t t
