-- A lease is given out exactly when acquisition is enabled; and when there is room for several leases more.
-- Assumes nothing.
use Rattle.std.specs.Prelude.{Option}
use Prim.Native.Nat.{ℕ, ◌+◌, ◌≤◌}
use mathlib.Core.Path.{◌≡◌, refl, sym, ◌∙◌}
use mathlib.Core.Bool.{Bool, true, false, not, ◌&&◌, true≢false}
use mathlib.Core.Logic.Iff
use mathlib.Core.Logic.{◌↔◌, inl, inr}
use lib.Dec.{leb}
use lib.ListN.{length}
use borrow.Author.Tests.{leb-true, leb-false, le-leb, lt-leb, not-false}
use Rattle.lists.proofs.Bools.{or_left, or_right, and_left, and_right, not_both}
use Rattle.rules.specs.Limits.{Limits}
use Rattle.rules.specs.Answers.{done, refused, pass, verdict}
use Rattle.rules.specs.Table.{Registry, Store, at}
use Rattle.rules.specs.Rows.{acquire_row, step}
use Rattle.rules.specs.RegistryRows.{acquire, check_lease_capacity, lease_capacity, registry_step}
use Rattle.rules.specs.Acquisition.{AcquisitionEnabled}
use Rattle.rules.specs.declared.PublicationId.{PublicationId}
use Rattle.rules.specs.declared.Owner.{Owner}
use Rattle.rules.specs.declared.Consumer.{Consumer}
use Rattle.rules.specs.declared.Command.TheVariants.{Acquire}
use Rattle.rules.specs.declared.Refusal.TheVariants.{Capacity}
use Rattle.rules.proofs.Clear.{clear, clear_passes}
use Rattle.rules.proofs.Refusals.{First, first_exactly, carried_out_exactly, call_carried_out_exactly, call_refused_exactly}

module _ (L : Limits) (t : Registry) (p : PublicationId) where
  abbrev no_number : Bool
  no_number = leb L.top t.counter

  abbrev no_room : Bool
  no_room = leb L.leases (length t.leases)

  pub enabled_passes : AcquisitionEnabled L t p → verdict (acquire_row L t p) ≡ pass
  enabled_passes a =
      clear_passes (acquire_row L t p) (
        lt-leb (length t.publications) p.0 a.known,
        (
          rw a.visible,
          (rw (lt-leb L.top t.counter a.numbers_left, lt-leb L.leases (length t.leases) a.room), tt),
        ),
      )

  pub passes_enabled : verdict (acquire_row L t p) ≡ pass → AcquisitionEnabled L t p
  passes_enabled e =
      let k = clear (acquire_row L t p) e in
      record {
        known = leb-false (length t.publications) p.0 k.0;
        visible = not-false (at t.publications p).visible k.1.0;
        numbers_left = leb-false L.top t.counter (or_left no_number no_room k.1.1.0);
        room = leb-false L.leases (length t.leases) (or_right no_number no_room k.1.1.0);
      }

  pub enabled_exactly : AcquisitionEnabled L t p ↔ (verdict (acquire_row L t p) ≡ pass)
  enabled_exactly = (enabled_passes, passes_enabled)

  -- so it is of the registry's acquire, whoever takes the lease
  pub acquire_exactly : (k : Option Consumer) → AcquisitionEnabled L t p ↔ ((registry_step L t (acquire p k)).answer ≡ done (record { 0 = t.counter }))
  acquire_exactly k = Iff.trans enabled_exactly (Iff.symm (call_carried_out_exactly L t (acquire p k)))

-- and of the store's
pub store_acquire_exactly : (L : Limits) (s : Store) (p : PublicationId) (o : Owner) (g : ℕ)
    → AcquisitionEnabled L s.registry p ↔ ((step L s (Acquire p o g)).answer ≡ done (record { 0 = s.registry.counter }))
store_acquire_exactly L s p o g = Iff.trans (enabled_exactly L s.registry p) (Iff.symm (carried_out_exactly L s (Acquire p o g)))

-- n leases more

module _ (L : Limits) (t : Registry) (n : ℕ) where
  abbrev pub LeaseCapacity : Type 0
  LeaseCapacity = (t.counter + n ≤ L.top) × (length t.leases + n ≤ L.leases)

  abbrev numbers : Bool
  numbers = leb (t.counter + n) L.top

  abbrev rooms : Bool
  rooms = leb (length t.leases + n) L.leases

  there_is : LeaseCapacity → not (numbers && rooms) ≡ false
  there_is c = rw (le-leb (t.counter + n) L.top c.0, le-leb (length t.leases + n) L.leases c.1)

  there_was : not (numbers && rooms) ≡ false → LeaseCapacity
  there_was e =
      let b = not-false (numbers && rooms) e in (
        leb-true (t.counter + n) L.top (and_left numbers rooms b),
        leb-true (length t.leases + n) L.leases (and_right numbers rooms b),
      )

  pub capacity_exactly : LeaseCapacity ↔ ((registry_step L t (check_lease_capacity n)).answer ≡ done tt)
  capacity_exactly =
      Iff.trans
      (λ c. clear_passes (lease_capacity L t n) (there_is c, tt), λ e. there_was (clear (lease_capacity L t n) e).0)
      (Iff.symm (call_carried_out_exactly L t (check_lease_capacity n)))

  -- where there is not, the answer is 7
  pub capacity_refused : (¬ LeaseCapacity) ↔ ((registry_step L t (check_lease_capacity n)).answer ≡ refused Capacity tt)
  capacity_refused =
      Iff.trans
      (Iff.trans (λ f. inl (lacks f, refl), λ k. lacking k) (first_exactly (lease_capacity L t n) Capacity))
      (Iff.symm (call_refused_exactly L t (check_lease_capacity n) Capacity))
    where
      lacks : ¬ LeaseCapacity → not (numbers && rooms) ≡ true
      lacks f = rw (not_both numbers rooms (λ a b. f (leb-true (t.counter + n) L.top a, leb-true (length t.leases + n) L.leases b)))

      lacking : First (lease_capacity L t n) Capacity → ¬ LeaseCapacity
      lacking (inl k) c = true≢false (sym k.0 ∙ there_is c)
      lacking (inr k) c = k.1
