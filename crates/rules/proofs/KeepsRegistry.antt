-- Every call of the registry keeps a sound registry sound, and an empty one is sound.
-- Assumes nothing.
use Rattle.std.specs.Prelude.{Option, ℕ}
use mathlib.Core.Path.{◌≡◌, refl, sym, ◌∙◌}
use mathlib.Core.Bool.{true≢false, false≢true}
use native.Mathlib.Omega.{arith}
use lib.Dec.{leb}
use lib.ListN.{length}
use borrow.Author.Tests.{leb-false, not-false}
use Rattle.lists.proofs.Bools.{or_left, or_right}
use Rattle.rules.specs.Limits.{Limits}
use Rattle.rules.specs.Answers.{pass, verdict}
use Rattle.rules.specs.Table.{Registry, empty_registry}
use Rattle.rules.specs.Conditions.{port_held, slot_held}
use Rattle.rules.specs.Changes.{published, adopted, hidden, reclaimed, and_lease, change}
use Rattle.rules.specs.Rows.{acquire_row, reclaim_row}
use Rattle.rules.specs.RegistryRows.{Call, publish, can_adopt, adopt, check_lease_capacity, acquire, leased_slot, release, revoke, reclaim, resolve, entry, lease, domain, publication_records, lease_record_count, lease_allocation_count, call_tests, call_effect, registry_step}
use Rattle.rules.specs.Sound.{RegistrySound}
use Rattle.rules.specs.declared.PublicationId.{PublicationId}
use Rattle.rules.specs.declared.Consumer.{Consumer}
use Rattle.rules.proofs.Clear.{Clear, clear}
use Rattle.rules.proofs.Refusals.{call_step_keeps}
use Rattle.rules.proofs.KeepsPublications.{change_keeps, named_kept, named_unleased, and_publication_keeps}
use Rattle.rules.proofs.KeepsLeases.{and_lease_keeps, without_lease_keeps}

-- the changes that the store's commands make as well

module _ (L : Limits) (t : Registry) (s : RegistrySound L t) (p : PublicationId) where
  pub adopt_keeps : RegistrySound L (change t p adopted)
  adopt_keeps =
      change_keeps L t s p adopted
      (record { port = refl; slot = refl; was_visible = λ h. h; was_retained = λ h. h; visible_retained = s.s2 p })
      (named_kept L t s p adopted refl)

  pub revoke_keeps : RegistrySound L (change t p hidden)
  revoke_keeps =
      change_keeps L t s p hidden
      (record {
        port = refl;
        slot = refl;
        was_visible = λ h. absurd (false≢true h);
        was_retained = λ h. h;
        visible_retained = λ h. absurd (false≢true h);
      })
      (named_kept L t s p hidden refl)

  pub reclaim_keeps : Clear (reclaim_row L t p) → RegistrySound L (change t p reclaimed)
  reclaim_keeps k =
      change_keeps L t s p reclaimed
      (record {
        port = refl;
        slot = refl;
        was_visible = λ h. h;
        was_retained = λ h. absurd (false≢true h);
        visible_retained = λ h. absurd (true≢false (sym h ∙ k.1.0));
      })
      (named_unleased L t s p reclaimed k.1.1.1.0)

  pub acquire_keeps : (k : Option Consumer) → Clear (acquire_row L t p) → RegistrySound L (and_lease t p k)
  acquire_keeps k c =
      and_lease_keeps L t s p k
      (leb-false L.leases (length t.leases) (or_right (leb L.top t.counter) (leb L.leases (length t.leases)) c.1.1.0))
      (s.s2 p (not-false _ c.1.0))

pub registry_keeps : (L : Limits) (t : Registry) (c : Call) → RegistrySound L t → verdict (call_tests L t c) ≡ pass → RegistrySound L (call_effect t c)
registry_keeps L t (publish o g q n) s e =
    let k = clear (call_tests L t (publish o g q n)) e in
    and_publication_keeps L t s (published o g q n)
    (or_left (port_held t q) (slot_held t n) k.1.0)
    (or_right (port_held t q) (slot_held t n) k.1.0)
    (leb-false L.publications (length t.publications) k.0)
    (λ h. refl)
registry_keeps L t (can_adopt p o g) s e = s
registry_keeps L t (adopt p o g) s e = adopt_keeps L t s p
registry_keeps L t (check_lease_capacity n) s e = s
registry_keeps L t (acquire p k) s e = acquire_keeps L t s p k (clear (acquire_row L t p) e)
registry_keeps L t (leased_slot i) s e = s
registry_keeps L t (release i) s e = without_lease_keeps L t s i
registry_keeps L t (revoke p) s e = revoke_keeps L t s p
registry_keeps L t (reclaim p) s e = reclaim_keeps L t s p (clear (reclaim_row L t p) e)
registry_keeps L t (resolve q) s e = s
registry_keeps L t (entry p) s e = s
registry_keeps L t (lease i) s e = s
registry_keeps L t domain s e = s
registry_keeps L t publication_records s e = s
registry_keeps L t lease_record_count s e = s
registry_keeps L t lease_allocation_count s e = s

pub registry_step_sound : (L : Limits) (t : Registry) (c : Call) → RegistrySound L t → RegistrySound L (registry_step L t c).table
registry_step_sound L t c s = call_step_keeps L t c (RegistrySound L) s (registry_keeps L t c s)

pub empty_registry_sound : (L : Limits) (d : Option ℕ) → RegistrySound L (empty_registry d)
empty_registry_sound L d =
    record {
      s1 = record { publication_room = omega arith; lease_room = omega arith; given_out = omega arith };
      s2 = λ p h. absurd (false≢true h);
      s3 = record { ports = λ p q h. absurd (false≢true h); slots = λ p q h. absurd (false≢true h) };
      s4 = record { rising = tt; below = tt; named = tt };
    }
