-- A registry's call comes back exactly with what the rules' call gives: its answer, and its columns as a registry.
-- Assumes nothing.
use Rattle.std.specs.Prelude.{None, Some}
use mathlib.Core.Path.{◌≡◌, refl, sym, ap, ◌∙◌}
use mathlib.Core.Logic.{⊎_elim}
use Rattle.rules.specs.Limits.{box}
use Rattle.rules.specs.Columns.{used_registry, filled_registry}
use Rattle.rules.specs.RegistryRows.{Call, CallAnswer, call_effect, publish, can_adopt, adopt, check_lease_capacity, acquire, leased_slot, release, revoke, reclaim, resolve, entry, lease, domain, publication_records, lease_record_count, lease_allocation_count}
use Rattle.rules.specs.Calls.{registry_call}
use Rattle.rules.proofs.Refusals.{call_step_keeps}
use Rattle.rules.proofs.Called.{registry_sound_or_damaged, call_leaves, call_stays}
use Rattle.registry.specs.Columns.{columns_of, registry_of}
use Rattle.registry.specs.declared.PublicationRegistry.{PublicationRegistry}
use Rattle.demands.specs.RegistryCalls.{RegistryCalled}
use Rattle.demands.proofs.SameAnswers.{result_one}

-- what the rules' call gives on a registry's columns

abbrev pub registry_answer : PublicationRegistry → (k : Call) → CallAnswer k
registry_answer s k = (registry_call box (columns_of s) k).answer

abbrev pub registry_after : PublicationRegistry → Call → PublicationRegistry
registry_after s k = registry_of (registry_call box (columns_of s) k).table

-- a call that changes nothing leaves the registry as it came
looks : (s : PublicationRegistry) (k : Call) → call_effect (used_registry (columns_of s)) k ≡ used_registry (columns_of s) → s ≡ registry_after s k
looks s k e =
    sym
    (ap registry_of
    (⊎_elim
    (λ h.
    call_leaves box (columns_of s) k h
    ∙ ap (filled_registry box) (call_step_keeps box (used_registry (columns_of s)) k (λ u. u ≡ used_registry (columns_of s)) refl (λ p. e))
    ∙ h.s6)
    (λ d. call_stays box (columns_of s) k d)
    (registry_sound_or_damaged box (columns_of s))))

module _ (s : PublicationRegistry) where
  pub called : (k : Call) (a : CallAnswer k) (t : PublicationRegistry) → RegistryCalled k s a t → (a ≡ registry_answer s k) × (t ≡ registry_after s k)
  called (publish o g q v) a t h = (result_one a (registry_answer s (publish o g q v)) (ap (λ x. x.answer) h), ap (λ x. x.table) h)
  called (can_adopt p o g) a t h = (result_one a (registry_answer s (can_adopt p o g)) h.0, h.1 ∙ looks s (can_adopt p o g) refl)
  called (adopt p o g) a t h = (result_one a (registry_answer s (adopt p o g)) (ap (λ x. x.answer) h), ap (λ x. x.table) h)
  called (check_lease_capacity n) a t h = (result_one a (registry_answer s (check_lease_capacity n)) h.0, h.1 ∙ looks s (check_lease_capacity n) refl)
  called (acquire p None) a t h = (result_one a (registry_answer s (acquire p None)) (ap (λ x. x.answer) h), ap (λ x. x.table) h)
  called (acquire p (Some k)) a t h = (result_one a (registry_answer s (acquire p (Some k))) (ap (λ x. x.answer) h), ap (λ x. x.table) h)
  called (leased_slot i) a t h = (result_one a (registry_answer s (leased_slot i)) h.0, h.1 ∙ looks s (leased_slot i) refl)
  called (release i) a t h = (result_one a (registry_answer s (release i)) (ap (λ x. x.answer) h), ap (λ x. x.table) h)
  called (revoke p) a t h = (result_one a (registry_answer s (revoke p)) (ap (λ x. x.answer) h), ap (λ x. x.table) h)
  called (reclaim p) a t h = (result_one a (registry_answer s (reclaim p)) (ap (λ x. x.answer) h), ap (λ x. x.table) h)
  called (resolve q) a t h = (result_one a (registry_answer s (resolve q)) h.0, h.1 ∙ looks s (resolve q) refl)
  called (entry p) a t h = (result_one a (registry_answer s (entry p)) h.0, h.1 ∙ looks s (entry p) refl)
  called (lease i) a t h = (result_one a (registry_answer s (lease i)) h.0, h.1 ∙ looks s (lease i) refl)
  called domain a t h = (result_one a (registry_answer s domain) h.0, h.1 ∙ looks s domain refl)
  called publication_records a t h = (result_one a (registry_answer s publication_records) h.0, h.1 ∙ looks s publication_records refl)
  called lease_record_count a t h = (result_one a (registry_answer s lease_record_count) h.0, h.1 ∙ looks s lease_record_count refl)
  called lease_allocation_count a t h = (result_one a (registry_answer s lease_allocation_count) h.0, h.1 ∙ looks s lease_allocation_count refl)
