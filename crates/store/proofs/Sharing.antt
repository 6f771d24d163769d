-- The calls that the store shares with its registry: the row's effect on the store is the registry's, beside the same cells.
-- Assumes nothing.
use Prim.Native.Nat.{ℕ}
use mathlib.Core.Path.{◌≡◌, refl}
use Rattle.rules.specs.Limits.{Limits}
use Rattle.rules.specs.Answers.{Outcome, Verdict, pass, stop, verdict, carry}
use Rattle.rules.specs.Table.{Registry, Store, taken_by}
use Rattle.rules.specs.Changes.{with_registry}
use Rattle.rules.specs.Columns.{StoreColumns, RegistryColumns, used, used_registry}
use Rattle.rules.specs.Sound.{StoreColumnsSound}
use Rattle.rules.specs.Rows.{step}
use Rattle.rules.specs.RegistryRows.{call_tests, call_result, call_effect, registry_step, adopt, acquire, release, revoke, resolve}
use Rattle.rules.specs.Calls.{laid_out, laid_out_registry}
use Rattle.rules.specs.declared.PublicationId.{PublicationId}
use Rattle.rules.specs.declared.LeaseId.{LeaseId}
use Rattle.rules.specs.declared.Owner.{Owner}
use Rattle.rules.specs.declared.Port.{Port}
use Rattle.rules.specs.declared.Command.TheVariants.{Adopt, Acquire, Release, Revoke, Resolve}
use Rattle.store.proofs.Effects.{beside_cells, filled_beside}

-- an outcome of the registry, beside the store's cells
abbrev pub in_store : {A : Type 0} → StoreColumns → Outcome RegistryColumns A → Outcome StoreColumns A
in_store c o = record { answer = o.answer; table = beside_cells c o.table }

module _ {L : Limits} {c : StoreColumns} (h : StoreColumnsSound L c) where
  -- a refusal keeps the registry, and so the store
  shared : {A : Type 0} (v : Verdict) (x : A) (t : Registry)
      → laid_out L (carry v (used c) (tt {0}) x (with_registry (used c) t)) ≡ in_store c (laid_out_registry L (carry v (used_registry c.registry) (tt {0}) x t))
  shared pass x t = rw (filled_beside h t)
  shared (stop r) x t = rw (filled_beside h (used_registry c.registry))

  pub shared_adopt : (p : PublicationId) (o : Owner) (g : ℕ)
      → laid_out L (step L (used c) (Adopt p o g)) ≡ in_store c (laid_out_registry L (registry_step L (used_registry c.registry) (adopt p o g)))
  unfolding step registry_step
  shared_adopt p o g = shared (verdict (call_tests L (used_registry c.registry) (adopt p o g))) tt (call_effect (used_registry c.registry) (adopt p o g))

  pub shared_acquire : (p : PublicationId) (o : Owner) (g : ℕ)
      → laid_out L (step L (used c) (Acquire p o g)) ≡ in_store c (laid_out_registry L (registry_step L (used_registry c.registry) (acquire p (taken_by o g))))
  unfolding step registry_step
  shared_acquire p o g = shared (verdict (call_tests L (used_registry c.registry) (acquire p (taken_by o g)))) (record { 0 = c.registry.counter }) (call_effect (used_registry c.registry) (acquire p (taken_by o g)))

  pub shared_release : (i : LeaseId)
      → laid_out L (step L (used c) (Release i)) ≡ in_store c (laid_out_registry L (registry_step L (used_registry c.registry) (release i)))
  unfolding step registry_step
  shared_release i = shared (verdict (call_tests L (used_registry c.registry) (release i))) tt (call_effect (used_registry c.registry) (release i))

  pub shared_revoke : (p : PublicationId)
      → laid_out L (step L (used c) (Revoke p)) ≡ in_store c (laid_out_registry L (registry_step L (used_registry c.registry) (revoke p)))
  unfolding step registry_step
  shared_revoke p = shared (verdict (call_tests L (used_registry c.registry) (revoke p))) tt (call_effect (used_registry c.registry) (revoke p))

-- a query's answer alone

same_answer : {A : Type 0} (v : Verdict) (s s' : Store) (t t' : Registry) (x : A) → (carry v s (tt {0}) x s').answer ≡ (carry v t (tt {0}) x t').answer
same_answer pass s s' t t' x = refl
same_answer (stop r) s s' t t' x = refl

pub shared_resolve : (L : Limits) (s : Store) (q : Port) → (step L s (Resolve q)).answer ≡ (registry_step L s.registry (resolve q)).answer
unfolding step registry_step
shared_resolve L s q = same_answer (verdict (call_tests L s.registry (resolve q))) s s s.registry s.registry (call_result s.registry (resolve q))
