-- The makers give an empty, well formed table: R1, R3, R4 and S1.
-- Assumes nothing.
use Rattle.std.specs.Prelude.{Option, Some, None}
use Prim.Native.Nat.{ℕ}
use mathlib.Core.Path.{◌≡◌, refl, sym, subst}
use lib.ListN.{length}
use Rattle.rules.specs.Limits.{Limits}
use Rattle.rules.specs.Table.{Registry, Store, empty_registry, empty_store}
use Rattle.rules.specs.Columns.{used_registry, used, filled_registry, filled}
use Rattle.rules.proofs.KeepsRegistry.{empty_registry_sound}
use Rattle.rules.proofs.KeepsStore.{empty_sound}
use Rattle.rules.proofs.Columns.{used_filled_registry, used_filled}
use Rattle.upstream.specs.Registry.{domain_id, publications, lease_records, lease_allocations, RegistryWf}
use Rattle.upstream.specs.Store.{registry_view, values, revisions, StoreWf}
use Rattle.upstream.proofs.Wf.{sound_wf, store_sound_wf}

-- a registry's, for a domain or none; R3 reads the same
pub record NewClauses (domain : Option ℕ) (out : Registry) : Type 0 where
  pub R4_1 : RegistryWf out
  pub R4_2 : domain_id out ≡ domain
  pub R4_3 : length (publications out) ≡ 0
  pub R4_4 : length (lease_records out) ≡ 0
  pub R4_5 : lease_allocations out ≡ 0

-- a store's
pub record StoreNewClauses (domain : Option ℕ) (out : Store) : Type 0 where
  pub S1_1 : StoreWf out
  pub S1_2 : domain_id (registry_view out) ≡ domain
  pub S1_3 : length (values out) ≡ 0
  pub S1_4 : length (revisions out) ≡ 0
  pub S1_5 : length (publications (registry_view out)) ≡ 0
  pub S1_6 : length (lease_records (registry_view out)) ≡ 0
  pub S1_7 : lease_allocations (registry_view out) ≡ 0

module _ (L : Limits) where
  -- what is in use in the columns that a maker gives

  abbrev pub made : Option ℕ → Registry
  made d = used_registry (filled_registry L (empty_registry d))

  abbrev pub made_store : Option ℕ → Store
  made_store d = used (filled L (empty_store d))

  pub made_clauses : (d : Option ℕ) → NewClauses d (made d)
  made_clauses d =
      subst (NewClauses d) (sym (used_filled_registry L (empty_registry d)))
      (record { R4_1 = sound_wf L (empty_registry d) (empty_registry_sound L d); R4_2 = refl; R4_3 = refl; R4_4 = refl; R4_5 = refl })

  pub made_store_clauses : (d : Option ℕ) → StoreNewClauses d (made_store d)
  made_store_clauses d =
      subst (StoreNewClauses d) (sym (used_filled L (empty_store d) refl refl))
      (record {
        S1_1 = store_sound_wf L (empty_store d) (empty_sound L d);
        S1_2 = refl;
        S1_3 = refl;
        S1_4 = refl;
        S1_5 = refl;
        S1_6 = refl;
        S1_7 = refl;
      })

  -- the registry's `default` and `new`, and its `for_domain`

  pub default_R1 : NewClauses None (made None)
  default_R1 = made_clauses None

  pub for_domain_R3 : (n : ℕ) → NewClauses (Some n) (made (Some n))
  for_domain_R3 n = made_clauses (Some n)

  pub new_R4 : NewClauses None (made None)
  new_R4 = made_clauses None

  -- the store's `for_domain`, and its `new`, which upstream has not

  pub for_domain_S1 : (n : ℕ) → StoreNewClauses (Some n) (made_store (Some n))
  for_domain_S1 n = made_store_clauses (Some n)

  pub store_new : StoreNewClauses None (made_store None)
  store_new = made_store_clauses None
