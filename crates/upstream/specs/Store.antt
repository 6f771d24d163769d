-- Upstream's definitions of a store, in its words, over our table; `visible_table`, `lookup` and `put` stand in
-- crates/rules/specs/VisibleTable.antt.
-- Assumes nothing.
use Rattle.std.specs.Prelude.{ℕ, ◌<◌, ◌≡◌, cond, List, [], ◌∷◌, length, get_or}
use Rattle.std.proofs.Math.Option.{Option, none, some}
use Rattle.rules.specs.Table.{Registry, Store}
use Rattle.rules.specs.declared.Publication.{Publication}
use Rattle.upstream.specs.Answers.{is_some}
use Rattle.upstream.specs.Registry.{domain_id, publications, lease_records, lease_allocations, publication_at, Unchanged, RegistryWf}

-- each publication's payload: a handle where it is retained, else none
abbrev pub held : List Publication → List ℕ → List (Option ℕ)
held [] hs = []
held (e ∷ es) [] = []
held (e ∷ es) (h ∷ hs) = cond e.retained (some h) none ∷ held es hs

module _ (s : Store) where
  -- what clauses see of a store: D10 to D12

  abbrev pub registry_view : Registry
  registry_view = s.registry

  abbrev pub values : List (Option ℕ)
  values = held s.registry.publications s.payloads

  abbrev pub revisions : List ℕ
  revisions = s.revisions

  abbrev pub value_at : ℕ → Option ℕ
  value_at i = get_or values i none

  abbrev pub revision_at : ℕ → ℕ
  revision_at i = get_or revisions i 0

-- D13
pub record StoreWf (s : Store) : Type 0 where
  pub D13_1 : RegistryWf (registry_view s)
  pub D13_2 : length (values s) ≡ length (publications (registry_view s))
  pub D13_3 : length (revisions s) ≡ length (values s)
  pub D13_4 : (i : ℕ) → i < length (values s) → (publication_at (registry_view s) i).slot ≡ i
  pub D13_5 : (i : ℕ) → i < length (values s) → is_some (value_at s i) ≡ (publication_at (registry_view s) i).retained

-- D14
pub record Same (now prior : Store) : Type 0 where
  pub D14_1 : Unchanged (registry_view now) (registry_view prior)
  pub D14_2 : values now ≡ values prior
  pub D14_3 : revisions now ≡ revisions prior

-- D15
pub record LeaseFrame (now prior : Store) : Type 0 where
  pub D15_1 : domain_id (registry_view now) ≡ domain_id (registry_view prior)
  pub D15_2 : lease_records (registry_view now) ≡ lease_records (registry_view prior)
  pub D15_3 : lease_allocations (registry_view now) ≡ lease_allocations (registry_view prior)
