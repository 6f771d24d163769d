-- Upstream's definitions of a registry, in its words, over our table; `acquisition_enabled` stands in crates/rules/specs/Acquisition.antt.
-- Assumes nothing.
use Rattle.std.specs.Prelude.{ℕ, suc, ◌≤◌, ◌<◌, ◌≡◌, ◌≢◌, Bool, true, cond, List, [], ◌∷◌, ◌++◌, length, get_or, take, drop}
use Rattle.std.specs.Prelude as std
use Rattle.std.proofs.Math.Option.{Option, none, some}
use Rattle.rules.specs.Table.{Registry, blank_publication, blank_lease, at}
use Rattle.rules.specs.Conditions.{is_lease}
use Rattle.rules.specs.declared.PublicationId.{PublicationId}
use Rattle.rules.specs.declared.LeaseId.{LeaseId}
use Rattle.rules.specs.declared.Publication.{Publication}
use Rattle.rules.specs.declared.Lease.{Lease}

-- the first element that passes a test
abbrev pub first_that : {A : Type 0} → (A → Bool) → List A → Option A
first_that p [] = none
first_that p (x ∷ xs) = cond (p x) (some x) (first_that p xs)

-- `Seq::remove`: the list without the element at a place
abbrev pub without_at : {A : Type 0} → ℕ → List A → List A
without_at i xs = take i xs ++ drop (suc i) xs

-- `Publication { generation, ..e }`; with `visible: false` it is `hidden e`, with `retained: false` it is `reclaimed e`
abbrev pub with_generation : Publication → ℕ → Publication
with_generation e g =
    record { owner = e.owner; generation = g; port = e.port; slot = e.slot; visible = e.visible; retained = e.retained }

module _ (t : Registry) where
  -- what clauses see of a registry: D1 to D4

  abbrev pub domain_id : std.Option ℕ
  domain_id = t.domain

  abbrev pub publications : List Publication
  publications = t.publications

  abbrev pub lease_records : List Lease
  lease_records = t.leases

  abbrev pub lease_allocations : ℕ
  lease_allocations = t.counter

  -- the ith record
  abbrev pub publication_at : ℕ → Publication
  publication_at i = get_or publications i blank_publication

  abbrev pub lease_at : ℕ → Lease
  lease_at i = get_or lease_records i blank_lease

  -- D5: the record with that identifier, if there is one
  abbrev pub active_lease : LeaseId → Option Lease
  active_lease i = first_that (is_lease i) lease_records

  -- D8: no lease names the publication
  abbrev pub Unleased : PublicationId → Type 0
  Unleased p = (i : ℕ) → i < length lease_records → (lease_at i).publication ≢ p

-- D6
pub record Unchanged (now prior : Registry) : Type 0 where
  pub D6_1 : now.domain ≡ prior.domain
  pub D6_2 : now.publications ≡ prior.publications
  pub D6_3 : now.leases ≡ prior.leases
  pub D6_4 : now.counter ≡ prior.counter

-- D7; D7.6 speaks of `live`, which is dropped
pub record RegistryWf (t : Registry) : Type 0 where
  pub D7_1 : (i : ℕ) → i < length (publications t) → (publication_at t i).visible ≡ true → (publication_at t i).retained ≡ true
  pub D7_2 : (i j : ℕ) → i < j → j < length (publications t)
      → (publication_at t i).visible ≡ true
      → (publication_at t j).visible ≡ true
      → (publication_at t i).port ≢ (publication_at t j).port
  pub D7_3 : (i j : ℕ) → i < j → j < length (publications t)
      → (publication_at t i).retained ≡ true
      → (publication_at t j).retained ≡ true
      → (publication_at t i).slot ≢ (publication_at t j).slot
  pub D7_4 : length (lease_records t) ≤ lease_allocations t
  pub D7_5 : (i : ℕ) → i < length (lease_records t) → (lease_at t i).id.0 < lease_allocations t
  pub D7_7 : (i : ℕ) → i < length (lease_records t) → (lease_at t i).publication.0 < length (publications t)
  pub D7_8 : (i : ℕ) → i < length (lease_records t) → (at (publications t) (lease_at t i).publication).retained ≡ true
  pub D7_9 : (i j : ℕ) → i < j → j < length (lease_records t) → (lease_at t i).id.0 < (lease_at t j).id.0
