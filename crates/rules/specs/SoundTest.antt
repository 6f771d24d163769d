-- Soundness of a raw table as a test that computes, clause by clause.
-- Assumes nothing.
use Rattle.std.specs.Prelude.{ℕ, zero, suc, ◌+◌, ◌-◌, Bool, true, false, not, ◌&&◌, ◌||◌, List, [], ◌∷◌, leb, ltb, eqb, length, get_or, Option, None, Some}
use Rattle.lists.specs.Every.{every, each_below, implies}
use Rattle.rules.specs.Limits.{Limits}
use Rattle.rules.specs.Table.{blank_publication, blank_lease, at}
use Rattle.rules.specs.Columns.{RegistryColumns, StoreColumns}
use Rattle.rules.specs.declared.Publication.{Publication}
use Rattle.rules.specs.declared.Lease.{Lease}
use Rattle.rules.specs.declared.Consumer.{Consumer}

-- S6: a record is blank

abbrev pub nobody : Option Consumer → Bool
nobody None = true
nobody (Some k) = false

abbrev pub is_blank : Publication → Bool
is_blank e =
    every
    (eqb e.owner.0 0
    ∷ eqb e.generation 0
    ∷ eqb e.port.0 0
    ∷ eqb e.slot 0
    ∷ not e.visible
    ∷ not e.retained
    ∷ [])

abbrev pub is_blank_lease : Lease → Bool
is_blank_lease l = every (eqb l.id.0 0 ∷ eqb l.publication.0 0 ∷ nobody l.consumer ∷ [])

-- a column has its length, and past the first n it is blank
abbrev pub rest_blank : {A : Type 0} → ℕ → ℕ → (A → Bool) → A → List A → Bool
rest_blank size n blank d xs = every (eqb (length xs) size ∷ each_below (size - n) (λ k. blank (get_or xs (n + k) d)) ∷ [])

-- S3: two records that may not stand in one table

abbrev pub same_port : Publication → Publication → Bool
same_port e f = (e.visible && f.visible) && eqb e.port.0 f.port.0

abbrev pub same_slot : Publication → Publication → Bool
same_slot e f = (e.retained && f.retained) && eqb e.slot f.slot

abbrev pub s1_test : Limits → RegistryColumns → Bool
s1_test L c = every (leb c.count L.publications ∷ leb c.active L.leases ∷ leb c.active c.counter ∷ [])

module _ (c : RegistryColumns) where
  abbrev pub record_at : ℕ → Publication
  record_at i = get_or c.publications i blank_publication

  abbrev pub lease_at : ℕ → Lease
  lease_at i = get_or c.leases i blank_lease

  abbrev pub s2_test : Bool
  s2_test = each_below c.count (λ i. implies (record_at i).visible (record_at i).retained)

  -- no record clashes with an earlier one
  abbrev pub apart : (Publication → Publication → Bool) → Bool
  apart clash = each_below c.count (λ j. each_below j (λ i. not (clash (record_at i) (record_at j))))

  abbrev pub s3_test : Bool
  s3_test = every (apart same_port ∷ apart same_slot ∷ [])

  -- the least identifier that the ith lease may have: one more than that of the lease before it
  abbrev pub least : ℕ → ℕ
  least zero = 0
  least (suc i) = suc (lease_at i).id.0

  abbrev pub s4_test : Bool
  s4_test =
      each_below c.active
      (λ i.
      every (leb (least i) (lease_at i).id.0 ∷ ltb (lease_at i).id.0 c.counter ∷ (at c.publications (lease_at i).publication).retained ∷ []))

module _ (L : Limits) (c : RegistryColumns) where
  abbrev pub s6_registry_test : Bool
  s6_registry_test =
      every
      (rest_blank L.publications c.count is_blank blank_publication c.publications
      ∷ rest_blank L.leases c.active is_blank_lease blank_lease c.leases
      ∷ [])

  unfoldable pub registry_test : Bool
  registry_test = every (s1_test L c ∷ s2_test c ∷ s3_test c ∷ s4_test c ∷ s6_registry_test ∷ [])

abbrev pub s5_test : StoreColumns → Bool
s5_test c =
    each_below c.registry.count
    (λ i.
    every (eqb (record_at c.registry i).slot i ∷ ((record_at c.registry i).retained || eqb (get_or c.payloads i 0) 0) ∷ []))

module _ (L : Limits) (c : StoreColumns) where
  abbrev pub s6_test : Bool
  s6_test =
      every
      (rest_blank L.publications c.registry.count (λ n. eqb n 0) 0 c.payloads
      ∷ rest_blank L.publications c.registry.count (λ n. eqb n 0) 0 c.revisions
      ∷ [])

  unfoldable pub store_test : Bool
  store_test = every (registry_test L c.registry ∷ s5_test c ∷ s6_test ∷ [])
