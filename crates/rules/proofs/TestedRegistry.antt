-- The test of a registry's soundness is its soundness.
-- Assumes nothing.
use Prim.Native.Nat.{ℕ, zero, suc, ◌≤◌, ◌<◌}
use mathlib.Core.Path.{◌≡◌, refl, sym, ap, subst}
use mathlib.Core.Bool.{Bool, true}
use mathlib.Core.List.{List, [], ◌∷◌}
use mathlib.Core.Logic.{◌↔◌}
use native.Mathlib.Omega.{arith}
use native.Mathlib.Nat.{not-suc-le-zero, le_of_suc-le-suc}
use lib.Dec.{leb, ltb}
use lib.ListN.{length, get_or}
use borrow.Author.Tests.{leb-true, le-leb, ltb-true, lt-ltb}
use Rattle.lists.specs.Every.{every, implies, Every}
use Rattle.lists.proofs.Bools.{implied, imply}
use Rattle.lists.proofs.Every.{Passing, parts, whole, below_at, below_is, Apart, apart_tested, every_map, every_at, every_is}
use Rattle.lists.proofs.Column.{get_or-padded, length-used}
use Rattle.lists.proofs.Place.{within}
use Rattle.rules.specs.Limits.{Limits}
use Rattle.rules.specs.Table.{Registry, blank_publication, blank_lease, at}
use Rattle.rules.specs.Columns.{RegistryColumns, used_registry, filled_registry}
use Rattle.rules.specs.Sound.{S1, S2, S3, S4, S6Registry, Rising, RegistrySound, RegistryColumnsSound}
use Rattle.rules.specs.SoundTest.{is_blank, is_blank_lease, rest_blank, same_port, same_slot, s1_test, s2_test, s3_test, s4_test, s6_registry_test, apart, least, registry_test}
use Rattle.rules.specs.declared.Publication.{Publication}
use Rattle.rules.specs.declared.PublicationId.{PublicationId}
use Rattle.rules.specs.declared.Port.{Port}
use Rattle.rules.specs.declared.Lease.{Lease}
use Rattle.rules.proofs.Blanks.{blank_publication_is, blank_lease_is, rest_blank_at, rest_blank_is}

-- Leases rise exactly where each is below the next.

below_all : (l : Lease) (ls : List Lease) → (0 < length ls → l.id.0 < (get_or ls 0 blank_lease).id.0) → Rising ls
    → Every (λ m. l.id.0 < m.id.0) ls
below_all l [] f r = tt
below_all l (m ∷ ms) f r =
    let h = f (omega arith) in
    (h, every_map (λ k. m.id.0 < k.id.0) (λ k. l.id.0 < k.id.0) (λ k x. omega arith) ms r.0)

pub rising_is : (ls : List Lease) → ((i : ℕ) → suc i < length ls → (get_or ls i blank_lease).id.0 < (get_or ls (suc i) blank_lease).id.0) → Rising ls
rising_is [] f = tt
rising_is (l ∷ ls) f =
    let r = rising_is ls (λ i h. f (suc i) (omega arith)) in (below_all l ls (λ h. f 0 (omega arith)) r, r)

pub rising_at : (ls : List Lease) → Rising ls → (i : ℕ) → suc i < length ls → (get_or ls i blank_lease).id.0 < (get_or ls (suc i) blank_lease).id.0
rising_at [] r i h = absurd (not-suc-le-zero h)
rising_at (l ∷ ls) r zero h = every_at (λ m. l.id.0 < m.id.0) ls blank_lease r.0 0 (le_of_suc-le-suc h)
rising_at (l ∷ ls) r (suc i) h = rising_at ls r.1 i (le_of_suc-le-suc h)

-- The tests of each clause, as lists.

module _ (L : Limits) (c : RegistryColumns) where
  abbrev clauses : List Bool
  clauses = s1_test L c ∷ s2_test c ∷ s3_test c ∷ s4_test c ∷ s6_registry_test L c ∷ []

  abbrev rooms : List Bool
  rooms = leb c.count L.publications ∷ leb c.active L.leases ∷ leb c.active c.counter ∷ []

  abbrev clashes : List Bool
  clashes = apart c same_port ∷ apart c same_slot ∷ []

  abbrev rests : List Bool
  rests =
      rest_blank L.publications c.count is_blank blank_publication c.publications
      ∷ rest_blank L.leases c.active is_blank_lease blank_lease c.leases
      ∷ []

abbrev identifier : ℕ → PublicationId
identifier n = record { 0 = n }

abbrev number : PublicationId → ℕ
number p = p.0

-- A table laid out in columns: every place shows what the lists in use show there.

module _ (L : Limits) (t : Registry) where
  abbrev columns : RegistryColumns
  columns = filled_registry L t

  abbrev count : ℕ
  count = length t.publications

  abbrev shown : ℕ → Publication
  shown i = get_or t.publications i blank_publication

  abbrev lent : ℕ → Lease
  lent i = get_or t.leases i blank_lease

  -- past the count nothing is visible and nothing retained

  visible_within : (i : ℕ) → (shown i).visible ≡ true → i < count
  visible_within i v = within (λ e. e.visible) t.publications i blank_publication refl v

  retained_within : (i : ℕ) → (shown i).retained ≡ true → i < count
  retained_within i r = within (λ e. e.retained) t.publications i blank_publication refl r

  s1_tested : (s1_test L columns ≡ true) ↔ S1 L t
  s1_tested = (
    λ e.
        let m = parts (rooms L columns) e in
        record { publication_room = leb-true _ _ m.0; lease_room = leb-true _ _ m.1.0; given_out = leb-true _ _ m.1.1.0 },
    λ s. whole (rooms L columns) (le-leb _ _ s.publication_room, (le-leb _ _ s.lease_room, (le-leb _ _ s.given_out, tt))),
  )

  s2_tested : (s2_test columns ≡ true) ↔ S2 t
  s2_tested = (
    λ e p v. implied _ _ (below_at (λ i. implies (shown i).visible (shown i).retained) count (simp get_or-padded at e) p.0 (visible_within p.0 v)) v,
    λ s. simp get_or-padded (below_is _ count (λ i h. imply _ _ (s (identifier i)))),
  )

  ports_tested : (apart columns same_port ≡ true) ↔ Apart (λ i. (shown i).visible) (λ i. (shown i).port.0)
  ports_tested = simp get_or-padded (apart_tested (λ i. (shown i).visible) (λ i. (shown i).port.0) count visible_within)

  slots_tested : (apart columns same_slot ≡ true) ↔ Apart (λ i. (shown i).retained) (λ i. (shown i).slot)
  slots_tested = simp get_or-padded (apart_tested (λ i. (shown i).retained) (λ i. (shown i).slot) count retained_within)

  s3_tested : (s3_test columns ≡ true) ↔ S3 t
  s3_tested = (
    λ e.
        let m = parts (clashes L columns) e in
        record {
          ports = λ p q v w x. ap identifier (ports_tested.0 m.0 p.0 q.0 v w (ap (λ (q : Port). q.0) x));
          slots = λ p q v w x. ap identifier (slots_tested.0 m.1.0 p.0 q.0 v w x);
        },
    λ s.
        whole (clashes L columns) (
          ports_tested.1 (λ i j v w x. ap number (s.ports (identifier i) (identifier j) v w (ap (λ (n : ℕ). record { 0 = n }) x))),
          (slots_tested.1 (λ i j v w x. ap number (s.slots (identifier i) (identifier j) v w x)), tt),
        ),
  )

  abbrev lease_tests : ℕ → List Bool
  lease_tests i =
      leb (least columns i) (lent i).id.0
      ∷ ltb (lent i).id.0 t.counter
      ∷ (at t.publications (lent i).publication).retained
      ∷ []

  s4_tested : (s4_test columns ≡ true) ↔ S4 t
  s4_tested = (
    λ e.
        record {
          rising = rising_is t.leases (λ i h. leb-true _ _ (simp get_or-padded at (passing e (suc i) h).0));
          below = every_is _ t.leases blank_lease (λ i h. ltb-true _ _ (passing e i h).1.0);
          named = every_is _ t.leases blank_lease (λ i h. (passing e i h).1.1.0);
        },
    λ s.
        simp get_or-padded
        (below_is (λ i. every (lease_tests i)) (length t.leases)
        (λ i h.
        whole (lease_tests i) (
          le-leb _ _ (risen s.rising i h),
          (lt-ltb _ _ (every_at _ t.leases blank_lease s.below i h), (every_at _ t.leases blank_lease s.named i h, tt)),
        ))),
  )
    where
      passing : s4_test columns ≡ true → (i : ℕ) → i < length t.leases → Passing (lease_tests i)
      passing e i h = parts (lease_tests i) (below_at (λ i. every (lease_tests i)) (length t.leases) (simp get_or-padded at e) i h)

      risen : Rising t.leases → (i : ℕ) → i < length t.leases → least columns i ≤ (lent i).id.0
      risen r zero h = omega arith
      risen r (suc i) h = simp get_or-padded (rising_at t.leases r i h)

  s6_is : S1 L t → s6_registry_test L columns ≡ true
  s6_is s =
      whole (rests L columns) (
        rest_blank_is L.publications is_blank blank_publication refl _ t.publications refl s.publication_room,
        (rest_blank_is L.leases is_blank_lease blank_lease refl _ t.leases refl s.lease_room, tt),
      )

  pub filled_registry_tested : (registry_test L (filled_registry L t) ≡ true) ↔ RegistrySound L t
  unfolding registry_test
  filled_registry_tested = (
    λ e.
        let m = parts (clauses L columns) e in
        record { s1 = s1_tested.0 m.0; s2 = s2_tested.0 m.1.0; s3 = s3_tested.0 m.1.1.0; s4 = s4_tested.0 m.1.1.1.0 },
    λ s.
        whole (clauses L columns) (
          s1_tested.1 s.s1,
          (s2_tested.1 s.s2, (s3_tested.1 s.s3, (s4_tested.1 s.s4, (s6_is s.s1, tt)))),
        ),
  )

-- Any columns: those that pass are what is in use, laid out.

module _ (L : Limits) (c : RegistryColumns) where
  s6_at : registry_test L c ≡ true → S6Registry L c
  unfolding registry_test
  s6_at e =
      let m = parts (clauses L c) e in
      let few = leb-true _ _ (parts (rooms L c) m.0).0 in
      let fewer = leb-true _ _ (parts (rooms L c) m.0).1.0 in
      let b = parts (rests L c) m.1.1.1.1.0 in
      let p = rest_blank_at L.publications is_blank blank_publication blank_publication_is c.count c.publications few b.0 in
      let l = rest_blank_at L.leases is_blank_lease blank_lease blank_lease_is c.active c.leases fewer b.1.0 in
      rw (length-used _ _ _ _ p few, length-used _ _ _ _ l fewer, p, l)

  pub registry_tested : (registry_test L c ≡ true) ↔ RegistryColumnsSound L c
  registry_tested = (
    λ e.
        record {
          in_use = (filled_registry_tested L (used_registry c)).0 (subst (λ (c : RegistryColumns). registry_test L c ≡ true) (sym (s6_at e)) e);
          s6 = s6_at e;
        },
    λ s. subst (λ (c : RegistryColumns). registry_test L c ≡ true) s.s6 ((filled_registry_tested L (used_registry c)).1 s.in_use),
  )
