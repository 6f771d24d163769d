-- The record of an active lease, its place, and the leases that name a publication: upstream's words and the tests' words agree.
-- Assumes nothing.
use Prim.Native.Nat.{ℕ, ◌<◌}
use mathlib.Core.Path.{◌≡◌, refl, sym, ap, ◌∙◌}
use mathlib.Core.Bool.{Bool, true, false, cond, true≢false}
use mathlib.Core.Logic.{◌≢◌, ◌↔◌}
use mathlib.Core.Option.{Option, none, some}
use native.Mathlib.Omega.{arith}
use lib.ListN.{length}
use borrow.Author.Tests.{eqb-true, eqb-false, eq-eqb, ne_eqb, lt-leb, not-false}
use Rattle.lists.specs.Search.{first_place}
use Rattle.lists.proofs.Bools.{never_true}
use Rattle.lists.proofs.Search.{none_of, none_found, first_passes, first_every}
use Rattle.lists.proofs.Scan.{passes_at, first_below}
use Rattle.lists.proofs.Every.{every_at, every_is}
use Rattle.rules.specs.Limits.{Limits}
use Rattle.rules.specs.Table.{Registry, blank_lease, at}
use Rattle.rules.specs.Conditions.{is_lease, names, leased, never_lent, active, lease_of}
use Rattle.rules.specs.Rows.{lease_row}
use Rattle.rules.specs.Sound.{Rising, RegistrySound}
use Rattle.rules.specs.declared.PublicationId.{PublicationId}
use Rattle.rules.specs.declared.LeaseId.{LeaseId}
use Rattle.rules.specs.declared.Lease.{Lease}
use Rattle.rules.proofs.Clear.{Clear}
use Rattle.upstream.specs.Answers.{is_some}
use Rattle.upstream.specs.Registry.{lease_records, lease_at, active_lease, Unleased}
use Rattle.upstream.proofs.Numbers.{same_id, same_lease}
use Rattle.upstream.proofs.Searches.{is_some_first, first_is, first_none}
use Rattle.upstream.proofs.Wf.{one_place}

module _ (t : Registry) (i : LeaseId) where
  pub is_active : is_some (active_lease t i) ≡ active t i
  is_active = is_some_first (is_lease i) t.leases

  pub active_is : active t i ≡ true → active_lease t i ≡ some (lease_of t i)
  active_is = first_is (is_lease i) t.leases blank_lease

  pub inactive_is : active t i ≡ false → active_lease t i ≡ none
  inactive_is = first_none (is_lease i) t.leases

  -- the place of the record

  abbrev place : ℕ
  place = first_place (is_lease i) t.leases

  pub lease_there : active t i ≡ true → (place < length (lease_records t)) × ((lease_at t place).id ≡ i)
  lease_there e = (
    first_below (is_lease i) t.leases e,
    same_lease (lease_at t place).id i (eqb-true (lease_at t place).id.0 i.0 (first_passes (is_lease i) t.leases blank_lease e)),
  )

  found_there : (n : ℕ) → n < length (lease_records t) → (lease_at t n).id ≡ i → active t i ≡ true
  found_there n h e =
      passes_at (is_lease i) t.leases n blank_lease h (eq-eqb (lease_at t n).id.0 i.0 (ap (λ (j : LeaseId). j.0) e))

  -- R21: where it is, or that it is nowhere

  abbrev pub lease_index : Option ℕ
  lease_index = cond (active t i) (some place) none

  pub R21_1 : (n : ℕ) → lease_index ≡ some n → n < length (lease_records t)
  R21_1 = go (active t i) refl
    where
      go : (b : Bool) → active t i ≡ b → (n : ℕ) → cond b (some place) none ≡ some n → n < length (lease_records t)
      go true e n m = let same : place ≡ n = cc in rw (← same) (lease_there e).0
      go false e n m = let z : ◌≡◌ {A = ℕ} 0 1 = cc in absurd (omega arith)

  pub R21_2 : (n : ℕ) → lease_index ≡ some n → (lease_at t n).id ≡ i
  R21_2 = go (active t i) refl
    where
      go : (b : Bool) → active t i ≡ b → (n : ℕ) → cond b (some place) none ≡ some n → (lease_at t n).id ≡ i
      go true e n m = let same : place ≡ n = cc in rw (← same) (lease_there e).1
      go false e n m = let z : ◌≡◌ {A = ℕ} 0 1 = cc in absurd (omega arith)

  pub R21_3 : lease_index ≡ none → (n : ℕ) → n < length (lease_records t) → (lease_at t n).id ≢ i
  R21_3 = go (active t i) refl
    where
      go : (b : Bool) → active t i ≡ b → cond b (some place) none ≡ none → (n : ℕ) → n < length (lease_records t) → (lease_at t n).id ≢ i
      go true e m n h k = let z : ◌≡◌ {A = ℕ} 0 1 = cc in absurd (omega arith)
      go false e m n h k = true≢false (sym (found_there n h k) ∙ e)

  -- D5: where identifiers rise, it is the one record with that identifier

  pub active_lease_exactly : Rising t.leases → (l : Lease)
      → (active_lease t i ≡ some l) ↔ ((n : ℕ) × (n < length (lease_records t)) × (lease_at t n ≡ l) × (l.id ≡ i))
  active_lease_exactly r l = (to, back)
    where
      One : Type 0
      One = (n : ℕ) × (n < length (lease_records t)) × (lease_at t n ≡ l) × (l.id ≡ i)

      to : active_lease t i ≡ some l → One
      to e =
          let a : active t i ≡ true = sym is_active ∙ ap is_some e in
          let same : lease_at t place ≡ l = cc (active_is a) in
          (place, (lease_there a).0, same, ap (λ (m : Lease). m.id) (sym same) ∙ (lease_there a).1)

      back : One → active_lease t i ≡ some l
      back (n, h, same, k) =
          let there : (lease_at t n).id ≡ i = ap (λ (m : Lease). m.id) same ∙ k in
          let a = found_there n h there in
          let here = lease_there a in
          let ids : (lease_at t place).id.0 ≡ (lease_at t n).id.0 = ap (λ (j : LeaseId). j.0) (here.1 ∙ sym there) in
          active_is a ∙ ap (λ (m : ℕ). some (lease_at t m)) (one_place t.leases r place n here.0 h ids) ∙ ap (λ (m : Lease). some m) same

  pub no_active_lease : (active_lease t i ≡ none) ↔ ((n : ℕ) → n < length (lease_records t) → (lease_at t n).id ≢ i)
  no_active_lease = (
    λ e n h k. true≢false (sym (found_there n h k) ∙ sym is_active ∙ ap is_some e),
    λ f. inactive_is (never_true (active t i) (λ a. f place (lease_there a).0 (lease_there a).1)),
  )

-- D8
pub unleased_exactly : (t : Registry) (p : PublicationId) → (leased t p ≡ false) ↔ Unleased t p
unleased_exactly t p = (
  λ e n h k.
      eqb-false (lease_at t n).publication.0 p.0 (every_at (λ l. names p l ≡ false) t.leases blank_lease (none_of (names p) t.leases e) n h)
      (ap (λ (q : PublicationId). q.0) k),
  λ u.
      none_found (names p) t.leases
      (every_is (λ l. names p l ≡ false) t.leases blank_lease
      (λ n h. ne_eqb (lease_at t n).publication.0 p.0 (λ e. u n h (same_id (lease_at t n).publication p e)))),
)

-- the tests of a lease: in a sound registry one that is active was given out

module _ (L : Limits) (t : Registry) (s : RegistrySound L t) (i : LeaseId) where
  pub active_lent : active t i ≡ true → never_lent t i ≡ false
  active_lent e =
      let below = every_at (λ l. l.id.0 < t.counter) t.leases blank_lease s.s4.below (place t i) (lease_there t i e).0 in
      lt-leb t.counter i.0 (rw (lease_there t i e).1 at below)

  pub lease_row_exactly : Clear (lease_row L t i) ↔ (is_some (active_lease t i) ≡ true)
  lease_row_exactly = (
    λ k. is_active t i ∙ not-false (active t i) k.1.0,
    λ e. let a : active t i ≡ true = sym (is_active t i) ∙ e in (active_lent a, (rw a, tt)),
  )

  -- and it names a retained publication
  pub active_retained : active t i ≡ true → (at t.publications (lease_of t i).publication).retained ≡ true
  active_retained = first_every (is_lease i) (λ l. (at t.publications l.publication).retained ≡ true) t.leases blank_lease s.s4.named
