-- A sound table is well formed as upstream words it; and a registry that is well formed and within the limits is sound.
-- Assumes nothing.
use Prim.Native.Nat.{ℕ, zero, suc, ◌≤◌, ◌<◌}
use mathlib.Core.Path.{◌≡◌, refl, sym, ap, ◌∙◌}
use mathlib.Core.Bool.{Bool, true, false, cond}
use mathlib.Core.List.{List, [], ◌∷◌}
use mathlib.Core.Option.{none, some}
use native.Mathlib.Omega.{arith}
use native.Mathlib.Nat.{not-suc-le-zero, le_of_suc-le-suc}
use lib.ListN.{length, get_or}
use Rattle.lists.proofs.Bools.{either}
use Rattle.lists.proofs.Place.{within}
use Rattle.lists.proofs.Every.{every_at, every_is}
use Rattle.rules.specs.Limits.{Limits}
use Rattle.rules.specs.Table.{Registry, Store, blank_publication, blank_lease, at}
use Rattle.rules.specs.Sound.{Rising, RegistrySound, StoreSound}
use Rattle.rules.specs.declared.PublicationId.{PublicationId}
use Rattle.rules.specs.declared.Publication.{Publication}
use Rattle.rules.specs.declared.Lease.{Lease}
use Rattle.upstream.specs.Answers.{is_some}
use Rattle.upstream.specs.Registry.{publication_at, lease_at, RegistryWf}
use Rattle.upstream.specs.Store.{values, value_at, StoreWf}
use Rattle.upstream.proofs.Held.{length-held, held_at}

abbrev numbered : ℕ → PublicationId
numbered i = record { 0 = i }

-- identifiers that rise, place by place

pub rising_at : (ls : List Lease) → Rising ls → (i j : ℕ) → i < j → j < length ls → (get_or ls i blank_lease).id.0 < (get_or ls j blank_lease).id.0
rising_at [] r i j h k = absurd (not-suc-le-zero k)
rising_at (l ∷ ls) r i zero h k = absurd (not-suc-le-zero h)
rising_at (l ∷ ls) r zero (suc j) h k = every_at (λ m. l.id.0 < m.id.0) ls blank_lease r.0 j (le_of_suc-le-suc k)
rising_at (l ∷ ls) r (suc i) (suc j) h k = rising_at ls r.1 i j (le_of_suc-le-suc h) (le_of_suc-le-suc k)

pub rising_is : (ls : List Lease)
    → ((i j : ℕ) → i < j → j < length ls → (get_or ls i blank_lease).id.0 < (get_or ls j blank_lease).id.0)
    → Rising ls
rising_is [] f = tt
rising_is (l ∷ ls) f = (
  every_is (λ m. l.id.0 < m.id.0) ls blank_lease (λ j h. f zero (suc j) (omega arith) (omega arith)),
  rising_is ls (λ i j h k. f (suc i) (suc j) (omega arith) (omega arith)),
)

-- so no identifier stands twice
pub one_place : (ls : List Lease) → Rising ls → (i j : ℕ) → i < length ls → j < length ls
    → (get_or ls i blank_lease).id.0 ≡ (get_or ls j blank_lease).id.0
    → i ≡ j
one_place ls r i j h k e =
    let before : i < j → ⊥ = λ m. omega (arith, rising_at ls r i j m k) in
    let after : j < i → ⊥ = λ m. omega (arith, rising_at ls r j i m h) in
    omega arith

module _ (L : Limits) (t : Registry) where
  pub sound_wf : RegistrySound L t → RegistryWf t
  sound_wf s =
      record {
        D7_1 = λ i h. s.s2 (numbered i);
        D7_2 = λ i j h k v w e. apart i j h (s.s3.ports (numbered i) (numbered j) v w e);
        D7_3 = λ i j h k v w e. apart i j h (s.s3.slots (numbered i) (numbered j) v w e);
        D7_4 = s.s1.given_out;
        D7_5 = every_at (λ l. l.id.0 < t.counter) t.leases blank_lease s.s4.below;
        D7_7 = λ i h. within (λ x. x.retained) t.publications (lease_at t i).publication.0 blank_publication refl (named i h);
        D7_8 = named;
        D7_9 = rising_at t.leases s.s4.rising;
      }
    where
      apart : (i j : ℕ) → i < j → numbered i ≡ numbered j → ⊥
      apart i j h e = let same : i ≡ j = ap (λ (p : PublicationId). p.0) e in omega arith

      named : (i : ℕ) → i < length t.leases → (at t.publications (lease_at t i).publication).retained ≡ true
      named = every_at (λ l. (at t.publications l.publication).retained ≡ true) t.leases blank_lease s.s4.named

  -- what soundness adds are the two limits
  pub wf_sound : RegistryWf t → length t.publications ≤ L.publications → length t.leases ≤ L.leases → RegistrySound L t
  wf_sound w m n =
      record {
        s1 = record { publication_room = m; lease_room = n; given_out = w.D7_4 };
        s2 = λ p v. w.D7_1 p.0 (inside (λ x. x.visible) refl p v) v;
        s3 =
            record {
              ports = only (λ x. x.visible) (λ x. x.port) refl w.D7_2;
              slots = only (λ x. x.retained) (λ x. x.slot) refl w.D7_3;
            };
        s4 =
            record {
              rising = rising_is t.leases w.D7_9;
              below = every_is (λ l. l.id.0 < t.counter) t.leases blank_lease w.D7_5;
              named = every_is (λ l. (at t.publications l.publication).retained ≡ true) t.leases blank_lease w.D7_8;
            };
      }
    where
      inside : (flag : Publication → Bool) → flag blank_publication ≡ false → (p : PublicationId) → flag (at t.publications p) ≡ true
          → p.0 < length t.publications
      inside flag blank p v = within flag t.publications p.0 blank_publication blank v

      only : {K : Type 0} (flag : Publication → Bool) (key : Publication → K) → flag blank_publication ≡ false
          → ((i j : ℕ) → i < j → j < length t.publications → flag (publication_at t i) ≡ true → flag (publication_at t j) ≡ true
          → key (publication_at t i) ≡ key (publication_at t j)
          → ⊥)
          → (p q : PublicationId)
          → flag (at t.publications p) ≡ true
          → flag (at t.publications q) ≡ true
          → key (at t.publications p) ≡ key (at t.publications q)
          → p ≡ q
      only flag key blank f p q u v e =
          let g : p.0 < q.0 → ⊥ = λ h. f p.0 q.0 h (inside flag blank q v) u v e in
          let h : q.0 < p.0 → ⊥ = λ h. f q.0 p.0 h (inside flag blank p u) v u (sym e) in
          let i : p.0 ≡ q.0 = omega arith in
          ap numbered i

module _ (L : Limits) (s : Store) (k : StoreSound L s) where
  -- a payload for each publication
  pub length-values : length (values s) ≡ length s.registry.publications
  length-values = length-held s.registry.publications s.payloads k.s5.payload_each

  pub value_is : (i : ℕ) → value_at s i ≡ cond (publication_at s.registry i).retained (some (get_or s.payloads i 0)) none
  value_is = held_at s.registry.publications s.payloads k.s5.payload_each

  pub store_sound_wf : StoreWf s
  store_sound_wf =
      record {
        D13_1 = sound_wf L s.registry k.registry;
        D13_2 = length-values;
        D13_3 = k.s5.revision_each ∙ sym length-values;
        D13_4 = λ i h. k.s5.slots (numbered i) (rw length-values at h);
        D13_5 =
            λ i h.
            ap is_some (value_is i)
            ∙ either (λ b. is_some (cond b (some (get_or s.payloads i 0)) none) ≡ b) refl refl (publication_at s.registry i).retained;
      }
