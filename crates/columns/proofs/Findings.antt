-- What each finding of the soundness test says of the whole: a clause fails, or none does.
-- Assumes nothing.
use Prim.Native.Nat.{ℕ, ◌+◌, ◌≤◌, ◌<◌}
use mathlib.Core.Path.{◌≡◌, sym, ◌∙◌}
use mathlib.Core.Bool.{Bool, true, false, ◌&&◌, false≢true, true≢false}
use mathlib.Core.List.{List}
use native.Mathlib.Omega.{arith}
use lib.Dec.{leb, ltb, eqb}
use lib.ListN.{length, take, get_or, get_or-eq_default}
use Rattle.lists.specs.Every.{implies}
use Rattle.lists.proofs.Marks.{clashes}
use Rattle.rules.specs.Limits.{Limits}
use Rattle.rules.specs.Table.{blank_publication, blank_lease, at}
use Rattle.rules.specs.Columns.{RegistryColumns}
use Rattle.rules.specs.SoundTest.{is_blank, is_blank_lease, record_at, lease_at, registry_test}
use Rattle.rules.specs.declared.Publication.{Publication}
use Rattle.rules.specs.declared.Lease.{Lease}
use Rattle.columns.proofs.Slices.{used_below, used_there, used_over, rest, rest_below, rest_there, rest_all}
use Rattle.columns.proofs.Clauses.{right, wrong}
use Rattle.columns.proofs.Walk.{on_port, port_of, in_slot, slot_of, Walk}
use Rattle.columns.proofs.Rise.{Rise, in_order}

module _ (L : Limits) (c : RegistryColumns) where
  pub too_many : L.publications < c.count → false ≡ registry_test L c
  too_many h = wrong L c (λ f. omega (arith, f.room))

  pub too_many_leases : L.leases < c.active → false ≡ registry_test L c
  too_many_leases h = wrong L c (λ f. omega (arith, f.lease_room))

  pub not_given_out : c.counter < c.active → false ≡ registry_test L c
  not_given_out h = wrong L c (λ f. omega (arith, f.given_out))

  module _ (i : ℕ) (h : i < c.count) where
    pub not_kept : implies (record_at c i).visible (record_at c i).retained ≡ false → false ≡ registry_test L c
    not_kept e = wrong L c (λ f. false≢true (sym e ∙ f.kept i h))

    module _ (k : ℕ) (l : k < i) where
      pub port_twice : (record_at c i).visible ≡ true → ((record_at c k).visible && eqb (record_at c k).port.0 (record_at c i).port.0) ≡ true → false ≡ registry_test L c
      port_twice v e = wrong L c (λ f. false≢true (sym (f.ports i h k l) ∙ clashes 1024 (on_port c.publications) (port_of c.publications) i k v e))

      pub slot_twice : (record_at c i).retained ≡ true → ((record_at c k).retained && eqb (record_at c k).slot (record_at c i).slot) ≡ true → false ≡ registry_test L c
      slot_twice v e = wrong L c (λ f. false≢true (sym (f.slots i h k l) ∙ clashes 1024 (in_slot c.publications) (slot_of c.publications) i k v e))

  -- one of the leases in use
  module _ {bound k : ℕ} (w : Rise L c bound k) (h : k < length (take c.active c.leases)) where
    abbrev here : Lease
    here = get_or (take c.active c.leases) k blank_lease

    here_is : here ≡ lease_at c k
    here_is = used_there c.active c.leases blank_lease k h

    pub disordered : (leb bound here.id.0 && ltb here.id.0 c.counter) ≡ false → false ≡ registry_test L c
    disordered e =
        wrong L c
        (λ f.
        let p = f.ranked k (used_below c.active c.leases h) in
        let a : leb bound (lease_at c k).id.0 ≡ true = rw w.floor p.0 in
        let o : in_order L c bound k ≡ false = rw here_is at e in
        true≢false (rw (a, p.1.0) at o))

    pub stray : L.publications ≤ here.publication.0 → false ≡ registry_test L c
    stray l =
        wrong L c
        (λ f.
        let r = (f.ranked k (used_below c.active c.leases h)).1.1.0 in
        let n = f.long in
        let o : L.publications ≤ (lease_at c k).publication.0 = rw here_is at l in
        false≢true (rw (get_or-eq_default c.publications blank_publication {n = (lease_at c k).publication.0} (omega arith)) at r))

    pub lost : (at c.publications here.publication).retained ≡ false → false ≡ registry_test L c
    lost e =
        let o : (at c.publications (lease_at c k).publication).retained ≡ false = rw here_is at e in
        wrong L c (λ f. false≢true (sym o ∙ (f.ranked k (used_below c.active c.leases h)).1.1.0))

  abbrev rest_publications : List Publication
  rest_publications = rest c.count c.publications L.publications

  abbrev rest_leases : List Lease
  rest_leases = rest c.active c.leases L.leases

  pub not_blank : (b : ℕ) → b < length rest_publications → is_blank (get_or rest_publications b blank_publication) ≡ false → false ≡ registry_test L c
  not_blank b h e =
      let o : is_blank (record_at c (c.count + b)) ≡ false = rw (rest_there c.count c.publications L.publications blank_publication b h) at e in
      wrong L c (λ f. false≢true (sym o ∙ f.blank (c.count + b) (omega arith) (rest_below c.count c.publications L.publications h)))

  pub not_blank_lease : (b : ℕ) → b < length rest_leases → is_blank_lease (get_or rest_leases b blank_lease) ≡ false → false ≡ registry_test L c
  not_blank_lease b h e =
      let o : is_blank_lease (lease_at c (c.active + b)) ≡ false = rw (rest_there c.active c.leases L.leases blank_lease b h) at e in
      wrong L c (λ f. false≢true (sym o ∙ f.blank_leases (c.active + b) (omega arith) (rest_below c.active c.leases L.leases h)))

  pub all_right : c.count ≤ L.publications → c.active ≤ L.leases → c.active ≤ c.counter
      → length c.publications ≡ L.publications → length c.leases ≡ L.leases
      → {ports slots : List Bool} {i : ℕ} → Walk c.publications c.count ports slots i → c.count ≤ i
      → {bound k : ℕ} → Rise L c bound k → length (take c.active c.leases) ≤ k
      → {b : ℕ} → ((j : ℕ) → j < b → is_blank (get_or rest_publications j blank_publication) ≡ true) → length rest_publications ≤ b
      → {d : ℕ} → ((j : ℕ) → j < d → is_blank_lease (get_or rest_leases j blank_lease) ≡ true) → length rest_leases ≤ d
      → true ≡ registry_test L c
  all_right room lease_room given_out long long_leases w wi {k = k} r rk bs bl ls dl =
      let rl : c.active ≤ k = used_over c.active c.leases (omega arith) rk in
      right L c
      (record {
        room = room;
        lease_room = lease_room;
        given_out = given_out;
        kept = λ j h. w.kept j (omega arith);
        ports = λ j h. w.ports_apart j (omega arith);
        slots = λ j h. w.slots_apart j (omega arith);
        ranked = λ j h. r.passed j (omega arith);
        long = long;
        long_leases = long_leases;
        blank = rest_all c.count c.publications L.publications is_blank blank_publication long bs bl;
        blank_leases = rest_all c.active c.leases L.leases is_blank_lease blank_lease long_leases ls dl;
      })
