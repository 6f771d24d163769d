-- A port that no visible publication holds, and a slot that no retained one holds: upstream's words and the tests' words agree.
-- Assumes nothing.
use Prim.Native.Nat.{ℕ, ◌<◌}
use mathlib.Core.Path.{◌≡◌, refl, sym, ap, ◌∙◌}
use mathlib.Core.Bool.{true, false, true≢false}
use mathlib.Core.Logic.{◌≢◌, ◌↔◌}
use lib.Dec.{eqb}
use lib.ListN.{length}
use borrow.Author.Tests.{eqb-true, eq-eqb}
use Rattle.lists.proofs.Bools.{and_left, and_right}
use Rattle.lists.proofs.Place.{within}
use Rattle.lists.proofs.Search.{none_passes, not_found}
use Rattle.rules.specs.Table.{Registry, blank_publication}
use Rattle.rules.specs.Conditions.{visible_on, retained_in, port_held, slot_held}
use Rattle.rules.specs.declared.Port.{Port}
use Rattle.upstream.specs.Registry.{publications, publication_at}
use Rattle.upstream.proofs.Numbers.{same_port}

module _ (t : Registry) (q : Port) where
  abbrev pub PortFree : Type 0
  PortFree = (i : ℕ) → i < length (publications t) → (publication_at t i).visible ≡ true → (publication_at t i).port ≢ q

  -- a publication is visible on the port

  pub visible_there : (i : ℕ) → visible_on q (publication_at t i) ≡ true
      → (i < length (publications t)) × ((publication_at t i).visible ≡ true) × ((publication_at t i).port ≡ q)
  visible_there i e = (
    within (visible_on q) (publications t) i blank_publication refl e,
    and_left (publication_at t i).visible (eqb (publication_at t i).port.0 q.0) e,
    same_port (publication_at t i).port q
        (eqb-true (publication_at t i).port.0 q.0 (and_right (publication_at t i).visible (eqb (publication_at t i).port.0 q.0) e)),
  )

  on : (i : ℕ) → (publication_at t i).visible ≡ true → (publication_at t i).port ≡ q → visible_on q (publication_at t i) ≡ true
  on i v e = rw (v, eq-eqb (publication_at t i).port.0 q.0 (ap (λ (p : Port). p.0) e))

  pub port_free_exactly : (port_held t q ≡ false) ↔ PortFree
  port_free_exactly = (
    λ e i h v k. true≢false (sym (on i v k) ∙ none_passes (visible_on q) (publications t) blank_publication refl e i),
    λ f.
        not_found (visible_on q) (publications t) blank_publication
        (λ i e. let there = visible_there i e in f i there.0 there.1 there.2),
  )

module _ (t : Registry) (n : ℕ) where
  abbrev pub SlotFree : Type 0
  SlotFree = (i : ℕ) → i < length (publications t) → (publication_at t i).retained ≡ true → (publication_at t i).slot ≢ n

  pub slot_free_exactly : (slot_held t n ≡ false) ↔ SlotFree
  slot_free_exactly = (
    λ e i h v k.
        let inside : retained_in n (publication_at t i) ≡ true = rw (v, eq-eqb (publication_at t i).slot n k) in
        true≢false (sym inside ∙ none_passes (retained_in n) (publications t) blank_publication refl e i),
    λ f.
        not_found (retained_in n) (publications t) blank_publication
        (λ i e.
        f i (within (retained_in n) (publications t) i blank_publication refl e)
        (and_left (publication_at t i).retained (eqb (publication_at t i).slot n) e)
        (eqb-true (publication_at t i).slot n (and_right (publication_at t i).retained (eqb (publication_at t i).slot n) e))),
  )
