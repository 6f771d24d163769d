-- What each finding of the test of a store says of the whole: its registry is damaged, a cell doesn't fit, or all is right.
-- Assumes nothing.
use Prim.Native.Nat.{ℕ, ◌≤◌, ◌<◌}
use mathlib.Core.Path.{◌≡◌, sym, ◌∙◌}
use mathlib.Core.Bool.{Bool, true, false, ◌&&◌, ◌||◌, false≢true}
use mathlib.Core.List.{List, [], ◌∷◌}
use native.Mathlib.Omega.{arith}
use lib.Dec.{eqb}
use lib.ListN.{length, get_or}
use Rattle.lists.specs.Every.{every}
use Rattle.lists.proofs.Bools.{and_left, and_right, never_true}
use Rattle.lists.proofs.Every.{parts, whole, below_at, below_is}
use Rattle.rules.specs.Limits.{Limits}
use Rattle.rules.specs.Table.{blank_publication}
use Rattle.rules.specs.Columns.{RegistryColumns, StoreColumns}
use Rattle.rules.specs.SoundTest.{rest_blank, registry_test, s5_test, s6_test, store_test}
use Rattle.rules.specs.declared.Publication.{Publication}
use Rattle.columns.proofs.Clauses.{clauses, rest_at, rest_is}

-- what is asked of a cell in use, and of any other

abbrev pub own_cell : List Publication → List ℕ → ℕ → Bool
own_cell es ps i = every (eqb (get_or es i blank_publication).slot i ∷ ((get_or es i blank_publication).retained || eqb (get_or ps i 0) 0) ∷ [])

abbrev pub Own : List Publication → List ℕ → ℕ → Type 0
Own es ps i = own_cell es ps i ≡ true

abbrev pub BlankCell : List ℕ → List ℕ → ℕ → Type 0
BlankCell ps rs i = (eqb (get_or ps i 0) 0 && eqb (get_or rs i 0) 0) ≡ true

-- no more records in use than places
pub room_of : (L : Limits) (c : RegistryColumns) → registry_test L c ≡ true → c.count ≤ L.publications
room_of L c e = (clauses L c e).room

module _ (L : Limits) (c : StoreColumns) where
  abbrev rest_of : List ℕ → Bool
  rest_of xs = rest_blank L.publications c.registry.count (λ n. eqb n 0) 0 xs

  abbrev parts_of : List Bool
  parts_of = registry_test L c.registry ∷ s5_test c ∷ s6_test L c ∷ []

  failing : (store_test L c ≡ true → ⊥) → false ≡ store_test L c
  failing f = sym (never_true (store_test L c) f)

  pub damaged_registry : registry_test L c.registry ≡ false → false ≡ store_test L c
  unfolding store_test
  damaged_registry e = rw e

  pub not_own : (i : ℕ) → i < c.registry.count → own_cell c.registry.publications c.payloads i ≡ false → false ≡ store_test L c
  unfolding store_test
  not_own i h e = failing (λ t. false≢true (sym e ∙ below_at (own_cell c.registry.publications c.payloads) c.registry.count (parts parts_of t).1.0 i h))

  pub not_blank_cell : (i : ℕ) → c.registry.count ≤ i → i < L.publications → (eqb (get_or c.payloads i 0) 0 && eqb (get_or c.revisions i 0) 0) ≡ false → false ≡ store_test L c
  unfolding store_test
  not_blank_cell i h l e =
      failing
      (λ t.
      let b = parts (rest_of c.payloads ∷ rest_of c.revisions ∷ []) (parts parts_of t).1.1.0 in
      let p = rest_at L.publications c.registry.count (λ n. eqb n 0) 0 c.payloads b.0 i h l in
      let r = rest_at L.publications c.registry.count (λ n. eqb n 0) 0 c.revisions b.1.0 i h l in
      false≢true (sym e ∙ rw (p, r)))

  pub store_right : registry_test L c.registry ≡ true → length c.payloads ≡ L.publications → length c.revisions ≡ L.publications
      → {i : ℕ} → ((j : ℕ) → j < i → Own c.registry.publications c.payloads j) → c.registry.count ≤ i
      → {b : ℕ} → ((j : ℕ) → c.registry.count ≤ j → j < b → BlankCell c.payloads c.revisions j) → L.publications ≤ b
      → true ≡ store_test L c
  unfolding store_test
  store_right t payload-long revision-long cells ci blanks bl =
      sym
      (whole parts_of (
        t,
        (
          below_is (own_cell c.registry.publications c.payloads) c.registry.count (λ j h. cells j (omega arith)),
          (
            whole (rest_of c.payloads ∷ rest_of c.revisions ∷ []) (
              rest_is L.publications c.registry.count (λ n. eqb n 0) 0 c.payloads payload-long
                  (λ j h l. and_left (eqb (get_or c.payloads j 0) 0) (eqb (get_or c.revisions j 0) 0) (blanks j h (omega arith))),
              (
                rest_is L.publications c.registry.count (λ n. eqb n 0) 0 c.revisions revision-long
                    (λ j h l. and_right (eqb (get_or c.payloads j 0) 0) (eqb (get_or c.revisions j 0) 0) (blanks j h (omega arith))),
                tt,
              ),
            ),
            tt,
          ),
        ),
      ))
