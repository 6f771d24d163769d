-- The test of a store's soundness is its soundness.
-- Assumes nothing.
use Prim.Native.Nat.{ℕ, ◌<◌}
use mathlib.Core.Path.{◌≡◌, refl, sym, subst, ◌∙◌}
use mathlib.Core.Bool.{Bool, true, false, ◌||◌}
use mathlib.Core.List.{List, [], ◌∷◌}
use mathlib.Core.Logic.{◌↔◌}
use native.Mathlib.Omega.{arith}
use lib.Dec.{eqb}
use lib.ListN.{length, take}
use borrow.Author.Tests.{eqb-true, eq-eqb}
use Rattle.lists.specs.Column.{padded}
use Rattle.lists.specs.Every.{every}
use Rattle.lists.proofs.Bools.{otherwise, or_else}
use Rattle.lists.proofs.Every.{Passing, parts, whole, below_at, below_is, every_place}
use Rattle.lists.proofs.Column.{get_or-padded, length-used}
use Rattle.rules.specs.Limits.{Limits}
use Rattle.rules.specs.Table.{Store, publication_of, payload_of}
use Rattle.rules.specs.Columns.{RegistryColumns, StoreColumns, used, filled}
use Rattle.rules.specs.Sound.{S5, S6, RegistryColumnsSound, StoreSound, StoreColumnsSound}
use Rattle.rules.specs.SoundTest.{rest_blank, registry_test, s5_test, s6_test, store_test}
use Rattle.rules.proofs.Blanks.{rest_blank_at, rest_blank_is}
use Rattle.rules.proofs.Columns.{count_used, count_room}
use Rattle.rules.proofs.TestedRegistry.{filled_registry_tested, registry_tested}

-- The tests of each clause, as lists.

module _ (L : Limits) (c : StoreColumns) where
  abbrev clauses : List Bool
  clauses = registry_test L c.registry ∷ s5_test c ∷ s6_test L c ∷ []

  abbrev rest_of : List ℕ → Bool
  rest_of xs = rest_blank L.publications c.registry.count (λ n. eqb n 0) 0 xs

  abbrev rests : List Bool
  rests = rest_of c.payloads ∷ rest_of c.revisions ∷ []

-- A table laid out in columns: every place shows what the lists in use show there.

module _ (L : Limits) (s : Store) where
  abbrev columns : StoreColumns
  columns = filled L s

  abbrev count : ℕ
  count = length s.registry.publications

  abbrev cell_tests : ℕ → List Bool
  cell_tests i =
      eqb (publication_of s (record { 0 = i })).slot i
      ∷ ((publication_of s (record { 0 = i })).retained || eqb (payload_of s (record { 0 = i })) 0)
      ∷ []

  s5_is : S5 s → s5_test columns ≡ true
  s5_is k =
      simp get_or-padded
      (below_is (λ i. every (cell_tests i)) count
      (λ i h.
      whole (cell_tests i) (
        eq-eqb _ _ (k.slots (record { 0 = i }) h),
        (or_else _ _ (λ r. eq-eqb _ _ (k.payloads (record { 0 = i }) r)), tt),
      )))

  s6_is : StoreSound L s → s6_test L columns ≡ true
  s6_is k = whole (rests L columns) (rest_is s.payloads k.s5.payload_each, (rest_is s.revisions k.s5.revision_each, tt))
    where
      rest_is : (xs : List ℕ) → length xs ≡ count → rest_of L columns (padded L.publications 0 xs) ≡ true
      rest_is xs e = rest_blank_is L.publications (λ n. eqb n 0) 0 refl count xs e k.registry.s1.publication_room

  filled_is : StoreSound L s → store_test L columns ≡ true
  unfolding store_test
  filled_is k = whole (clauses L columns) ((filled_registry_tested L s.registry).1 k.registry, (s5_is k.s5, (s6_is k, tt)))

  module _ (payload_each : length s.payloads ≡ count) (revision_each : length s.revisions ≡ count) where
    s5_at : s5_test columns ≡ true → S5 s
    s5_at e =
        record {
          slots = λ p h. eqb-true _ _ (passing p.0 h).0;
          payloads =
              λ p. every_place (λ i h. (publication_of s (record { 0 = i })).retained ≡ false → h ≡ 0) s.payloads 0
              (λ i r. refl)
              (λ i h r. eqb-true _ _ (otherwise _ _ (passing i (omega arith)).1.0 r))
              p.0;
          payload_each = payload_each;
          revision_each = revision_each;
        }
      where
        passing : (i : ℕ) → i < count → Passing (cell_tests i)
        passing i h = parts (cell_tests i) (below_at (λ i. every (cell_tests i)) count (simp get_or-padded at e) i h)

    filled_at : store_test L columns ≡ true → StoreSound L s
    unfolding store_test
    filled_at e =
        let m = parts (clauses L columns) e in
        record { registry = (filled_registry_tested L s.registry).0 m.0; s5 = s5_at m.1.0 }

-- Any columns: those that pass are what is in use, laid out.

same_columns : {a b : RegistryColumns} {p q v w : List ℕ} → a ≡ b → p ≡ q → v ≡ w
    → ◌≡◌ {A = StoreColumns} (record { registry = a; payloads = p; revisions = v }) (record { registry = b; payloads = q; revisions = w })
same_columns x y z = cc

module _ (L : Limits) (c : StoreColumns) where
  module _ (r : RegistryColumnsSound L c.registry) (xs : List ℕ) (e : rest_of L c xs ≡ true) where
    column_at : padded L.publications 0 (take c.registry.count xs) ≡ xs
    column_at =
        rest_blank_at L.publications (λ n. eqb n 0) 0 (λ n h. eqb-true n 0 h) c.registry.count xs (count_room L c.registry r) e

    column_each : length (take c.registry.count xs) ≡ length (take c.registry.count c.registry.publications)
    column_each = length-used _ _ _ _ column_at (count_room L c.registry r) ∙ sym (count_used L c.registry r)

  columns_at : store_test L c ≡ true → StoreColumnsSound L c
  unfolding store_test
  columns_at e =
      let m = parts (clauses L c) e in
      let r = (registry_tested L c.registry).0 m.0 in
      let b = parts (rests L c) m.1.1.0 in
      let s6 : S6 L c = same_columns r.s6 (column_at r c.payloads b.0) (column_at r c.revisions b.1.0) in
      record {
        in_use =
            filled_at L (used c) (column_each r c.payloads b.0) (column_each r c.revisions b.1.0)
            (subst (λ (c : StoreColumns). store_test L c ≡ true) (sym s6) e);
        s6 = s6;
      }

  pub store_tested : (store_test L c ≡ true) ↔ StoreColumnsSound L c
  store_tested = (columns_at, λ s. subst (λ (c : StoreColumns). store_test L c ≡ true) s.s6 (filled_is L (used c) s.in_use))
