-- S6 as a test: a column whose places past those in use are blank is what is in use, filled up.
-- Assumes nothing.
use Rattle.std.specs.Prelude.{Option, None, Some}
use Prim.Native.Nat.{ℕ, ◌+◌, ◌-◌, ◌≤◌}
use mathlib.Core.Path.{◌≡◌, refl}
use mathlib.Core.Bool.{Bool, true, false, not, false≢true}
use mathlib.Core.List.{List, [], ◌∷◌}
use native.Mathlib.Omega.{arith}
use lib.Dec.{eqb}
use lib.ListN.{length, take, get_or, get_or-eq_default}
use borrow.Author.Tests.{eqb-true, eq-eqb, not-true}
use Rattle.lists.specs.Column.{padded}
use Rattle.lists.specs.Every.{each_below}
use Rattle.lists.proofs.Every.{parts, whole, below_at, below_is}
use Rattle.lists.proofs.Column.{length-padded, get_or-padded, padded-take}
use Rattle.rules.specs.Table.{blank_publication, blank_lease}
use Rattle.rules.specs.SoundTest.{nobody, is_blank, is_blank_lease, rest_blank}
use Rattle.rules.specs.declared.Publication.{Publication}
use Rattle.rules.specs.declared.Lease.{Lease}
use Rattle.rules.specs.declared.Consumer.{Consumer}

-- a record that passes for blank is the blank one

same_publication : {o g q slot : ℕ} {v r : Bool} → o ≡ 0 → g ≡ 0 → q ≡ 0 → slot ≡ 0 → v ≡ false → r ≡ false
    → ◌≡◌ {A = Publication} (record { owner = record { 0 = o }; generation = g; port = record { 0 = q }; slot = slot; visible = v; retained = r }) blank_publication
same_publication a b c d e f = cc

pub blank_publication_is : (e : Publication) → is_blank e ≡ true → e ≡ blank_publication
blank_publication_is e h =
    let m =
    parts
    (eqb e.owner.0 0
    ∷ eqb e.generation 0
    ∷ eqb e.port.0 0
    ∷ eqb e.slot 0
    ∷ not e.visible
    ∷ not e.retained
    ∷ [])
    h in
    same_publication
    (eqb-true _ _ m.0)
    (eqb-true _ _ m.1.0)
    (eqb-true _ _ m.1.1.0)
    (eqb-true _ _ m.1.1.1.0)
    (not-true _ m.1.1.1.1.0)
    (not-true _ m.1.1.1.1.1.0)

nobody_is : (k : Option Consumer) → nobody k ≡ true → k ≡ None
nobody_is None h = refl
nobody_is (Some k) h = absurd (false≢true h)

same_lease : {i p : ℕ} {k : Option Consumer} → i ≡ 0 → p ≡ 0 → k ≡ None
    → ◌≡◌ {A = Lease} (record { id = record { 0 = i }; publication = record { 0 = p }; consumer = k }) blank_lease
same_lease a b c = cc

pub blank_lease_is : (l : Lease) → is_blank_lease l ≡ true → l ≡ blank_lease
blank_lease_is l h =
    let m = parts (eqb l.id.0 0 ∷ eqb l.publication.0 0 ∷ nobody l.consumer ∷ []) h in
    same_lease (eqb-true _ _ m.0) (eqb-true _ _ m.1.0) (nobody_is _ m.1.1.0)

module _ {A : Type 0} (size : ℕ) (blank : A → Bool) (d : A) where
  -- a column of its length that passes for blank from n on is its first n, filled up
  pub rest_blank_at : ((a : A) → blank a ≡ true → a ≡ d) → (n : ℕ) (xs : List A) → n ≤ size → rest_blank size n blank d xs ≡ true
      → padded size d (take n xs) ≡ xs
  rest_blank_at known n xs h e =
      let m = parts (eqb (length xs) size ∷ each_below (size - n) (λ k. blank (get_or xs (n + k) d)) ∷ []) e in
      padded-take size d n xs h (eqb-true (length xs) size m.0) (λ i k l.
      let q : n + (i - n) ≡ i = omega arith in
      known (get_or xs i d) (rw q at (below_at (λ k. blank (get_or xs (n + k) d)) (size - n) m.1.0 (i - n) (omega arith))))

  -- n records laid out pass
  pub rest_blank_is : blank d ≡ true → (n : ℕ) (xs : List A) → length xs ≡ n → n ≤ size → rest_blank size n blank d (padded size d xs) ≡ true
  rest_blank_is e n xs m h =
      whole (eqb (length (padded size d xs)) size ∷ each_below (size - n) (λ k. blank (get_or (padded size d xs) (n + k) d)) ∷ []) (
        eq-eqb _ _ (length-padded size d xs (omega arith)),
        (
          below_is (λ k. blank (get_or (padded size d xs) (n + k) d)) (size - n)
              (λ k l. rw (get_or-padded size d xs (n + k), get_or-eq_default xs d {n = n + k} (omega arith)) e),
          tt,
        ),
      )
