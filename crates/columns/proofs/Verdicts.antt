-- What is told by the place, the publication, the verdict and the lookup that the code has in hand.
-- Assumes nothing.
use Rattle.std.specs.Prelude.{Option, Some, None, Result, Ok, Err}
use Prim.Native.Nat.{ℕ}
use mathlib.Core.Path.{◌≡◌, refl, sym, ◌∙◌}
use mathlib.Core.Bool.{Bool, true, false, cond}
use mathlib.Core.List.{List}
use native.Mathlib.Omega.{arith}
use lib.Dec.{leb}
use lib.ListN.{length}
use Rattle.lists.specs.Search.{some_pass, first_place}
use Rattle.rules.specs.Answers as rows
use Rattle.rules.specs.Table.{at}
use Rattle.rules.specs.declared.Publication.{Publication}
use Rattle.rules.specs.declared.PublicationId.{PublicationId}
use Rattle.rules.specs.declared.Refusal.{Refusal}
use Rattle.columns.specs.Verdicts.{place_of, known_of, verdict_of, lookup_of}

module _ {A : Type 0} (p : A → Bool) (xs : List A) {w : Option ℕ} (e : w ≡ place_of p xs) where
  pub none_there : w ≡ None → some_pass p xs ≡ false
  unfolding place_of
  none_there q = go (some_pass p xs) (sym q ∙ e)
    where
      go : (b : Bool) → None ≡ cond b (Some (first_place p xs)) None → b ≡ false
      go true f = let z : ◌≡◌ {A = ℕ} 0 1 = cc in absurd (omega arith)
      go false f = refl

  pub one_there : {i : ℕ} → w ≡ Some i → some_pass p xs ≡ true
  unfolding place_of
  one_there {i} q = go (some_pass p xs) (sym q ∙ e)
    where
      go : (b : Bool) → Some i ≡ cond b (Some (first_place p xs)) None → b ≡ true
      go true f = refl
      go false f = let z : ◌≡◌ {A = ℕ} 0 1 = cc in absurd (omega arith)

  pub place_there : {i : ℕ} → w ≡ Some i → first_place p xs ≡ i
  unfolding place_of
  place_there {i} q = go (some_pass p xs) (sym q ∙ e)
    where
      go : (b : Bool) → Some i ≡ cond b (Some (first_place p xs)) None → first_place p xs ≡ i
      go true f = cc
      go false f = let z : ◌≡◌ {A = ℕ} 0 1 = cc in absurd (omega arith)

module _ (es : List Publication) (p : PublicationId) {w : Option Publication} (k : w ≡ known_of es p) where
  pub not_known : w ≡ None → leb (length es) p.0 ≡ true
  unfolding known_of
  not_known q = go (leb (length es) p.0) (sym q ∙ k)
    where
      go : (b : Bool) → None ≡ cond b None (Some (at es p)) → b ≡ true
      go true f = refl
      go false f = let z : ◌≡◌ {A = ℕ} 0 1 = cc in absurd (omega arith)

  pub known_there : {e : Publication} → w ≡ Some e → leb (length es) p.0 ≡ false
  unfolding known_of
  known_there {e} q = go (leb (length es) p.0) (sym q ∙ k)
    where
      go : (b : Bool) → Some e ≡ cond b None (Some (at es p)) → b ≡ false
      go true f = let z : ◌≡◌ {A = ℕ} 0 1 = cc in absurd (omega arith)
      go false f = refl

  pub known_is : {e : Publication} → w ≡ Some e → at es p ≡ e
  unfolding known_of
  known_is {e} q = go (leb (length es) p.0) (sym q ∙ k)
    where
      go : (b : Bool) → Some e ≡ cond b None (Some (at es p)) → at es p ≡ e
      go true f = let z : ◌≡◌ {A = ℕ} 0 1 = cc in absurd (omega arith)
      go false f = cc

module _ (v : rows.Verdict) {w : Result (Unit {0}) Refusal} (e : w ≡ verdict_of v) where
  pub told_pass : w ≡ Ok tt → v ≡ rows.pass
  told_pass q = go v (sym q ∙ e)
    where
      go : (v : rows.Verdict) → Ok tt ≡ verdict_of v → v ≡ rows.pass
      go rows.pass f = refl
      go (rows.stop r) f = let z : ◌≡◌ {A = ℕ} 0 1 = cc in absurd (omega arith)

  pub told_stop : {r : Refusal} → w ≡ Err r → v ≡ rows.stop r
  told_stop {r} q = go v (sym q ∙ e)
    where
      go : (v : rows.Verdict) → Err r ≡ verdict_of v → v ≡ rows.stop r
      go rows.pass f = let z : ◌≡◌ {A = ℕ} 0 1 = cc in absurd (omega arith)
      go (rows.stop s) f = cc

module _ (v : rows.Verdict) (n : ℕ) {w : Result ℕ Refusal} (e : w ≡ lookup_of v n) where
  pub looked_stop : {r : Refusal} → w ≡ Err r → v ≡ rows.stop r
  looked_stop {r} q = go v (sym q ∙ e)
    where
      go : (v : rows.Verdict) → Err r ≡ lookup_of v n → v ≡ rows.stop r
      go rows.pass f = let z : ◌≡◌ {A = ℕ} 0 1 = cc in absurd (omega arith)
      go (rows.stop s) f = cc

  pub looked_pass : {i : ℕ} → w ≡ Ok i → v ≡ rows.pass
  looked_pass {i} q = go v (sym q ∙ e)
    where
      go : (v : rows.Verdict) → Ok i ≡ lookup_of v n → v ≡ rows.pass
      go rows.pass f = refl
      go (rows.stop s) f = let z : ◌≡◌ {A = ℕ} 0 1 = cc in absurd (omega arith)

  pub looked_at : {i : ℕ} → w ≡ Ok i → n ≡ i
  looked_at {i} q = go v (sym q ∙ e)
    where
      go : (v : rows.Verdict) → Ok i ≡ lookup_of v n → n ≡ i
      go rows.pass f = cc
      go (rows.stop s) f = let z : ◌≡◌ {A = ℕ} 0 1 = cc in absurd (omega arith)
