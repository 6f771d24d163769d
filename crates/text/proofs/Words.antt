-- The word reader reads exactly its word.
-- Assumes nothing.
use Prim.Native.Nat.{ℕ, ◌+◌}
use mathlib.Core.Path.{◌≡◌, refl, sym, ◌∙◌}
use mathlib.Core.Bool.{Bool, true, false, cond}
use mathlib.Core.List.{List, [], ◌∷◌}
use native.Mathlib.Omega.{arith}
use lib.ListN.{drop}
use lib.Dec.{eqb}
use borrow.Author.Tests.{eqb-true, eqb-false}
use Rattle.std.specs.Prelude.{Ok, Err}
use Rattle.text.specs.Reading.{Means, Exact}
use Rattle.text.specs.Words.{TheWord, Found, compared, word_at, word_reading}
use Rattle.text.specs.declared.Misread.TheVariants.{Unfinished, Wrong}
use Rattle.text.proofs.FirstByte.{none_at_end, never, means_cons}

-- no word is empty that has a first byte
some : (c : ℕ) (cs : List ℕ) (a : Unit {0}) → TheWord (c ∷ cs) [] a → ⊥
some c cs a f = let z : ◌≡◌ {A = ℕ} 0 1 = cc in omega arith

compared_means : (w xs : List ℕ) (at : ℕ) → Means (TheWord w) xs at (word_reading w at (compared w xs))
unfolding compared
compared_means [] xs at = (record { text = []; says = tt; rest = xs; form = refl; here = refl }, refl, refl)
compared_means (c ∷ cs) [] at = (none_at_end (TheWord (c ∷ cs)) (some c cs), record { more = c ∷ cs; says = tt; form = refl })
compared_means (c ∷ cs) (x ∷ xs) at = go (eqb c x) refl (compared_means cs xs (at + 1))
  where
    longer : (b : Found) → Means (TheWord cs) xs (at + 1) (word_reading cs (at + 1) b) → Means (TheWord cs) xs (at + 1) (word_reading (c ∷ cs) at b)
    longer (Err Unfinished) m = m
    longer (Err Wrong) m = m
    longer (Ok u) m = (m.0, m.1, omega (arith, m.2))

    go : (b : Bool) → eqb c x ≡ b → Means (TheWord cs) xs (at + 1) (word_reading cs (at + 1) (compared cs xs))
        → Means (TheWord (c ∷ cs)) (x ∷ xs) at (word_reading (c ∷ cs) at (cond b (compared cs xs) (Err Wrong)))
    go true e m =
        let q = eqb-true c x e in
        means_cons (TheWord (c ∷ cs)) (TheWord cs) x (λ w a f. cc) (λ w a f. cc) (some c cs) xs at (word_reading (c ∷ cs) at (compared cs xs)) (longer (compared cs xs) m)
    go false e m = never (TheWord (c ∷ cs)) x xs at (λ w a f. eqb-false c x e (cc)) (some c cs)

pub word_exact : (w : List ℕ) → Exact (TheWord w) (λ s at. word_reading w at (word_at w s at))
unfolding word_at
word_exact w =
    record { apart = λ u v a b rest left f g e. (f ∙ sym g, refl); means = λ s at. compared_means w (drop at s) at }
