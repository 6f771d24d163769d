-- Keys with their values, told one after the other.
-- Assumes nothing.
use Prim.Native.Nat.{ℕ, zero, suc, ◌+◌, ◌<◌}
use mathlib.Core.Path.{◌≡◌, refl, ap, sym, ◌∙◌}
use mathlib.Core.Bool.{true, false}
use mathlib.Core.List.{List, [], ◌∷◌, ◌++◌}
use lib.ListN.{length, get_or, take}
use native.Mathlib.Omega.{arith}
use borrow.Author.Tests.{ltb-true, ltb-false}
use Rattle.std.specs.Prelude.{cond, eqb, ltb}
use Rattle.std.proofs.lemmas.List.{append-nil, flat_map_more}
use Rattle.lists.proofs.Bools.{either}
use Rattle.text.specs.Keys.{no_key}
use Rattle.blocks.specs.Answers.{KeyValue, ◌is◌}
use Rattle.named.specs.Told.{key_values, pair_text, pairs_text}

-- the first so many places have a key
abbrev pub Named : List ℕ → ℕ → Type 0
Named ks k = (j : ℕ) → j < k → eqb (get_or ks j 0) no_key ≡ false

-- what those come to
abbrev pub so_far : List ℕ → List ℕ → ℕ → List KeyValue
so_far ks vs k = key_values (take k ks) (take k vs)

-- what stands before the next
abbrev pub lead_after : List KeyValue → List ℕ → List ℕ
lead_after [] between = []
lead_after (l ∷ ls) between = between

-- a place without a key ends them
pub so_far-end : (ks vs : List ℕ) (k : ℕ) → Named ks k → eqb (get_or ks k 0) no_key ≡ true → so_far ks vs k ≡ key_values ks vs
so_far-end [] vs zero h e = refl
so_far-end [] vs (suc k) h e = refl
so_far-end (x ∷ ks) [] zero h e = refl
so_far-end (x ∷ ks) [] (suc k) h e = refl
so_far-end (x ∷ ks) (v ∷ vs) zero h e = rw e refl
so_far-end (x ∷ ks) (v ∷ vs) (suc k) h e =
    ap (λ ls. cond (eqb x no_key) [] ((x is v) ∷ ls)) (so_far-end ks vs k (λ j l. h (suc j) (omega arith)) e)

-- one more
pub so_far-more : (ks vs : List ℕ) (k : ℕ) → Named ks k → k < length ks → k < length vs → eqb (get_or ks k 0) no_key ≡ false → so_far ks vs (suc k) ≡ so_far ks vs k ++ (get_or ks k 0 is get_or vs k 0) ∷ []
so_far-more [] vs k h l m e = absurd (omega arith)
so_far-more (x ∷ ks) [] k h l m e = absurd (omega arith)
so_far-more (x ∷ ks) (v ∷ vs) zero h l m e = rw e refl
so_far-more (x ∷ ks) (v ∷ vs) (suc k) h l m e =
    rw (h 0 (omega arith)) (ap (λ ls. (x is v) ∷ ls) (so_far-more ks vs k (λ j u. h (suc j) (omega arith)) (omega arith) (omega arith) e))

-- told after what was told
pub pairs_text-more : (sign between : List ℕ) (ls : List KeyValue) (m : KeyValue) → pairs_text sign between ls ++ (lead_after ls between ++ pair_text sign m) ≡ pairs_text sign between (ls ++ m ∷ [])
pairs_text-more sign between [] m = sym (append-nil _)
pairs_text-more sign between (l ∷ ls) m =
    flat_map_more (λ n. between ++ pair_text sign n) (pair_text sign l) ls m

pub lead_after-more : (between : List ℕ) (ls : List KeyValue) (m : KeyValue) → lead_after (ls ++ m ∷ []) between ≡ between
lead_after-more between [] m = refl
lead_after-more between (l ∷ ls) m = refl

-- one place more has a key
pub Named-more : (ks : List ℕ) (k : ℕ) → Named ks k → eqb (get_or ks k 0) no_key ≡ false → Named ks (k + 1)
Named-more ks k h e j l =
    either (λ b. ltb j k ≡ b → eqb (get_or ks j 0) no_key ≡ false)
    (λ t. h j (ltb-true j k t))
    (λ f. let s : j ≡ k = omega (arith, ltb-false j k f) in rw s e)
    (ltb j k) refl

-- the pairs so far, and what stands before the next, after one more
module _ (ks vs : List ℕ) (k : ℕ) (h : Named ks k) (l : k < length ks) (m : k < length vs) (e : eqb (get_or ks k 0) no_key ≡ false) (sign between : List ℕ) where
  pub so_far-one_more : so_far ks vs (k + 1) ≡ so_far ks vs k ++ (get_or ks k 0 is get_or vs k 0) ∷ []
  so_far-one_more =
      let n : k + 1 ≡ suc k = omega arith in ap (so_far ks vs) n ∙ so_far-more ks vs k h l m e

  pub lead-one_more : between ≡ lead_after (so_far ks vs (k + 1)) between
  lead-one_more = sym (ap (λ ls. lead_after ls between) so_far-one_more ∙ lead_after-more between _ _)

  pub text-one_more : {lead : List ℕ} → lead ≡ lead_after (so_far ks vs k) between → pairs_text sign between (so_far ks vs k) ++ (lead ++ pair_text sign (get_or ks k 0 is get_or vs k 0)) ≡ pairs_text sign between (so_far ks vs (k + 1))
  text-one_more q =
      ap (λ w. pairs_text sign between (so_far ks vs k) ++ (w ++ pair_text sign (get_or ks k 0 is get_or vs k 0))) q ∙ pairs_text-more sign between (so_far ks vs k) (get_or ks k 0 is get_or vs k 0) ∙ ap (pairs_text sign between) (sym so_far-one_more)
