-- Lists of groups, each started by one of a kind.
-- Assumes nothing.
use Prim.Native.Nat.{ℕ}
use mathlib.Core.Path.{◌≡◌, refl, sym, ap, ◌∙◌}
use mathlib.Core.Bool.{Bool, true, false, true≢false}
use mathlib.Core.List.{List, [], ◌∷◌, ◌++◌}
use native.Mathlib.Omega.{arith}
use Rattle.lists.specs.Every.{Every}

-- one list after the other

abbrev pub joined : {A : Type 0} → List (List A) → List A
joined [] = []
joined (g ∷ gs) = g ++ joined gs

pub every_append : {A : Type 0} (P : A → Type 0) (xs ys : List A) → Every P xs → Every P ys → Every P (xs ++ ys)
every_append P [] ys h k = k
every_append P (x ∷ xs) ys h k = (h.0, every_append P xs ys h.1 k)

pub every_joined : {A : Type 0} (P : A → Type 0) (gs : List (List A)) → Every (Every P) gs → Every P (joined gs)
every_joined P [] h = tt
every_joined P (g ∷ gs) h = every_append P g (joined gs) h.0 (every_joined P gs h.1)

module _ {A : Type 0} (first : A → Bool) where
  -- one that starts the group, and others that do not

  abbrev pub Group : List A → Type 0
  Group [] = ⊥
  Group (x ∷ xs) = (first x ≡ true) × Every (λ y. first y ≡ false) xs

  -- empty, or started by one that starts a group

  Starts : List A → Type 0
  Starts [] = Unit {0}
  Starts (x ∷ xs) = first x ≡ true

  joined_starts : (gs : List (List A)) → Every Group gs → Starts (joined gs)
  unfolding Starts
  joined_starts [] h = tt
  joined_starts ([] ∷ gs) h = absurd h.0
  joined_starts ((x ∷ xs) ∷ gs) h = h.0.0

  not_started : (rest : List A) (y : A) (zs : List A) → first y ≡ false → Starts rest → rest ≡ y ∷ zs → ⊥
  unfolding Starts
  not_started [] y zs n s e = let z : ◌≡◌ {A = ℕ} 0 1 = cc in omega arith
  not_started (x ∷ rest) y zs n s e =
      let q : x ≡ y = cc in
      true≢false (sym s ∙ ap first q ∙ n)

  others_apart : (xs ys rest left : List A) → Every (λ y. first y ≡ false) xs → Every (λ y. first y ≡ false) ys → Starts rest → Starts left
      → xs ++ rest ≡ ys ++ left → (xs ≡ ys) × (rest ≡ left)
  others_apart [] [] rest left f g s t e = (refl, e)
  others_apart [] (y ∷ ys) rest left f g s t e = absurd (not_started rest y (ys ++ left) g.0 s e)
  others_apart (x ∷ xs) [] rest left f g s t e = absurd (not_started left x (xs ++ rest) f.0 t (sym e))
  others_apart (x ∷ xs) (y ∷ ys) rest left f g s t e =
      let p : x ≡ y = cc in
      let u : xs ++ rest ≡ ys ++ left = cc in
      let r = others_apart xs ys rest left f.1 g.1 s t u in
      let q = r.0 in
      (cc, r.1)

  -- groups that are joined can be told apart
  pub groups_apart : (gs hs : List (List A)) → Every Group gs → Every Group hs → joined gs ≡ joined hs → gs ≡ hs
  groups_apart [] [] p q e = refl
  groups_apart [] ([] ∷ hs) p q e = absurd q.0
  groups_apart [] ((y ∷ ys) ∷ hs) p q e = absurd (let z : ◌≡◌ {A = ℕ} 0 1 = cc in let w : ⊥ = omega arith in w)
  groups_apart ([] ∷ gs) hs p q e = absurd p.0
  groups_apart ((x ∷ xs) ∷ gs) [] p q e = absurd (let z : ◌≡◌ {A = ℕ} 0 1 = cc in let w : ⊥ = omega arith in w)
  groups_apart ((x ∷ xs) ∷ gs) ([] ∷ hs) p q e = absurd q.0
  groups_apart ((x ∷ xs) ∷ gs) ((y ∷ ys) ∷ hs) p q e =
      let a : x ≡ y = cc in
      let u : xs ++ joined gs ≡ ys ++ joined hs = cc in
      let r = others_apart xs ys (joined gs) (joined hs) p.0.1 q.0.1 (joined_starts gs p.1) (joined_starts hs q.1) u in
      let b = r.0 in
      let d = groups_apart gs hs p.1 q.1 r.1 in
      cc
