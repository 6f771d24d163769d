-- What stands at a place of a list, after one element was set or added.
-- Assumes nothing.
use Prim.Native.Nat.{ℕ, zero, suc, ◌<◌}
use mathlib.Core.Path.{◌≡◌, refl, sym, ◌∙◌}
use mathlib.Core.Logic.{◌≢◌}
use mathlib.Core.Bool.{Bool, true, false, cond, false≢true}
use mathlib.Core.List.{List, [], ◌∷◌, ◌++◌}
use native.Mathlib.Omega.{arith}
use native.Mathlib.Nat.{not-suc-le-zero, le_of_suc-le-suc}
use lib.Dec.{eqb, eqb-zero-suc, eqb-suc-zero, eqb-suc-suc}
use lib.ListN.{length, get_or, set}
use borrow.Author.Tests.{eq-eqb, ne_eqb}

module _ {A : Type 0} where
  pub get_d_set : (l : List A) (i : ℕ) (a d : A) (j : ℕ) → i < length l → get_or (set l i a) j d ≡ cond (eqb i j) a (get_or l j d)
  get_d_set [] i a d j h = absurd (not-suc-le-zero h)
  get_d_set (x ∷ l) zero a d zero h = refl
  get_d_set (x ∷ l) zero a d (suc j) h = rw (eqb-zero-suc j)
  get_d_set (x ∷ l) (suc i) a d zero h = rw (eqb-suc-zero i)
  get_d_set (x ∷ l) (suc i) a d (suc j) h = rw (eqb-suc-suc i j) (get_d_set l i a d j (le_of_suc-le-suc h))

  -- what is related to itself everywhere, and to the new element at its place
  pub set_rel : (P : A → A → Type 0) (l : List A) (i : ℕ) (a d : A) → ((j : ℕ) → P (get_or l j d) (get_or l j d)) → P (get_or l i d) a
      → (j : ℕ) → P (get_or l j d) (get_or (set l i a) j d)
  set_rel P [] i a d same new j = same j
  set_rel P (x ∷ l) zero a d same new zero = new
  set_rel P (x ∷ l) zero a d same new (suc j) = same (suc j)
  set_rel P (x ∷ l) (suc i) a d same new zero = same zero
  set_rel P (x ∷ l) (suc i) a d same new (suc j) = set_rel P l i a d (λ j. same (suc j)) new j

  -- what is read of an element and stays as it was
  pub set_keeps : {B : Type 0} (f : A → B) (l : List A) (i : ℕ) (a d : A) → f a ≡ f (get_or l i d) → (j : ℕ) → f (get_or (set l i a) j d) ≡ f (get_or l j d)
  set_keeps f l i a d e = set_rel (λ x y. f y ≡ f x) l i a d (λ j. refl) e

  -- a fact of every place: of the old ones, and of the new one
  pub snoc_at : (Q : ℕ → A → Type 0) (l : List A) (a d : A) → ((j : ℕ) → j ≢ length l → Q j (get_or l j d)) → Q (length l) a
      → (j : ℕ) → Q j (get_or (l ++ (a ∷ [])) j d)
  snoc_at Q [] a d old new zero = new
  snoc_at Q [] a d old new (suc j) = old (suc j) (omega arith)
  snoc_at Q (x ∷ l) a d old new zero = old zero (omega arith)
  snoc_at Q (x ∷ l) a d old new (suc j) = snoc_at (λ j. Q (suc j)) l a d (λ j h. old (suc j) (omega arith)) new j

  pub get_or-snoc : (l : List A) (a d : A) (j : ℕ) → get_or (l ++ (a ∷ [])) j d ≡ cond (eqb (length l) j) a (get_or l j d)
  get_or-snoc l a d =
      snoc_at (λ j x. x ≡ cond (eqb (length l) j) a (get_or l j d)) l a d
      (λ j n. rw (ne_eqb (length l) j (λ e. n (sym e))))
      (rw (eq-eqb (length l) (length l) refl))

  -- a place where something stands that the default is not
  pub within : (f : A → Bool) (l : List A) (i : ℕ) (d : A) → f d ≡ false → f (get_or l i d) ≡ true → i < length l
  within f [] i d n e = absurd (false≢true (sym n ∙ e))
  within f (x ∷ l) zero d n e = omega arith
  within f (x ∷ l) (suc i) d n e = omega (arith, within f l i d n e)

  -- of those with a flag, no two have the same key: so still after one more, whose key none of them has
  pub snoc_apart : {K : Type 0} (flag : A → Bool) (key : A → K) (l : List A) (a d : A)
      → ((i j : ℕ) → flag (get_or l i d) ≡ true → flag (get_or l j d) ≡ true → key (get_or l i d) ≡ key (get_or l j d) → i ≡ j)
      → ((i : ℕ) → flag (get_or l i d) ≡ true → key (get_or l i d) ≡ key a → ⊥)
      → (i j : ℕ)
      → flag (get_or (l ++ (a ∷ [])) i d) ≡ true
      → flag (get_or (l ++ (a ∷ [])) j d) ≡ true
      → key (get_or (l ++ (a ∷ [])) i d) ≡ key (get_or (l ++ (a ∷ [])) j d)
      → i ≡ j
  snoc_apart flag key l a d apart free i j =
      snoc_at (λ i x. Apart i x j (get_or (l ++ (a ∷ [])) j d)) l a d
      (λ i n. snoc_at (Apart i (get_or l i d)) l a d (λ j m. apart i j) (λ u v k. absurd (free i u k)) j)
      (snoc_at (Apart (length l) a) l a d (λ j m u v k. absurd (free j v (sym k))) (λ u v k. refl) j)
      i
    where
      Apart : ℕ → A → ℕ → A → Type 0
      Apart i x j y = flag x ≡ true → flag y ≡ true → key x ≡ key y → i ≡ j
