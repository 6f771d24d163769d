-- Laws of searches.
-- Assumes nothing.
use Prim.Native.Nat.{ℕ, zero, suc, ◌+◌, ◌≤◌}
use mathlib.Core.Path.{◌≡◌, refl, sym, ◌∙◌}
use mathlib.Core.Bool.{Bool, true, false, ◌||◌, cond, false≢true}
use mathlib.Core.List.{List, [], ◌∷◌, ◌++◌}
use native.Mathlib.Omega.{arith}
use lib.ListN.{length, get_or}
use Rattle.lists.specs.Search.{some_pass, first_place, how_many, leave_out}
use Rattle.lists.specs.Every.{Every}
use Rattle.lists.proofs.Bools.{either, or_left, or_right}

module _ {A : Type 0} (p : A → Bool) where
  -- where none passes, none does at any place
  pub none_passes : (xs : List A) (d : A) → p d ≡ false → some_pass p xs ≡ false → (i : ℕ) → p (get_or xs i d) ≡ false
  none_passes [] d n e i = n
  none_passes (x ∷ xs) d n e zero = or_left (p x) (some_pass p xs) e
  none_passes (x ∷ xs) d n e (suc i) = none_passes xs d n (or_right (p x) (some_pass p xs) e) i

  pub none_of : (xs : List A) → some_pass p xs ≡ false → Every (λ x. p x ≡ false) xs
  none_of [] e = tt
  none_of (x ∷ xs) e = (or_left (p x) (some_pass p xs) e, none_of xs (or_right (p x) (some_pass p xs) e))

  pub none_found : (xs : List A) → Every (λ x. p x ≡ false) xs → some_pass p xs ≡ false
  none_found [] h = refl
  none_found (x ∷ xs) h = rw h.0 (none_found xs h.1)

  -- where one passes, the first that does stands at its place
  pub first_passes : (xs : List A) (d : A) → some_pass p xs ≡ true → p (get_or xs (first_place p xs) d) ≡ true
  first_passes [] d e = absurd (false≢true e)
  first_passes (x ∷ xs) d e = go (p x) refl (first_passes xs d) e
    where
      go : (b : Bool) → p x ≡ b → (some_pass p xs ≡ true → p (get_or xs (first_place p xs) d) ≡ true) → (b || some_pass p xs) ≡ true
          → p (get_or (x ∷ xs) (cond b 0 (suc (first_place p xs))) d) ≡ true
      go true f r h = f
      go false f r h = r h

  -- and what holds of every element holds of it
  pub first_every : (P : A → Type 0) (xs : List A) (d : A) → Every P xs → some_pass p xs ≡ true → P (get_or xs (first_place p xs) d)
  first_every P [] d h e = absurd (false≢true e)
  first_every P (x ∷ xs) d h e = go (p x) (first_every P xs d h.1) e
    where
      go : (b : Bool) → (some_pass p xs ≡ true → P (get_or xs (first_place p xs) d)) → (b || some_pass p xs) ≡ true
          → P (get_or (x ∷ xs) (cond b 0 (suc (first_place p xs))) d)
      go true r e = h.0
      go false r e = r e

  -- whoever stands at a place and passes is found
  pub found : (xs : List A) (d : A) → p d ≡ false → (i : ℕ) → p (get_or xs i d) ≡ true → some_pass p xs ≡ true
  found [] d n i e = absurd (false≢true (sym n ∙ e))
  found (x ∷ xs) d n zero e = rw e
  found (x ∷ xs) d n (suc i) e = rw (found xs d n i e) (either (λ b. (b || true) ≡ true) refl refl (p x))

  pub some_snoc : (xs : List A) (a : A) → some_pass p (xs ++ (a ∷ [])) ≡ (some_pass p xs || p a)
  some_snoc [] a = either (λ b. (b || false) ≡ b) refl refl (p a)
  some_snoc (x ∷ xs) a = rw (some_snoc xs a) (either (λ b. (b || (some_pass p xs || p a)) ≡ ((b || some_pass p xs) || p a)) refl refl (p x))

  -- how many pass

  pub how_many-snoc : (xs : List A) (a : A) → how_many p (xs ++ (a ∷ [])) ≡ how_many p xs + cond (p a) 1 0
  how_many-snoc [] a = omega arith
  how_many-snoc (x ∷ xs) a = omega (arith, how_many-snoc xs a)

  pub how_many-below : (xs : List A) → how_many p xs ≤ length xs
  how_many-below [] = omega arith
  how_many-below (x ∷ xs) = omega (arith, how_many-below xs, either (λ b. cond b 1 0 ≤ 1) (omega arith) (omega arith) (p x))

  -- the list without those that pass

  pub every_left : (P : A → Type 0) (xs : List A) → Every P xs → Every P (leave_out p xs)
  every_left P [] h = tt
  every_left P (x ∷ xs) h = go (p x) (every_left P xs h.1)
    where
      go : (b : Bool) → Every P (leave_out p xs) → Every P (cond b (leave_out p xs) (x ∷ leave_out p xs))
      go true r = r
      go false r = (h.0, r)

  pub length-left : (xs : List A) → length (leave_out p xs) ≤ length xs
  length-left [] = omega arith
  length-left (x ∷ xs) = go (p x) (length-left xs)
    where
      go : (b : Bool) → length (leave_out p xs) ≤ length xs → length (cond b (leave_out p xs) (x ∷ leave_out p xs)) ≤ suc (length xs)
      go true h = omega arith
      go false h = omega arith

  -- where nobody at any place passes, none is found
  pub not_found : (xs : List A) (d : A) → ((i : ℕ) → p (get_or xs i d) ≡ true → ⊥) → some_pass p xs ≡ false
  not_found xs d f = go (some_pass p xs) refl
    where
      go : (b : Bool) → some_pass p xs ≡ b → b ≡ false
      go true e = absurd (f (first_place p xs) (first_passes xs d e))
      go false e = refl
