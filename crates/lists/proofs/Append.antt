-- Laws of lists put one after the other.
-- Assumes nothing.
use mathlib.Core.Path.{◌≡◌, refl}
use mathlib.Core.Logic.{◌⊎◌, inl, inr}
use mathlib.Core.List.{List, [], ◌∷◌, ◌++◌}

module _ {A : Type 0} where
  pub append_cancel : (w xs ys : List A) → w ++ xs ≡ w ++ ys → xs ≡ ys
  append_cancel [] xs ys e = e
  append_cancel (a ∷ w) xs ys e = append_cancel w xs ys (cc)

  -- of two beginnings of one list, one begins the other
  pub append_split : (xs more w rest : List A) → xs ++ more ≡ w ++ rest → ((t : List A) × (xs ≡ w ++ t)) ⊎ ((t : List A) × (w ≡ xs ++ t))
  append_split [] more w rest e = inr (w, refl)
  append_split (x ∷ xs) more [] rest e = inl (x ∷ xs, refl)
  append_split (x ∷ xs) more (y ∷ w) rest e = go (append_split xs more w rest (cc))
    where
      go : ((t : List A) × (xs ≡ w ++ t)) ⊎ ((t : List A) × (w ≡ xs ++ t)) → ((t : List A) × (x ∷ xs ≡ y ∷ w ++ t)) ⊎ ((t : List A) × (y ∷ w ≡ x ∷ xs ++ t))
      go (inl p) = let q = p.1 in inl (p.0, cc)
      go (inr p) = let q = p.1 in inr (p.0, cc)
