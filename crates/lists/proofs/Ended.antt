-- A list up to the first of a kind.
-- Assumes nothing.
use mathlib.Core.Path.{◌≡◌, refl}
use mathlib.Core.List.{List, [], ◌∷◌, ◌++◌}
use Rattle.lists.specs.Every.{Every}

-- what stands before the first x, and what after it
pub ended_apart : {A : Type 0} (x : A) (xs ys rest left : List A) → Every (λ a. a ≡ x → ⊥) xs → Every (λ a. a ≡ x → ⊥) ys
    → xs ++ x ∷ rest ≡ ys ++ x ∷ left → (xs ≡ ys) × (rest ≡ left)
ended_apart x [] [] rest left f g e = (refl, cc)
ended_apart x [] (y ∷ ys) rest left f g e = absurd (g.0 (cc))
ended_apart x (a ∷ xs) [] rest left f g e = absurd (f.0 (cc))
ended_apart x (a ∷ xs) (y ∷ ys) rest left f g e =
    let p : a ≡ y = cc in
    let t : xs ++ x ∷ rest ≡ ys ++ x ∷ left = cc in
    let r = ended_apart x xs ys rest left f.1 g.1 t in
    let q = r.0 in
    (cc, r.1)
