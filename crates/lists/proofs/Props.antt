-- What holds of every element has one proof at most, where each of them has.
-- Assumes nothing.
use mathlib.Core.HLevel.{Unit-prop, ×_prop}
use mathlib.Core.List.{List, [], ◌∷◌}
use Rattle.lists.specs.Every.{Every}

pub every_prop : {A : Type 0} (P : A → Type 0) → ((x : A) → IsProp (P x)) → (xs : List A) → IsProp (Every P xs)
every_prop P p [] = Unit-prop
every_prop P p (x ∷ xs) = ×_prop (p x) (every_prop P p xs)
