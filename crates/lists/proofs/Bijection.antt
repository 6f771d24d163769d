-- What a function with an inverse takes to one thing is one.
-- Assumes nothing.
use mathlib.Core.Path.{◌≡◌, sym, ap, ◌∙◌}
use Rattle.lists.specs.Bijection.{Bijection}

pub same_back : {A B : Type 0} {f : A → B} → Bijection f → (a b : A) → f a ≡ f b → a ≡ b
same_back k a b e = sym (k.back_after a) ∙ ap k.back e ∙ k.back_after b
