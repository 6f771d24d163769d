-- A function with an inverse: two things in other words.
-- Assumes nothing.
use Rattle.std.specs.Prelude.{◌≡◌}

pub record Bijection {A B : Type 0} (f : A → B) : Type 0 where
  pub back : B → A
  pub back_after : (a : A) → back (f a) ≡ a
  pub after_back : (b : B) → f (back b) ≡ b
