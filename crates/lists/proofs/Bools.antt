-- Laws of tests taken together.
-- Assumes nothing.
use mathlib.Core.Path.{◌≡◌, refl}
use mathlib.Core.Bool.{Bool, true, false, ◌&&◌, ◌||◌, true≢false, false≢true}
use mathlib.Core.Logic.{◌⊎◌, inl, inr}
use Rattle.lists.specs.Every.{implies}

pub either : (P : Bool → Type 0) → P true → P false → (b : Bool) → P b
either P x y true = x
either P x y false = y

-- two tests that pass in the same cases are one
pub same_test : (a b : Bool) → (a ≡ true → b ≡ true) → (b ≡ true → a ≡ true) → a ≡ b
same_test true true f g = refl
same_test true false f g = absurd (false≢true (f refl))
same_test false true f g = absurd (false≢true (g refl))
same_test false false f g = refl

module _ (a b : Bool) where
  pub or_left : (a || b) ≡ false → a ≡ false
  or_left = either (λ a. (a || b) ≡ false → a ≡ false) (λ e. e) (λ e. refl) a

  pub or_right : (a || b) ≡ false → b ≡ false
  or_right = either (λ a. (a || b) ≡ false → b ≡ false) (λ e. absurd (true≢false e)) (λ e. e) a

  pub and_left : (a && b) ≡ true → a ≡ true
  and_left = either (λ a. (a && b) ≡ true → a ≡ true) (λ e. refl) (λ e. e) a

  pub and_right : (a && b) ≡ true → b ≡ true
  and_right = either (λ a. (a && b) ≡ true → b ≡ true) (λ e. e) (λ e. absurd (false≢true e)) a

  pub implied : implies a b ≡ true → a ≡ true → b ≡ true
  implied = either (λ a. implies a b ≡ true → a ≡ true → b ≡ true) (λ e h. e) (λ e h. absurd (false≢true h)) a

  pub imply : (a ≡ true → b ≡ true) → implies a b ≡ true
  imply = either (λ a. (a ≡ true → b ≡ true) → implies a b ≡ true) (λ f. f refl) (λ f. refl) a

  pub otherwise : (a || b) ≡ true → a ≡ false → b ≡ true
  otherwise = either (λ a. (a || b) ≡ true → a ≡ false → b ≡ true) (λ e h. absurd (true≢false h)) (λ e h. e) a

  pub or_else : (a ≡ false → b ≡ true) → (a || b) ≡ true
  or_else = either (λ a. (a ≡ false → b ≡ true) → (a || b) ≡ true) (λ f. refl) (λ f. f refl) a

  pub not_both : (a ≡ true → b ≡ true → ⊥) → (a && b) ≡ false
  not_both =
      either (λ a. (a ≡ true → b ≡ true → ⊥) → (a && b) ≡ false)
      (λ f. either (λ b. (b ≡ true → ⊥) → b ≡ false) (λ g. absurd (g refl)) (λ g. refl) b (f refl))
      (λ f. refl)
      a

pub true_or_false : (b : Bool) → (b ≡ true) ⊎ (b ≡ false)
true_or_false true = inl refl
true_or_false false = inr refl

pub never_true : (b : Bool) → (b ≡ true → ⊥) → b ≡ false
never_true b = either (λ b. (b ≡ true → ⊥) → b ≡ false) (λ f. absurd (f refl)) (λ f. refl) b
