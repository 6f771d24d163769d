-- Laws of the first element that passes a test, and of a list without one of its elements.
-- Assumes nothing.
use Prim.Native.Nat.{ℕ, suc, ◌+◌, ◌<◌}
use mathlib.Core.Path.{◌≡◌, refl}
use mathlib.Core.Bool.{Bool, true, false, ◌||◌, cond, true≢false, false≢true}
use mathlib.Core.List.{List, [], ◌∷◌, ◌++◌}
use mathlib.Core.Option.{none, some}
use native.Mathlib.Omega.{arith}
use lib.ListN.{length, get_or, length-append, length-drop}
use lib.Seq.{length-take-le}
use Rattle.lists.specs.Search.{some_pass, first_place, leave_out}
use Rattle.upstream.specs.Answers.{is_some}
use Rattle.upstream.specs.Registry.{first_that, without_at}

module _ {A : Type 0} (p : A → Bool) where
  -- the first that passes: whether there is one, and which it is

  pub is_some_first : (xs : List A) → is_some (first_that p xs) ≡ some_pass p xs
  is_some_first [] = refl
  is_some_first (x ∷ xs) = go (p x) (is_some_first xs)
    where
      go : (b : Bool) → is_some (first_that p xs) ≡ some_pass p xs → is_some (cond b (some x) (first_that p xs)) ≡ (b || some_pass p xs)
      go true h = refl
      go false h = h

  pub first_is : (xs : List A) (d : A) → some_pass p xs ≡ true → first_that p xs ≡ some (get_or xs (first_place p xs) d)
  first_is [] d e = absurd (false≢true e)
  first_is (x ∷ xs) d e = go (p x) (first_is xs d) e
    where
      go : (b : Bool) → (some_pass p xs ≡ true → first_that p xs ≡ some (get_or xs (first_place p xs) d)) → (b || some_pass p xs) ≡ true
          → cond b (some x) (first_that p xs) ≡ some (get_or (x ∷ xs) (cond b 0 (suc (first_place p xs))) d)
      go true f h = refl
      go false f h = f h

  pub first_none : (xs : List A) → some_pass p xs ≡ false → first_that p xs ≡ none
  first_none [] e = refl
  first_none (x ∷ xs) e = go (p x) (first_none xs) e
    where
      go : (b : Bool) → (some_pass p xs ≡ false → first_that p xs ≡ none) → (b || some_pass p xs) ≡ false
          → cond b (some x) (first_that p xs) ≡ none
      go true f h = absurd (true≢false h)
      go false f h = f h

  -- one more at the end, where none passed before
  pub first_snoc : (xs : List A) (a : A) → some_pass p xs ≡ false → p a ≡ true → first_that p (xs ++ (a ∷ [])) ≡ some a
  first_snoc [] a e h = rw h
  first_snoc (x ∷ xs) a e h = go (p x) (λ f. first_snoc xs a f h) e
    where
      go : (b : Bool) → (some_pass p xs ≡ false → first_that p (xs ++ (a ∷ [])) ≡ some a) → (b || some_pass p xs) ≡ false
          → cond b (some x) (first_that p (xs ++ (a ∷ []))) ≡ some a
      go true f k = absurd (true≢false k)
      go false f k = f k

  -- the list without those that pass

  pub first_gone : (xs : List A) → first_that p (leave_out p xs) ≡ none
  first_gone [] = refl
  first_gone (x ∷ xs) = go (p x) refl (first_gone xs)
    where
      go : (b : Bool) → p x ≡ b → first_that p (leave_out p xs) ≡ none → first_that p (cond b (leave_out p xs) (x ∷ leave_out p xs)) ≡ none
      go true e h = h
      go false e h = rw e h

-- leaving out other elements does not change what is found
pub first_left : {A : Type 0} (p q : A → Bool) → ((x : A) → q x ≡ true → p x ≡ false) → (xs : List A) → first_that p (leave_out q xs) ≡ first_that p xs
first_left p q f [] = refl
first_left {A} p q f (x ∷ xs) = go (q x) (f x) (first_left p q f xs)
  where
    go : (b : Bool) → (b ≡ true → p x ≡ false) → first_that p (leave_out q xs) ≡ first_that p xs
        → first_that p (cond b (leave_out q xs) (x ∷ leave_out q xs)) ≡ cond (p x) (some x) (first_that p xs)
    go true g h = rw (g refl) h
    go false g h = rw h

-- a list without one of its elements
pub length-without : {A : Type 0} (xs : List A) (i : ℕ) → i < length xs → length (without_at i xs) + 1 ≡ length xs
length-without xs i h = rw (length-append, length-drop, length-take-le i xs (omega arith)) (omega arith)
