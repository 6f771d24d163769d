-- Laws of a column: a list, filled up with blanks to a fixed length.
-- Assumes nothing.
use Prim.Native.Nat.{ℕ, zero, suc, ◌+◌, ◌-◌, ◌≤◌, ◌<◌}
use mathlib.Core.Path.{◌≡◌, refl, sym, ap, ◌∙◌}
use mathlib.Core.List.{List, [], ◌∷◌, ◌++◌}
use native.Mathlib.Omega.{arith}
use lib.ListN.{length, get_or, take, drop, set, replicate, take-append-drop, length-take, length-drop, length-append, length-replicate, length-set, get_or-eq_default}
use lib.Seq.{length-take-le, take-append_seam, append_snoc, set-append_seam, set-append_left, get_or-drop, ext_get_or}
use Rattle.lists.specs.Column.{padded}

module _ {A : Type 0} (b : A) where
  -- blanks are what stands past the end as well

  pub get_or-blanks : (k i : ℕ) → get_or (replicate k b) i b ≡ b
  get_or-blanks zero i = refl
  get_or-blanks (suc k) zero = refl
  get_or-blanks (suc k) (suc i) = get_or-blanks k i

  pub get_or-before_blanks : (xs : List A) (k i : ℕ) → get_or (xs ++ replicate k b) i b ≡ get_or xs i b
  get_or-before_blanks [] k i = get_or-blanks k i
  get_or-before_blanks (x ∷ xs) k zero = refl
  get_or-before_blanks (x ∷ xs) k (suc i) = get_or-before_blanks xs k i

module _ {A : Type 0} (n : ℕ) (b : A) (xs : List A) where
  pub length-padded : length xs ≤ n → length (padded n b xs) ≡ n
  unfolding padded
  length-padded h = simp (length-append, length-replicate) (omega arith)

  pub get_or-padded : (i : ℕ) → get_or (padded n b xs) i b ≡ get_or xs i b
  unfolding padded
  get_or-padded i = get_or-before_blanks b xs (n - length xs) i

  pub take-padded : take (length xs) (padded n b xs) ≡ xs
  unfolding padded
  take-padded = take-append_seam xs (replicate (n - length xs) b)

  pub take-padded_at : (k : ℕ) → length xs ≡ k → take k (padded n b xs) ≡ xs
  take-padded_at k e = rw (← e) take-padded

  -- one more, at the first blank
  pub padded-snoc : (a : A) → length xs < n → padded n b (xs ++ (a ∷ [])) ≡ set (padded n b xs) (length xs) a
  unfolding padded
  padded-snoc a h =
      let k : ℕ = n - length (xs ++ (a ∷ [])) in
      let e : n - length xs ≡ suc k = omega (arith, length-append xs (a ∷ [])) in
      append_snoc xs a (replicate k b) ∙ sym (rw e (set-append_seam xs b (replicate k b) a))

  -- one changed
  pub padded-set : (i : ℕ) (a : A) → i < length xs → padded n b (set xs i a) ≡ set (padded n b xs) i a
  unfolding padded
  padded-set i a h = rw length-set (sym (set-append_left xs (replicate (n - length xs) b) i a h))

-- a column whose first n are in use

module _ {A : Type 0} (size : ℕ) (b : A) (n : ℕ) (l : List A) where
  length-first : length (take n l) ≤ n
  length-first = rw length-take (omega arith)

  -- it is those, filled up, where each place past them is blank
  pub padded-take : n ≤ size → length l ≡ size → ((i : ℕ) → n ≤ i → i < size → get_or l i b ≡ b) → padded size b (take n l) ≡ l
  unfolding padded
  padded-take h k f =
      let r : length (drop n l) ≡ size - n = rw (length-drop n l, k) in
      let e : drop n l ≡ replicate (size - n) b =
      ext_get_or b (drop n l) (replicate (size - n) b) (r ∙ sym (length-replicate (size - n) b))
      (λ i m. get_or-drop n l i b ∙ f (n + i) (omega arith) (omega arith) ∙ sym (get_or-blanks b (size - n) i)) in
      rw (length-take-le n l (omega arith), ← e) (take-append-drop n l)

  module _ (e : padded size b (take n l) ≡ l) where
    -- every place, also past its end, shows what the first n show there
    pub get_or-used : (i : ℕ) → get_or l i b ≡ get_or (take n l) i b
    get_or-used i = ap (λ (m : List A). get_or m i b) (sym e) ∙ get_or-padded size b (take n l) i

    pub get_or-unused : (i : ℕ) → n ≤ i → get_or l i b ≡ b
    get_or-unused i k = get_or-used i ∙ get_or-eq_default (take n l) b (omega (arith, length-first))

    pub length-column : n ≤ size → length l ≡ size
    length-column h = sym (ap length e) ∙ length-padded size b (take n l) (omega (arith, length-first))

    pub length-used : n ≤ size → length (take n l) ≡ n
    length-used h = length-take-le n l (omega (arith, length-column h))
