-- The slice of a column's records in use, and the slice of the rest, place by place.
-- Assumes nothing.
use Prim.Native.Nat.{ℕ, ◌+◌, ◌-◌, ◌≤◌, ◌<◌}
use mathlib.Core.Path.{◌≡◌, ◌∙◌}
use mathlib.Core.Bool.{Bool, true}
use mathlib.Core.List.{List}
use native.Mathlib.Omega.{arith}
use lib.ListN.{length, get_or, take, drop, length-take, length-drop}
use lib.Seq.{get_or-take}
use Rattle.std.proofs.lemmas.List.{get_or-drop, length-take-le}

module _ {A : Type 0} (n : ℕ) (xs : List A) where
  pub used_below : {i : ℕ} → i < length (take n xs) → i < n
  used_below {i} h =
      let l : length (take n xs) ≤ n = rw length-take (omega arith) in
      omega arith

  pub used_there : (d : A) (i : ℕ) → i < length (take n xs) → get_or (take n xs) i d ≡ get_or xs i d
  used_there d i h = get_or-take n xs i d (used_below h)

  pub used_over : {i : ℕ} → n ≤ length xs → length (take n xs) ≤ i → n ≤ i
  used_over k h = rw (length-take-le n xs k) at h

  module _ (size : ℕ) where
    abbrev pub rest : List A
    rest = take (size - n) (drop n xs)

    pub rest_below : {i : ℕ} → i < length rest → n + i < size
    rest_below {i} h =
        let l : length rest ≤ size - n = rw length-take (omega arith) in
        omega arith

    pub rest_there : (d : A) (i : ℕ) → i < length rest → get_or rest i d ≡ get_or xs (n + i) d
    rest_there d i h =
        let l = rest_below h in
        get_or-take (size - n) (drop n xs) i d (omega arith) ∙ get_or-drop n xs i d

    -- what holds at each place of the rest
    pub rest_all : (p : A → Bool) (d : A) {i : ℕ} → length xs ≡ size → ((j : ℕ) → j < i → p (get_or rest j d) ≡ true) → length rest ≤ i
        → (j : ℕ) → n ≤ j → j < size → p (get_or xs j d) ≡ true
    rest_all p d {i} long f over j h k =
        let m : size - n ≤ length (drop n xs) = rw length-drop (omega arith) in
        let l : length rest ≡ size - n = length-take-le (size - n) (drop n xs) m in
        let w : n + (j - n) ≡ j = omega arith in
        let e = f (j - n) (omega arith) in
        rw (rest_there d (j - n) (omega arith), w) at e
