-- Laws of marks at `key % size`: where the mark of a key is clear, no earlier place that is held has that key.
-- Assumes nothing.
use Prim.Native.Nat.{ℕ, ◌+◌, ◌<◌, ◌%◌}
use mathlib.Core.Path.{◌≡◌, refl, sym, ap, ◌∙◌}
use mathlib.Core.Bool.{Bool, true, false, ◌&&◌, ◌||◌, and-false}
use mathlib.Core.List.{List}
use native.Mathlib.Nat.{mod-lt}
use borrow.Author.Count.{below_none, below_more}
use borrow.Author.Tests.{eqb-true, eqb-false, ne_eqb}
use lib.Dec.{eqb}
use lib.ListN.{length, get_or, set, replicate, length-set, length-replicate}
use lib.Seq.{get_or-set_same, get_or-set_other}
use Rattle.lists.proofs.Bools.{either, or_left, or_right}

module _ (size : ℕ) (held : ℕ → Bool) (key : ℕ → ℕ) where
  -- no place before i that is held has the key q
  abbrev pub Free : ℕ → ℕ → Type 0
  Free q i = (j : ℕ) → j < i → (held j && eqb (key j) q) ≡ false

  pub record Marks (seen : List Bool) (i : ℕ) : Type 0 where
    pub room : length seen ≡ size
    pub clear : (q : ℕ) → get_or seen (q % size) false ≡ false → Free q i

  pub unmarked : Marks (replicate size false) 0
  unmarked = record { room = length-replicate size false; clear = λ q e. below_none (λ j. (held j && eqb (key j) q) ≡ false) }

  module _ (some : 0 < size) (seen : List Bool) (i : ℕ) (m : Marks seen i) where
    abbrev here : ℕ
    here = key i % size

    abbrev next : List Bool
    next = set seen here (held i || get_or seen here false)

    module _ (q : ℕ) (h : get_or next (q % size) false ≡ false) where
      both_clear : q % size ≡ here → (held i || get_or seen here false) ≡ false
      both_clear k =
          let l : here < length seen = rw m.room (mod-lt (key i) some) in
          sym (get_or-set_same seen here (held i || get_or seen here false) false l) ∙ (rw k at h)

      was_clear : (b : Bool) → eqb (q % size) here ≡ b → get_or seen (q % size) false ≡ false
      was_clear true k = let z = eqb-true (q % size) here k in rw z (or_right (held i) (get_or seen here false) (both_clear z))
      was_clear false k =
          sym (get_or-set_other seen here (q % size) (held i || get_or seen here false) false (eqb-false (q % size) here k)) ∙ h

      not_here : (b : Bool) → eqb (q % size) here ≡ b → (held i && eqb (key i) q) ≡ false
      not_here true k = rw (or_left (held i) (get_or seen here false) (both_clear (eqb-true (q % size) here k)))
      not_here false k =
          rw (ne_eqb (key i) q (λ z. eqb-false (q % size) here k (ap (λ (n : ℕ). n % size) (sym z))), and-false (held i))

    -- one place further
    pub marked : Marks next (i + 1)
    marked =
        record {
          room = length-set seen here (held i || get_or seen here false) ∙ m.room;
          clear = λ q h.
              below_more (λ j. (held j && eqb (key j) q) ≡ false) i
              (m.clear q (was_clear q h (eqb (q % size) here) refl))
              (not_here q h (eqb (q % size) here) refl);
        }

  module _ {seen : List Bool} {i : ℕ} (m : Marks seen i) {at : ℕ} (here : at ≡ key i % size) where
    -- the mark is clear, or place i is not held: no look back is needed
    pub mark_clear : (get_or seen at false && held i) ≡ false → held i ≡ true → Free (key i) i
    mark_clear e h = m.clear (key i) (rw here at (go (get_or seen at false) (rw h at e)))
      where
        go : (b : Bool) → (b && true) ≡ false → b ≡ false
        go true f = f
        go false f = refl

    -- place i is marked
    pub mark_set : 0 < size → {v : Bool} → v ≡ (held i || get_or seen at false) → Marks (set seen at v) (i + 1)
    mark_set some e = rw (e, here) (marked some seen i m)

    pub mark_below : 0 < size → at < size
    mark_below some = rw here (mod-lt (key i) some)

  -- where no earlier place that is held has the key of place i, none clashes with it
  pub no_clash : (i : ℕ) → (held i ≡ true → Free (key i) i) → (j : ℕ) → j < i → ((held j && held i) && eqb (key j) (key i)) ≡ false
  no_clash i f j h = go (held i) f
    where
      go : (b : Bool) → (b ≡ true → Free (key i) i) → ((held j && b) && eqb (key j) (key i)) ≡ false
      go true f = either (λ a. (a && eqb (key j) (key i)) ≡ false → ((a && true) && eqb (key j) (key i)) ≡ false) (λ e. e) (λ e. e) (held j) (f refl j h)
      go false f = either (λ a. ((a && false) && eqb (key j) (key i)) ≡ false) refl refl (held j)

  -- a place before i that is held and has the key of place i clashes with it
  pub clashes : (i j : ℕ) → held i ≡ true → (held j && eqb (key j) (key i)) ≡ true → ((held j && held i) && eqb (key j) (key i)) ≡ true
  clashes i j h e = rw h (either (λ a. (a && eqb (key j) (key i)) ≡ true → ((a && true) && eqb (key j) (key i)) ≡ true) (λ e. e) (λ e. e) (held j) e)
