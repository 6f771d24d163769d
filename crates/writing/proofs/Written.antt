-- Laws of texts written into an output.
-- Assumes nothing.
use Prim.Native.Nat.{ℕ, suc, ◌+◌, ◌-◌, ◌≤◌, ◌<◌}
use mathlib.Core.Path.{◌≡◌, refl, ap, ◌∙◌}
use mathlib.Core.List.{List, [], ◌∷◌, ◌++◌, append_assoc, append-nil}
use native.Mathlib.Omega.{arith}
use native.Mathlib.Nat.{not-suc-le-zero}
use native.Mathlib.Numerals.{add-one}
use lib.ListN.{length, take, drop, set, length-append, length-drop, drop_of_length-le}
use lib.Seq.{drop-cons, set-append_seam, append_snoc, take_all, take-append_seam, drop-append_seam, drop-drop}
use borrow.Rule.Slice.PartMut.{put_mid}
use Rattle.writing.specs.Written.{over, over_from}

pub over_length : (w out : List ℕ) → length w ≤ length out → length (over w out) ≡ length out
over_length w out h = simp (length-append, length-drop) (omega arith)

-- a text that is not yet there, its first byte
pub over_one : (x : ℕ) (out : List ℕ) → 0 < length out → set out 0 x ≡ over (x ∷ []) out
over_one x [] h = absurd (not-suc-le-zero h)
over_one x (y ∷ out) h = refl

-- one byte after the text
pub over_snoc : (w out : List ℕ) (x : ℕ) → length w < length out → set (over w out) (length w) x ≡ over (w ++ x ∷ []) out
over_snoc w out x h =
    let q : length (w ++ x ∷ []) ≡ suc (length w) = simp length-append (add-one (length w)) in
    rw (drop-cons out (length w) 0 h, set-append_seam, q, append_snoc)

-- a text after another
pub over_after : (v w out : List ℕ) → over_from (length v) w (over v out) ≡ over (v ++ w) out
over_after v w out = rw (take-append_seam, drop-append_seam, drop-drop, length-append, append_assoc)

-- a part of an output, from the place a to its end, is lent

part_is : (a : ℕ) (xs : List ℕ) → take (length xs - a) (drop a xs) ≡ drop a xs
part_is a xs = take_all (length xs - a) (drop a xs) (simp length-drop (omega arith))

pub part_length : (a : ℕ) (xs : List ℕ) → length (take (length xs - a) (drop a xs)) ≡ length xs - a
part_length a xs = ap length (part_is a xs) ∙ length-drop a xs

mid_is : (a : ℕ) (xs ys : List ℕ) → put_mid a (length xs - a) xs ys ≡ take a xs ++ ys
mid_is a xs ys =
    let e : drop (a + (length xs - a)) xs ≡ [] = drop_of_length-le xs {i = a + (length xs - a)} (omega arith) in
    rw (drop-drop, e, append-nil)

-- what comes back where a text was written into the part
pub lent_from : (a : ℕ) (w xs ys : List ℕ) → ys ≡ over w (take (length xs - a) (drop a xs)) → put_mid a (length xs - a) xs ys ≡ over_from a w xs
lent_from a w xs ys q = mid_is a xs ys ∙ ap (λ (l : List ℕ). take a xs ++ l) (q ∙ ap (over w) (part_is a xs))

-- and where a text stood before the part
pub lent_after : (v w out xs ys : List ℕ) (a : ℕ) → a ≡ length v → xs ≡ over v out → ys ≡ over w (take (length xs - a) (drop a xs))
    → put_mid a (length xs - a) xs ys ≡ over (v ++ w) out
lent_after v w out xs ys a e p q =
    lent_from a w xs ys q ∙ ap (over_from a w) p ∙ ap (λ (k : ℕ). over_from k w (over v out)) e ∙ over_after v w out

-- out is changed to xs, in which the text t is written and at is the place after it
pub record Holds (out xs : List ℕ) (at : ℕ) (t : List ℕ) : Type 0 where
  pub text : xs ≡ over t out
  pub place : at ≡ length t

module _ {out xs : List ℕ} {at : ℕ} {t : List ℕ} (h : Holds out xs at t) where
  pub as_long : length t ≤ length out → length xs ≡ length out
  as_long l = ap length h.text ∙ over_length t out l

  -- the part from there on: its room, and a text written into it
  pub piece_room : (k : ℕ) → length t + k ≤ length out → k ≤ length (take (length xs - at) (drop at xs))
  piece_room k l = omega (arith, part_length at xs, as_long (omega arith), h.place)

  pub piece_put : (w : List ℕ) {ys : List ℕ} {k : ℕ} → (k ≡ length w) × (ys ≡ over w (take (length xs - at) (drop at xs)))
      → Holds out (put_mid at (length xs - at) xs ys) (at + k) (t ++ w)
  piece_put w {ys} p =
      record {
        text = lent_after t w out xs ys at h.place h.text p.1;
        place = omega (arith, p.0, h.place, length-append t w);
      }

  -- and one byte
  pub byte_put : (x : ℕ) → length t < length out → Holds out (set xs at x) (at + 1) (t ++ x ∷ [])
  byte_put x l =
      record {
        text = rw (h.text, h.place) (over_snoc t out x l);
        place = omega (arith, h.place, length-append t (x ∷ []));
      }
