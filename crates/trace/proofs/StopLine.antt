-- The last line of a report: its length, and how it is written piece by piece.
-- Assumes nothing.
use Prim.Native.Nat.{ℕ, ◌+◌, ◌-◌, ◌≤◌, ◌<◌}
use mathlib.Core.Path.{◌≡◌, ◌∙◌}
use mathlib.Core.List.{List, [], ◌∷◌, ◌++◌, append_assoc}
use native.Mathlib.Omega.{arith}
use lib.ListN.{length, take, drop, set, length-append}
use borrow.Rule.Slice.PartMut.{put_mid}
use Rattle.lists.specs.Letters.{letters}
use Rattle.rules.specs.Refusals.{name_of}
use Rattle.text.specs.Decimal.{line_feed}
use Rattle.text.specs.Digits.{digits}
use Rattle.text.proofs.Digits.{digits_most}
use Rattle.writing.specs.Written.{over}
use Rattle.writing.proofs.Names.{name_most}
use Rattle.writing.proofs.Written.{Holds, as_long, piece_room, piece_put, byte_put}
use Rattle.trace.specs.Report.{line_room, stop_line}

pub stop_line_length : (n : ℕ) → length (stop_line n) ≡ 7 + length (digits n) + length (name_of n)
unfolding stop_line
stop_line_length n = simp length-append (omega arith)

-- no last line is longer than its room
pub stop_line_fits : (n : ℕ) → length (stop_line n) ≤ line_room
stop_line_fits n = omega (arith, stop_line_length n, digits_most n, name_most n)

-- the line, piece by piece: stop= ..
module _ (n : ℕ) (out : List ℕ) (room : line_room ≤ length out) {x₁ : List ℕ} {a : ℕ} (p : (a ≡ 5) × (x₁ ≡ over (letters "stop=") out)) where
  word_held : Holds out x₁ a (letters "stop=")
  word_held = record { text = p.1; place = p.0 }

  pub number_room : length (digits n) ≤ length (take (length x₁ - a) (drop a x₁))
  number_room = piece_room word_held (length (digits n)) (omega (arith, digits_most n, room))

  -- .. the digits and a blank ..
  module _ {y₁ : List ℕ} {b : ℕ} (q : (b ≡ length (digits n)) × (y₁ ≡ over (digits n) (take (length x₁ - a) (drop a x₁)))) where
    abbrev x₂ : List ℕ
    x₂ = put_mid a (length x₁ - a) x₁ y₁

    abbrev x₃ : List ℕ
    x₃ = set x₂ (a + b) 32

    abbrev numbered : List ℕ
    numbered = letters "stop=" ++ digits n

    number_held : Holds out x₂ (a + b) numbered
    number_held = piece_put word_held (digits n) q

    numbered_length : length numbered ≡ 5 + length (digits n)
    numbered_length = length-append (letters "stop=") (digits n)

    pub blank_place : a + b ≤ 25
    blank_place = omega (arith, number_held.place, numbered_length, digits_most n)

    pub blank_below : a + b < length x₂
    blank_below = omega (arith, blank_place, as_long number_held (omega (arith, numbered_length, digits_most n, room)), room)

    blank_held : Holds out x₃ (a + b + 1) (numbered ++ 32 ∷ [])
    blank_held = byte_put number_held 32 (omega (arith, numbered_length, digits_most n, room))

    blank_length : length (numbered ++ 32 ∷ []) ≡ 6 + length (digits n)
    blank_length = length-append numbered (32 ∷ []) ∙ omega (arith, numbered_length)

    pub name_start : a + b + 1 ≤ length x₃
    name_start = omega (arith, blank_place, as_long blank_held (omega (arith, blank_length, digits_most n, room)), room)

    pub name_room : 12 ≤ length (take (length x₃ - (a + b + 1)) (drop (a + b + 1) x₃))
    name_room = piece_room blank_held 12 (omega (arith, blank_length, digits_most n, room))

    -- .. the name and a line feed
    module _ {y₂ : List ℕ} {e : ℕ} (r : (e ≡ length (name_of n)) × (y₂ ≡ over (name_of n) (take (length x₃ - (a + b + 1)) (drop (a + b + 1) x₃)))) where
      abbrev x₄ : List ℕ
      x₄ = put_mid (a + b + 1) (length x₃ - (a + b + 1)) x₃ y₂

      abbrev named : List ℕ
      named = (numbered ++ 32 ∷ []) ++ name_of n

      name_held : Holds out x₄ (a + b + 1 + e) named
      name_held = piece_put blank_held (name_of n) r

      named_length : length named + 1 ≡ length (stop_line n)
      named_length = omega (arith, length-append (numbered ++ 32 ∷ []) (name_of n), blank_length, stop_line_length n)

      pub feed_place : a + b + 1 + e < line_room
      feed_place = omega (arith, name_held.place, named_length, stop_line_fits n)

      name_long : length x₄ ≡ length out
      name_long = as_long name_held (omega (arith, named_length, stop_line_fits n, room))

      pub feed_below : a + b + 1 + e < length x₄
      feed_below = omega (arith, feed_place, name_long, room)

      pieces : named ++ line_feed ∷ [] ≡ stop_line n
      unfolding stop_line
      pieces = rw (append_assoc, append_assoc, append_assoc)

      line_held : Holds out (set x₄ (a + b + 1 + e) line_feed) (a + b + 1 + e + 1) (named ++ line_feed ∷ [])
      line_held = byte_put name_held line_feed (omega (arith, named_length, stop_line_fits n, room))

      pub line_put : (a + b + 1 + e + 1 ≡ length (stop_line n)) × (set x₄ (a + b + 1 + e) line_feed ≡ over (stop_line n) out)
      line_put = rw (← pieces) (line_held.place, line_held.text)
