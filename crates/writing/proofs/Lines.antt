-- Lines that are written: their lengths, their bytes, and that each can be read.
-- Assumes nothing.
use Prim.Native.Nat.{ℕ, ◌+◌, ◌-◌, ◌^◌, ◌≤◌, ◌<◌}
use mathlib.Core.Path.{◌≡◌, refl}
use mathlib.Core.Bool.{true}
use mathlib.Core.List.{List, [], ◌∷◌, ◌++◌, append_assoc}
use native.Mathlib.Omega.{arith}
use lib.ListN.{length, take, drop, set, length-append}
use borrow.Rule.Slice.PartMut.{put_mid}
use Rattle.text.specs.Decimal.{line_feed, most_digits}
use Rattle.text.specs.Digits.{digits}
use Rattle.text.specs.Keys.{command_key, key_text, key_limit}
use Rattle.text.specs.Lines.{KeyLine, line_text}
use Rattle.writing.specs.Written.{over}
use Rattle.text.proofs.Digits.{digits_value, digits_most}
use Rattle.writing.proofs.Written.{Holds, as_long, piece_room, piece_put, byte_put}

pub line_length : (code n : ℕ) → length (line_text code n) ≡ length (key_text code) + length (digits n) + 1
unfolding line_text
line_length code n = simp length-append (omega arith)

pub line_most : (code n : ℕ) → length (line_text code n) ≤ length (key_text code) + 21
line_most code n = omega (arith, line_length code n, digits_most n)

-- a line that is written is a key line of its value
pub line_text_form : (code n : ℕ) → command_key code ≡ true → n ≤ key_limit code → n < 10 ^ most_digits → KeyLine code (line_text code n) n
unfolding line_text
line_text_form code n k l h = (
  k,
  record {
    first = key_text code;
    says = tt;
    second = digits n ++ line_feed ∷ [];
    form = refl;
    after = record { text = digits n; form = digits_value (key_limit code) n l h; ended = refl };
    text = refl;
  },
)

-- the key is written, the digits after it into the part that is lent ..
module _ (code n : ℕ) (out : List ℕ) (room : length (line_text code n) ≤ length out) {xs : List ℕ} {a : ℕ}
    (p : (a ≡ length (key_text code)) × (xs ≡ over (key_text code) out)) where
  key_held : Holds out xs a (key_text code)
  key_held = record { text = p.1; place = p.0 }

  pub digits_room : length (digits n) ≤ length (take (length xs - a) (drop a xs))
  digits_room = piece_room key_held (length (digits n)) (omega (arith, line_length code n))

  -- .. and then the line feed
  module _ {ys : List ℕ} {b : ℕ} (q : (b ≡ length (digits n)) × (ys ≡ over (digits n) (take (length xs - a) (drop a xs)))) where
    digits_held : Holds out (put_mid a (length xs - a) xs ys) (a + b) (key_text code ++ digits n)
    digits_held = piece_put key_held (digits n) q

    before_feed : length (key_text code ++ digits n) + 1 ≡ length (line_text code n)
    before_feed = omega (arith, length-append (key_text code) (digits n), line_length code n)

    pub feed_below : a + b < length out
    feed_below = omega (arith, digits_held.place, before_feed)

    pub feed_long : length (put_mid a (length xs - a) xs ys) ≡ length out
    feed_long = as_long digits_held (omega (arith, before_feed))

    pub feed_within : a + b < length (put_mid a (length xs - a) xs ys)
    feed_within = omega (arith, feed_below, feed_long)

    feed_held : Holds out (set (put_mid a (length xs - a) xs ys) (a + b) line_feed) (a + b + 1) ((key_text code ++ digits n) ++ line_feed ∷ [])
    feed_held = byte_put digits_held line_feed (omega (arith, before_feed))

    pub feed_put : (a + b + 1 ≡ length (line_text code n)) × (set (put_mid a (length xs - a) xs ys) (a + b) line_feed ≡ over (line_text code n) out)
    unfolding line_text
    feed_put = rw (← append_assoc (key_text code) (digits n) (line_feed ∷ [])) (feed_held.place, feed_held.text)
