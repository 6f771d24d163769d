-- The op's word, filled up with blanks as `{:<width$}` does.
-- Assumes nothing.
use Prim.Native.Nat.{ℕ, zero, suc, ◌-◌}
use Prim.Native.Nat.compare
use mathlib.Core.Path.{◌≡◌, refl, ap, sym}
use mathlib.Core.List.{List, [], ◌∷◌, ◌++◌}
use lib.ListN.{length, get_or, replicate}
use lib.Utf8.{encode}
use native.Mathlib.Omega.{arith}
use Rattle.std.specs.Fmt.{take_chars, char_count, padded, styled_text, format_spec}
use Rattle.std.specs.List.{repeat}
use Rattle.std.proofs.lemmas.List.{append-nil}
use Rattle.text.specs.Ops.{op_words, row_of_op}
use Rattle.rules.specs.declared.Command.{Command}
use Rattle.text.specs.declared.Op.{Op}
use Rattle.text.specs.declared.Op.TheVariants.{Publish, Adopt, Acquire, Release, Revoke, Replace, Reclaim, Read, Observe, Resolve, Count}
use Rattle.blocks.specs.Blocks.{row_of, values_of, keys_of}
use Rattle.named.specs.Told.{key_values, pairs_text, filled, words_text}

-- no precision is set
abbrev no_cut : ℕ
no_cut = 18446744073709551615

repeat-one : (n : ℕ) → repeat {A = ℕ} n (32 ∷ []) ≡ replicate n 32
repeat-one zero = refl
repeat-one (suc n) = ap (λ x. 32 ∷ x) (repeat-one n)

module _ (w : List ℕ) (whole : take_chars no_cut w ≡ w) (plain : char_count w ≡ length w) where
  pub padded-left : (width : ℕ) → padded (format_spec 32 1 0 width no_cut) w ≡ filled width w
  unfolding padded encode
  padded-left width =
      let z : width - length w - 0 ≡ width - length w = omega arith in rw (whole, plain, z) (ap (λ x. w ++ x) (repeat-one (width - length w)))

  pub styled-left : (width : ℕ) → styled_text (format_spec 32 1 0 width no_cut) w ≡ filled width w
  styled-left zero = let z : 0 - length w ≡ 0 = omega arith in rw z (sym (append-nil w))
  styled-left (suc n) = rw (compare.suc-zero n) (padded-left (suc n))

word_whole : (op : Op) → take_chars no_cut (get_or op_words (row_of_op op) []) ≡ get_or op_words (row_of_op op) []
unfolding take_chars
word_whole Publish = refl
word_whole Adopt = refl
word_whole Acquire = refl
word_whole Release = refl
word_whole Revoke = refl
word_whole Replace = refl
word_whole Reclaim = refl
word_whole Read = refl
word_whole Observe = refl
word_whole Resolve = refl
word_whole Count = refl

word_plain : (op : Op) → char_count (get_or op_words (row_of_op op) []) ≡ length (get_or op_words (row_of_op op) [])
unfolding char_count
word_plain Publish = refl
word_plain Adopt = refl
word_plain Acquire = refl
word_plain Release = refl
word_plain Revoke = refl
word_plain Replace = refl
word_plain Reclaim = refl
word_plain Read = refl
word_plain Observe = refl
word_plain Resolve = refl
word_plain Count = refl

pub filled-word : (op : Op) (width : ℕ) → styled_text (format_spec 32 1 0 width no_cut) (get_or op_words (row_of_op op) []) ≡ filled width (get_or op_words (row_of_op op) [])
filled-word op width = styled-left (get_or op_words (row_of_op op) []) (word_whole op) (word_plain op) width

-- and the keys after it
pub told-words : (w ks vs sign between : List ℕ) (op : Op) (width : ℕ) (c : Command) → w ≡ get_or op_words (row_of_op op) [] → ks ≡ keys_of (row_of_op op) → vs ≡ values_of c → row_of_op op ≡ row_of c → styled_text (format_spec 32 1 0 width no_cut) w ++ 32 ∷ pairs_text sign between (key_values ks vs) ≡ words_text width sign between c
told-words w ks vs sign between op width c b d e f =
    rw (b, d, e, filled-word op width, f) refl
