-- The key line reader reads exactly the key lines of its code.
-- Assumes nothing.
use Prim.Native.Nat.{ℕ, ◌+◌, ◌≤◌, ◌<◌}
use mathlib.Core.Path.{◌≡◌, refl, sym, ap, ◌∙◌}
use mathlib.Core.Bool.{Bool, true, false, cond, true≢false}
use mathlib.Core.List.{List, []}
use native.Mathlib.Omega.{arith}
use lib.ListN.{length, drop, length-append}
use Rattle.std.specs.Prelude.{Ok, Err}
use Rattle.text.specs.Reading.{Means, Exact, Then, then_read}
use Rattle.text.specs.Decimal.{ValueLine}
use Rattle.text.specs.Value.{value_at}
use Rattle.text.specs.Words.{TheWord, Found, word_at, word_reading}
use Rattle.text.specs.Keys.{command_key, key_text, key_limit}
use Rattle.text.specs.Lines.{KeyLine, after_word, line_at, key_line_at}
use Rattle.text.specs.declared.Misread.TheVariants.{Wrong}
use Rattle.text.proofs.Reading.{means_same, within}
use Rattle.text.proofs.Sequence.{then_exact}
use Rattle.text.proofs.Values.{value_exact, some_value}
use Rattle.text.proofs.Words.{word_exact}

module _ (w : List ℕ) (lim : ℕ) where
  -- the word's answer and then the value's
  after_is : (b : Found) (s : List ℕ) (at : ℕ)
      → then_read (word_reading w at b) (λ a. value_at lim s) ≡ after_word b (value_at lim s (at + length w))
  after_is (Err e) s at = refl
  after_is (Ok u) s at = refl

  pub line_exact : Exact (Then (TheWord w) (λ a. ValueLine lim)) (line_at w lim)
  unfolding line_at
  line_exact =
      let E = then_exact (TheWord w) (λ a. ValueLine lim) (λ s at. word_reading w at (word_at w s at)) (λ a. value_at lim) (word_exact w) (λ a. value_exact lim) (λ a. some_value lim) in
      record { apart = E.apart; means = λ s at. rw (after_is (word_at w s at) s at) at (E.means s at) }

pub key_line_exact : (code : ℕ) → Exact (KeyLine code) (key_line_at code)
unfolding key_line_at
key_line_exact code =
    let E = line_exact (key_text code) (key_limit code) in
    record { apart = λ w v a b rest left f g. E.apart w v a b rest left f.1 g.1; means = λ s at. go s at (command_key code) refl }
  where
    go : (s : List ℕ) (at : ℕ) (b : Bool) → command_key code ≡ b
        → Means (KeyLine code) (drop at s) at (cond b (line_at (key_text code) (key_limit code) s at) (Err Wrong))
    go s at true e =
        means_same (Then (TheWord (key_text code)) (λ a. ValueLine (key_limit code))) (KeyLine code) (λ w v f. f.1) (λ w v f. (e, f)) (drop at s) at (line_at (key_text code) (key_limit code) s at)
        ((line_exact (key_text code) (key_limit code)).means s at)
    go s at false e = (λ t. true≢false (sym t.form.0 ∙ e), λ b. true≢false (sym b.form.0 ∙ e))

-- a key line that was read ends after its start, within the input
pub key_line_next : (code : ℕ) (s : List ℕ) (at v next : ℕ) → key_line_at code s at ≡ Ok (v, next) → (at < next) × (next ≤ length s)
key_line_next code s at v next e =
    within (KeyLine code) (key_line_at code) (key_line_exact code) s at (λ u f. some f.1) v next e
  where
    some : {u : ℕ} → Then (TheWord (key_text code)) (λ a. ValueLine (key_limit code)) [] u → ⊥
    some z = omega (arith, length-append z.first z.second, ap length z.text, simp length-append at (ap length z.after.ended))
