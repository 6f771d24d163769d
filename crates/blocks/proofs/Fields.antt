-- The reader of key lines one after the other reads exactly them, and each value it finds fits its key's width.
-- Assumes nothing.
use Prim.Native.Nat.{ℕ, zero, suc, ◌^◌, ◌≤◌, ◌<◌}
use mathlib.Core.Path.{◌≡◌, refl, sym, ◌∙◌, subst}
use mathlib.Core.List.{List, [], ◌∷◌, ◌++◌}
use native.Mathlib.Omega.{arith}
use lib.ListN.{length, drop, get_or}
use lib.Dec.{ltb, leb, eqb-suc-zero}
use borrow.Author.Tests.{ltb-true, le-leb}
use Rattle.lists.specs.Every.{Every}
use Rattle.lists.proofs.Every.{whole, below_at, every_place}
use Rattle.std.specs.Prelude.{Ok}
use Rattle.text.specs.Reading.{Exact}
use Rattle.text.specs.Decimal.{most_digits}
use Rattle.text.specs.Keys.{owner, lease, key_limits, key_limit}
use Rattle.text.proofs.Sequence.{then_exact}
use Rattle.text.proofs.KeyLines.{key_line_exact}
use Rattle.writing.proofs.Lines.{line_text_form}
use Rattle.blocks.specs.Saying.{Saying, said}
use Rattle.blocks.specs.Fields.{Field, Fields, Fitting, field_at, fields_at, field_text, fields_text}
use Rattle.blocks.proofs.Saying.{saying_exact, saying_some}

-- no text at all, which says one thing
nothing_exact : {A : Type 0} (a : A) → Exact (λ w b. (w ≡ []) × (b ≡ a)) (λ s at. Ok (a, at))
nothing_exact a =
    record {
      apart = λ w v b c rest left f g e. (f.0 ∙ sym g.0, f.1 ∙ sym g.1);
      means = λ s at. (record { text = []; says = a; rest = drop at s; form = (refl, refl); here = refl }, refl, omega arith);
    }

pub field_exact : (code : ℕ) → Exact (Field code) (field_at code)
unfolding field_at
field_exact zero = nothing_exact 0
field_exact (suc code) =
    let E = key_line_exact (suc code) in
    record { apart = E.apart; means = λ s at. rw (eqb-suc-zero code) (E.means s at) }

-- the codes of a command's keys, and of none
abbrev pub Known : List ℕ → Type 0
Known codes = Every (λ c. c ≤ lease) codes

-- a value that fits can be written
pub field_form : (code v : ℕ) → code ≤ lease → v ≤ key_limit code → v < 10 ^ most_digits → Field code (field_text code v) v
unfolding key_limit
field_form zero v k l h = (refl, omega arith)
field_form (suc code) v k l h =
    rw (eqb-suc-zero code) (line_text_form (suc code) v (whole (leb owner (suc code) ∷ leb (suc code) lease ∷ []) (le-leb owner (suc code) (omega arith), (le-leb (suc code) lease k, tt))) l h)

pub fields_some : (codes : List ℕ) → Known codes → (w : List ℕ) × (vs : List ℕ) × Fields codes w vs
fields_some [] k = ([], [], (refl, refl))
fields_some (c ∷ cs) k =
    let r = fields_some cs k.1 in (
      field_text c 0 ++ r.0,
      0 ∷ r.1,
      record { first = field_text c 0; says = 0; second = r.0; form = field_form c 0 k.0 (omega arith) (omega arith); after = record { says = r.1; form = r.2; meant = refl }; text = refl },
    )

pub fields_exact : (codes : List ℕ) → Known codes → Exact (Fields codes) (fields_at codes)
unfolding fields_at
fields_exact [] k = nothing_exact []
fields_exact (c ∷ cs) k =
    then_exact (Field c) (λ v. Saying (λ us. v ∷ us) (Fields cs)) (field_at c) (λ v s at. said (λ us. v ∷ us) (fields_at cs s at)) (field_exact c)
    (λ v. saying_exact (λ us. v ∷ us) (Fields cs) (fields_at cs) (fields_exact cs k.1))
    (λ v. saying_some (λ us. v ∷ us) (Fields cs) (fields_some cs k.1))

-- what is read fits

pub field_fits : (code : ℕ) (w : List ℕ) (v : ℕ) → Field code w v → v ≤ key_limit code
field_fits zero w v f = omega (arith, f.1)
field_fits (suc code) w v f = f.1.after.form.fits

pub fields_fit : (codes w vs : List ℕ) → Fields codes w vs → Fitting codes vs
fields_fit [] w vs f = subst (Fitting []) (sym f.1) tt
fields_fit (c ∷ cs) w vs f =
    let a = f.after in
    subst (Fitting (c ∷ cs)) a.meant (field_fits c f.first f.says f.form, fields_fit cs f.second a.says a.form)

-- what fits can be written

limit_wide : (code : ℕ) → key_limit code < 10 ^ most_digits
unfolding key_limit
limit_wide code =
    every_place (λ i l. l < 10 ^ most_digits) key_limits 0 (λ i. omega arith)
    (λ i h. ltb-true (get_or key_limits i 0) (10 ^ most_digits) (below_at (λ i. ltb (get_or key_limits i 0) (10 ^ most_digits)) (length key_limits) refl i h)) code

pub fields_form : (codes vs : List ℕ) → Known codes → Fitting codes vs → Fields codes (fields_text codes vs) vs
fields_form [] [] k h = (refl, refl)
fields_form [] (v ∷ vs) k h = absurd h
fields_form (c ∷ cs) [] k h = absurd h
fields_form (c ∷ cs) (v ∷ vs) k h =
    let l = limit_wide c in
    record {
      first = field_text c v;
      says = v;
      second = fields_text cs vs;
      form = field_form c v k.0 h.0 (omega (arith, h.0));
      after = record { says = vs; form = fields_form cs vs k.1 h.1; meant = refl };
      text = refl;
    }
