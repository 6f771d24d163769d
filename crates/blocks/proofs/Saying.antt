-- A form whose texts say a function of what they say is read exactly where the form itself is.
-- Assumes nothing.
use Prim.Native.Nat.{ℕ}
use mathlib.Core.Path.{◌≡◌, refl, sym, ap, ◌∙◌}
use mathlib.Core.List.{List}
use lib.ListN.{drop}
use Rattle.std.specs.Prelude.{Ok, Err}
use Rattle.text.specs.Reading.{Reading, Form, Stands, Begins, Means, Apart, Exact}
use Rattle.text.specs.declared.Misread.TheVariants.{Unfinished, Wrong}
use Rattle.blocks.specs.Saying.{Saying, said}

module _ {A B : Type 0} (f : A → B) (F : Form A) where
  saying : {w : List ℕ} {a : A} → F w a → Saying f F w (f a)
  saying {w} {a} h = record { says = a; form = h; meant = refl }

  stands_plain : (xs : List ℕ) → Stands (Saying f F) xs → Stands F xs
  stands_plain xs t = record { text = t.text; says = t.form.says; rest = t.rest; form = t.form.form; here = t.here }

  begins_plain : (xs : List ℕ) → Begins (Saying f F) xs → Begins F xs
  begins_plain xs b = record { more = b.more; says = b.form.says; form = b.form.form }

  saying_means : (xs : List ℕ) (at : ℕ) (r : Reading A) → Means F xs at r → Means (Saying f F) xs at (said f r)
  saying_means xs at (Err Unfinished) m = (λ t. m.0 (stands_plain xs t), record { more = m.1.more; says = f m.1.says; form = saying m.1.form })
  saying_means xs at (Err Wrong) m = (λ t. m.0 (stands_plain xs t), λ b. m.1 (begins_plain xs b))
  saying_means xs at (Ok (a, next)) m =
      let t = m.0 in
      (record { text = t.text; says = f t.says; rest = t.rest; form = saying t.form; here = t.here }, ap f m.1, m.2)

  saying_apart : Apart F → Apart (Saying f F)
  saying_apart apart w v b c rest left y z e =
      let p = apart w v y.says z.says rest left y.form z.form e in
      (p.0, sym y.meant ∙ ap f p.1 ∙ z.meant)

  pub saying_exact : (read : List ℕ → ℕ → Reading A) → Exact F read → Exact (Saying f F) (λ s at. said f (read s at))
  saying_exact read E =
      record { apart = saying_apart E.apart; means = λ s at. saying_means (drop at s) at (read s at) (E.means s at) }

  pub saying_some : (w : List ℕ) × (a : A) × F w a → (w : List ℕ) × (b : B) × Saying f F w b
  saying_some h = (h.0, f h.1, saying h.2)

-- what is said twice over

pub said_said : {A B C : Type 0} (f : B → C) (g : A → B) (h : A → C) → ((a : A) → f (g a) ≡ h a) → (r : Reading A) → said f (said g r) ≡ said h r
said_said f g h e (Err x) = refl
said_said f g h e (Ok (a, next)) = ap (λ c. Ok (c, next)) (e a)

pub said_same : {A : Type 0} (f : A → A) → ((a : A) → f a ≡ a) → (r : Reading A) → said f r ≡ r
said_same f e (Err x) = refl
said_same f e (Ok (a, next)) = ap (λ b. Ok (b, next)) (e a)
