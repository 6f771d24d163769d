-- Forms read byte by byte.
-- Assumes nothing.
use Prim.Native.Nat.{ℕ, ◌+◌}
use mathlib.Core.Path.{◌≡◌, ap, subst}
use mathlib.Core.List.{List, [], ◌∷◌, ◌++◌}
use native.Mathlib.Omega.{arith}
use Rattle.std.specs.Prelude.{Ok, Err}
use Rattle.text.specs.Reading.{Reading, Form, Stands, Begins, Means}
use Rattle.text.specs.declared.Misread.TheVariants.{Unfinished, Wrong}

module _ {A : Type 0} (F : Form A) where
  -- where the input ends, no text stands that has bytes
  pub none_at_end : ((a : A) → F [] a → ⊥) → Stands F [] → ⊥
  none_at_end some t = go t.text t.form t.here
    where
      go : (w : List ℕ) → F w t.says → [] ≡ w ++ t.rest → ⊥
      go [] f e = some t.says f
      go (x ∷ w) f e = let z : ◌≡◌ {A = ℕ} 0 1 = cc in omega arith

  -- one byte is taken: what is left of a text of F after x is a text of G
  module _ (G : Form A) (x : ℕ) (on : (w : List ℕ) (a : A) → G w a → F (x ∷ w) a) (back : (w : List ℕ) (a : A) → F (x ∷ w) a → G w a)
      (some : (a : A) → F [] a → ⊥) where
    stands_back : (xs : List ℕ) → Stands F (x ∷ xs) → Stands G xs
    stands_back xs t = go t.text t.form t.here
      where
        go : (w : List ℕ) → F w t.says → x ∷ xs ≡ w ++ t.rest → Stands G xs
        go [] f e = absurd (some t.says f)
        go (y ∷ w) f e =
            let p : y ≡ x = cc in
            record { text = w; says = t.says; rest = t.rest; form = back w t.says (subst (λ (z : ℕ). F (z ∷ w) t.says) p f); here = cc }

    begins_back : (xs : List ℕ) → Begins F (x ∷ xs) → Begins G xs
    begins_back xs b = record { more = b.more; says = b.says; form = back (xs ++ b.more) b.says b.form }

    pub means_cons : (xs : List ℕ) (at : ℕ) (r : Reading A) → Means G xs (at + 1) r → Means F (x ∷ xs) at r
    means_cons xs at (Err Unfinished) m = (
      λ t. m.0 (stands_back xs t),
      record { more = m.1.more; says = m.1.says; form = on (xs ++ m.1.more) m.1.says m.1.form },
    )
    means_cons xs at (Err Wrong) m = (λ t. m.0 (stands_back xs t), λ b. m.1 (begins_back xs b))
    means_cons xs at (Ok (a, next)) m =
        let t = m.0 in (
          record { text = x ∷ t.text; says = t.says; rest = t.rest; form = on t.text t.says t.form; here = ap (λ (l : List ℕ). x ∷ l) t.here },
          m.1,
          omega (arith, m.2),
        )

-- no text starts with x
pub never : {A : Type 0} (F : Form A) (x : ℕ) (xs : List ℕ) (at : ℕ) → ((w : List ℕ) (a : A) → F (x ∷ w) a → ⊥) → ((a : A) → F [] a → ⊥)
    → Means F (x ∷ xs) at (Err Wrong)
never F x xs at other some = means_cons F (λ w a. ⊥) x (λ w a f. absurd f) other some xs at (Err Wrong) (λ t. t.form, λ b. b.form)
