-- Laws of forms: one answer has the meaning, and what follows for a reader of the form.
-- Assumes nothing.
use Prim.Native.Nat.{ℕ, ◌+◌, ◌≤◌, ◌<◌}
use mathlib.Core.Path.{◌≡◌, refl, sym, ap, ◌∙◌, subst}
use mathlib.Core.List.{List, [], ◌∷◌, ◌++◌, append_assoc}
use mathlib.Core.Logic.{◌⊎◌, inr, ⊎_elim, ⊎_map}
use native.Mathlib.Omega.{arith}
use lib.ListN.{length, drop, length-append, length-drop}
use lib.Seq.{drop-append-le}
use Rattle.lists.proofs.Append.{append_split}
use Rattle.std.specs.Prelude.{Ok, Err}
use Rattle.text.specs.Reading.{Reading, Form, Stands, Begins, Means, Apart, Exact}
use Rattle.text.specs.declared.Misread.TheVariants.{Unfinished, Wrong}

module _ {A : Type 0} (F : Form A) where
  -- a text at the start of a longer input stands in the first part or is begun by it
  pub here_or_begun : (xs more : List ℕ) → Stands F (xs ++ more) → Stands F xs ⊎ Begins F xs
  here_or_begun xs more t =
      ⊎_map (λ p. record { text = t.text; says = t.says; rest = p.0; form = t.form; here = p.1 })
      (λ p. record { more = p.0; says = t.says; form = subst (λ (w : List ℕ). F w t.says) p.1 t.form })
      (append_split xs more t.text t.rest t.here)

  -- two answers that both have the meaning are one
  pub means_one : Apart F → (xs : List ℕ) (at : ℕ) (r q : Reading A) → Means F xs at r → Means F xs at q → r ≡ q
  means_one apart xs at (Err Unfinished) (Err Unfinished) m k = refl
  means_one apart xs at (Err Unfinished) (Err Wrong) m k = absurd (k.1 m.1)
  means_one apart xs at (Err Unfinished) (Ok (b, next)) m k = absurd (m.0 k.0)
  means_one apart xs at (Err Wrong) (Err Unfinished) m k = absurd (m.1 k.1)
  means_one apart xs at (Err Wrong) (Err Wrong) m k = refl
  means_one apart xs at (Err Wrong) (Ok (b, next)) m k = absurd (m.0 k.0)
  means_one apart xs at (Ok (a, to)) (Err Unfinished) m k = absurd (k.0 m.0)
  means_one apart xs at (Ok (a, to)) (Err Wrong) m k = absurd (k.0 m.0)
  means_one apart xs at (Ok (a, to)) (Ok (b, next)) m k =
      let t = m.0 in
      let u = k.0 in
      let e = apart t.text u.text t.says u.says t.rest u.rest t.form u.form (sym t.here ∙ u.here) in
      let long = ap (λ (w : List ℕ). at + length w) e.0 in
      cc (m.1, m.2, k.1, k.2, long, e.1)

  module _ (read : List ℕ → ℕ → Reading A) (E : Exact F read) (s : List ℕ) (at : ℕ) where
    -- no other answer has the meaning
    pub only : (r : Reading A) → Means F (drop at s) at r → read s at ≡ r
    only r m = means_one E.apart (drop at s) at (read s at) r (E.means s at) m

    -- each text of the form is read, whatever stands after it
    pub reads : (w rest : List ℕ) (a : A) → F w a → drop at s ≡ w ++ rest → read s at ≡ Ok (a, at + length w)
    reads w rest a f e = only (Ok (a, at + length w)) (record { text = w; says = a; rest = rest; form = f; here = e }, refl, refl)

    -- what is read has the form; unfinished and wrong mean what they should
    pub shows : (r : Reading A) → read s at ≡ r → Means F (drop at s) at r
    shows r e = subst (λ (r : Reading A). Means F (drop at s) at r) e (E.means s at)

    -- what is read lies within the input
    pub within : ((a : A) → F [] a → ⊥) → (a : A) (next : ℕ) → read s at ≡ Ok (a, next) → (at < next) × (next ≤ length s)
    within some a next e =
        let m = shows (Ok (a, next)) e in
        let t = m.0 in
        let l = ap length t.here ∙ length-append t.text t.rest in
        let d = length-drop at s in
        let n = long t.says t.text t.form in
        (omega (arith, m.2), omega (arith, m.2))
      where
        long : (b : A) (w : List ℕ) → F w b → 0 < length w
        long b [] f = absurd (some b f)
        long b (x ∷ w) f = omega arith

    -- more input changes neither what was read nor that it is wrong
    module _ (in-it : at ≤ length s) (more : List ℕ) where
      pub got_stays : (a : A) (next : ℕ) → read s at ≡ Ok (a, next) → read (s ++ more) at ≡ Ok (a, next)
      got_stays a next e =
          let m = shows (Ok (a, next)) e in
          let t = m.0 in
          let h : drop at (s ++ more) ≡ t.text ++ (t.rest ++ more) =
          drop-append-le at s more in-it ∙ ap (λ (l : List ℕ). l ++ more) t.here ∙ append_assoc t.text t.rest more in
          means_one E.apart (drop at (s ++ more)) at (read (s ++ more) at) (Ok (a, next)) (E.means (s ++ more) at) (record { text = t.text; says = t.says; rest = t.rest ++ more; form = t.form; here = h }, m.1, m.2)

      pub wrong_stays : read s at ≡ Err Wrong → read (s ++ more) at ≡ Err Wrong
      wrong_stays e = means_one E.apart (drop at (s ++ more)) at (read (s ++ more) at) (Err Wrong) (E.means (s ++ more) at) (rw (drop-append-le at s more in-it) (none, never_any))
        where
          none : Stands F (drop at s ++ more) → ⊥
          none t = let m = shows (Err Wrong) e in ⊎_elim m.0 m.1 (here_or_begun (drop at s) more t)

          never_any : Begins F (drop at s ++ more) → ⊥
          never_any b =
              (shows (Err Wrong) e).1 (record { more = more ++ b.more; says = b.says; form = subst (λ (w : List ℕ). F w b.says) (append_assoc (drop at s) more b.more) b.form })

-- texts of H that are of F or of G, where none of F stands here nor begins here
module _ {A C : Type 0} (F : Form C) (G H : Form A) (cases : (w : List ℕ) (a : A) → H w a → ((c : C) × F w c) ⊎ G w a)
    (back : (w : List ℕ) (a : A) → G w a → H w a) (xs : List ℕ) (none : Stands F xs → ⊥) (never_any : Begins F xs → ⊥) where
  stands_other : Stands H xs → Stands G xs
  stands_other t =
      ⊎_elim (λ p. absurd (none (record { text = t.text; says = p.0; rest = t.rest; form = p.1; here = t.here })))
      (λ g. record { text = t.text; says = t.says; rest = t.rest; form = g; here = t.here })
      (cases t.text t.says t.form)

  begins_other : Begins H xs → Begins G xs
  begins_other b =
      ⊎_elim (λ p. absurd (never_any (record { more = b.more; says = p.0; form = p.1 })))
      (λ g. record { more = b.more; says = b.says; form = g })
      (cases (xs ++ b.more) b.says b.form)

  pub means_other : (at : ℕ) (r : Reading A) → Means G xs at r → Means H xs at r
  means_other at (Err Unfinished) m = (
    λ t. m.0 (stands_other t),
    record { more = m.1.more; says = m.1.says; form = back (xs ++ m.1.more) m.1.says m.1.form },
  )
  means_other at (Err Wrong) m = (λ t. m.0 (stands_other t), λ b. m.1 (begins_other b))
  means_other at (Ok (a, next)) m =
      let t = m.0 in
      (record { text = t.text; says = t.says; rest = t.rest; form = back t.text t.says t.form; here = t.here }, m.1, m.2)

-- two forms with the same texts
pub means_same : {A : Type 0} (F G : Form A) → ((w : List ℕ) (a : A) → G w a → F w a) → ((w : List ℕ) (a : A) → F w a → G w a)
    → (xs : List ℕ) (at : ℕ) (r : Reading A) → Means F xs at r → Means G xs at r
means_same {A} F G to from xs at r =
    means_other {C = A} (λ w c. ⊥) F G (λ w a g. inr (to w a g)) from xs (λ t. t.form) (λ b. b.form) at r
