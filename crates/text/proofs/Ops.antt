-- No op line begins another, and the op reader reads exactly the op lines.
-- Assumes nothing.
use Prim.Native.Nat.{ℕ, zero, suc, ◌+◌, ◌≤◌, ◌<◌}
use mathlib.Core.Path.{◌≡◌, refl, sym, ap, ◌∙◌, subst}
use mathlib.Core.Bool.{Bool, true, false, not, false≢true}
use mathlib.Core.Logic.{◌⊎◌, inl, inr}
use mathlib.Core.List.{List, [], ◌∷◌, ◌++◌, append_assoc, append-nil}
use native.Mathlib.Omega.{arith}
use native.Mathlib.Nat.{not-suc-le-zero, le_of_suc-le-suc}
use lib.ListN.{length, drop, get_or}
use lib.Dec.{ltb}
use borrow.Author.Tests.{eq-eqb, not-true, ltb-true}
use Rattle.lists.specs.Every.{every}
use Rattle.lists.specs.Search.{some_pass}
use Rattle.lists.proofs.Every.{parts, every_at, below_at}
use Rattle.lists.proofs.Search.{none_of}
use Rattle.std.specs.Prelude.{Ok, Err}
use Rattle.text.specs.Reading.{Reading, Form, Stands, Means, Apart, Exact}
use Rattle.text.specs.Words.{TheWord, Found, compared, word_at, word_reading}
use Rattle.text.specs.Ops.{op_lines, RowOf, OpLine, row_found, row_at, or_next, first_row, op_at}
use Rattle.text.specs.declared.Misread.TheVariants.{Unfinished, Wrong}
use Rattle.text.proofs.Reading.{means_other, means_same, shows, within}
use Rattle.text.proofs.Words.{word_exact}

-- whether one of two words begins the other

not_wrong : Found → Bool
not_wrong (Err Unfinished) = true
not_wrong (Err Wrong) = false
not_wrong (Ok u) = true

meets : List ℕ → List ℕ → Bool
meets w v = not_wrong (compared w v)

-- two beginnings of one text meet
both_begin : (w v rest left : List ℕ) → w ++ rest ≡ v ++ left → meets w v ≡ true
unfolding meets not_wrong compared
both_begin [] v rest left e = refl
both_begin (c ∷ w) [] rest left e = refl
both_begin (c ∷ w) (x ∷ v) rest left e =
    let p : c ≡ x = cc in
    rw (eq-eqb c x p) (both_begin w v rest left (cc))

-- a table of which no two words meet

parted : List (List ℕ) → Bool
parted [] = true
parted (w ∷ ws) = every (not (some_pass (meets w) ws) ∷ parted ws ∷ [])

-- the op lines are such a table: one claim that is computed over it
op_lines_parted : parted op_lines ≡ true
unfolding parted meets not_wrong compared
op_lines_parted = refl

-- what it says of its first word and each of the others
apart_from : (w : List ℕ) (ws : List (List ℕ)) → parted (w ∷ ws) ≡ true → (k : ℕ) → k < length ws → meets w (get_or ws k []) ≡ false
unfolding parted
apart_from w ws p =
    every_at (λ v. meets w v ≡ false) ws [] (none_of (meets w) ws (not-true (some_pass (meets w) ws) (parts (not (some_pass (meets w) ws) ∷ parted ws ∷ []) p).0))

apart_rest : (w : List ℕ) (ws : List (List ℕ)) → parted (w ∷ ws) ≡ true → parted ws ≡ true
unfolding parted
apart_rest w ws p = (parts (not (some_pass (meets w) ws) ∷ parted ws ∷ []) p).1.0

rows_apart : (table : List (List ℕ)) → parted table ≡ true → Apart (RowOf table)
rows_apart [] p w v a b rest left f g e = absurd (not-suc-le-zero f.below)
rows_apart (t ∷ ts) p w v zero zero rest left f g e = (f.text ∙ sym g.text, refl)
rows_apart (t ∷ ts) p w v zero (suc b) rest left f g e =
    absurd (false≢true (sym (apart_from t ts p b (le_of_suc-le-suc g.below)) ∙ both_begin t (get_or ts b []) rest left (rw (sym f.text, sym g.text) e)))
rows_apart (t ∷ ts) p w v (suc a) zero rest left f g e =
    absurd (false≢true (sym (apart_from t ts p a (le_of_suc-le-suc f.below)) ∙ both_begin t (get_or ts a []) left rest (rw (sym f.text, sym g.text) (sym e))))
rows_apart (t ∷ ts) p w v (suc a) (suc b) rest left f g e =
    let r = rows_apart ts (apart_rest t ts p) w v a b rest left (record { below = le_of_suc-le-suc f.below; text = f.text }) (record { below = le_of_suc-le-suc g.below; text = g.text }) e in
    (r.0, ap suc r.1)

-- the rows of a table, counted from r
abbrev Counted : ℕ → List (List ℕ) → Form ℕ
Counted r table w n = (k : ℕ) × (r + k ≡ n) × RowOf table w k

-- the first word decides, or is wrong and the others do
module _ (w : List ℕ) (ws : List (List ℕ)) (p : parted (w ∷ ws) ≡ true) (r at : ℕ) (xs : List ℕ) where
  one_of : (v : List ℕ) (n : ℕ) → Counted r (w ∷ ws) v n → ((c : Unit {0}) × TheWord w v c) ⊎ Counted (r + 1) ws v n
  one_of v n (zero, e, f) = inl (tt, f.text)
  one_of v n (suc k, e, f) = inr (k, omega arith, record { below = le_of_suc-le-suc f.below; text = f.text })

  later : (v : List ℕ) (n : ℕ) → Counted (r + 1) ws v n → Counted r (w ∷ ws) v n
  later v n (k, e, f) = (suc k, omega arith, record { below = omega (arith, f.below); text = f.text })

  here : (v : List ℕ) → v ≡ w → Counted r (w ∷ ws) v r
  here v e = (zero, omega arith, record { below = omega arith; text = e })

  first_decides : (b : Found) → Means (TheWord w) xs at (word_reading w at b) → (other : Reading ℕ) → Means (Counted (r + 1) ws) xs at other
      → Means (Counted r (w ∷ ws)) xs at (or_next (row_found r (at + length w) b) other)
  first_decides (Ok u) m other k =
      let t = m.0 in
      (record { text = t.text; says = r; rest = t.rest; form = here t.text t.form; here = t.here }, refl, m.2)
  first_decides (Err Wrong) m other k = means_other (TheWord w) (Counted (r + 1) ws) (Counted r (w ∷ ws)) one_of later xs m.0 m.1 at other k
  first_decides (Err Unfinished) m other k = (
    λ t. go t (one_of t.text t.says t.form),
    record { more = m.1.more; says = r; form = here (xs ++ m.1.more) m.1.form },
  )
    where
      go : (t : Stands (Counted r (w ∷ ws)) xs) → ((c : Unit {0}) × TheWord w t.text c) ⊎ Counted (r + 1) ws t.text t.says → ⊥
      go t (inl f) = m.0 (record { text = t.text; says = tt; rest = t.rest; form = f.1; here = t.here })
      go t (inr (k, e, f)) =
          let v = get_or ws k [] in
          let q : w ++ [] ≡ v ++ (t.rest ++ m.1.more) =
          append-nil w ∙ sym m.1.form ∙ ap (λ (l : List ℕ). l ++ m.1.more) (t.here ∙ ap (λ (l : List ℕ). l ++ t.rest) f.text) ∙ append_assoc v t.rest m.1.more in
          false≢true (sym (apart_from w ws p k f.below) ∙ both_begin w v [] (t.rest ++ m.1.more) q)

first_means : (table : List (List ℕ)) → parted table ≡ true → (r : ℕ) (s : List ℕ) (at : ℕ) → Means (Counted r table) (drop at s) at (first_row table r s at)
unfolding first_row row_at
first_means [] p r s at = (λ t. not-suc-le-zero t.form.2.below, λ b. not-suc-le-zero b.form.2.below)
first_means (w ∷ ws) p r s at =
    first_decides w ws p r at (drop at s) (word_at w s at) ((word_exact w).means s at) (first_row ws (r + 1) s at) (first_means ws (apart_rest w ws p) (r + 1) s at)

-- the eleven lines are different and none begins another, so what an op line says is its row alone
pub op_apart : Apart OpLine
op_apart = rows_apart op_lines op_lines_parted

pub op_exact : Exact OpLine op_at
unfolding op_at
op_exact =
    record {
      apart = op_apart;
      means = λ s at.
          means_same (Counted 0 op_lines) OpLine (λ w n f. (n, omega arith, f)) (λ w n f. subst (RowOf op_lines w) (omega (arith, f.1)) f.2) (drop at s) at (first_row op_lines 0 s at)
          (first_means op_lines op_lines_parted 0 s at);
    }

-- an op line that was read: its row is one of the table, and it ends after its start, within the input
pub op_next : (s : List ℕ) (at r next : ℕ) → op_at s at ≡ Ok (r, next) → (r < length op_lines) × (at < next) × (next ≤ length s)
op_next s at r next e =
    let m = shows OpLine op_at op_exact s at (Ok (r, next)) e in
    let n = within OpLine op_at op_exact s at some r next e in
    (omega (arith, m.0.form.below, m.1), n.0, n.1)
  where
    some : (k : ℕ) → OpLine [] k → ⊥
    some k f = omega (arith, ltb-true 0 (length (get_or op_lines k [])) (below_at (λ i. ltb 0 (length (get_or op_lines i []))) (length op_lines) refl k f.below), ap length f.text)
