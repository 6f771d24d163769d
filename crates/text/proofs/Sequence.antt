-- A text and then another: where the one can be read exactly and the other too, so can the two.
-- Assumes nothing.
use Prim.Native.Nat.{ℕ, ◌+◌}
use mathlib.Core.Path.{◌≡◌, refl, sym, ap, ◌∙◌, subst}
use mathlib.Core.List.{List, [], ◌++◌, append_assoc, append-nil}
use mathlib.Core.Logic.{⊎_elim}
use native.Mathlib.Omega.{arith}
use lib.ListN.{length, drop, length-append}
use lib.Seq.{drop-drop, drop-append_seam}
use Rattle.lists.proofs.Append.{append_cancel}
use Rattle.std.specs.Prelude.{Ok, Err}
use Rattle.text.specs.Reading.{Reading, Form, Stands, Begins, Means, Apart, Exact, Then, then_read}
use Rattle.text.specs.declared.Misread.TheVariants.{Unfinished, Wrong}
use Rattle.text.proofs.Reading.{here_or_begun}

module _ {A B : Type 0} (F : Form A) (G : A → Form B) (apart : Apart F) where
  -- where the first text is known, the second is what follows it
  second_is : (u tail : List ℕ) (a : A) → F u a → (w : List ℕ) (b : B) → Then F G w b → (left : List ℕ) → w ++ left ≡ u ++ tail
      → (v : List ℕ) × G a v b × (v ++ left ≡ tail) × (w ≡ u ++ v)
  second_is u tail a f w b z left e =
      let q : z.first ++ (z.second ++ left) ≡ u ++ tail = sym (append_assoc z.first z.second left) ∙ ap (λ (l : List ℕ). l ++ left) (sym z.text) ∙ e in
      let p = apart z.first u z.says a (z.second ++ left) tail z.form f q in (
        z.second,
        subst (λ (c : A). G c z.second b) p.1 z.after,
        append_cancel u (z.second ++ left) tail (ap (λ (l : List ℕ). l ++ (z.second ++ left)) (sym p.0) ∙ q),
        z.text ∙ ap (λ (l : List ℕ). l ++ z.second) p.0,
      )

  pub then_apart : ((a : A) → Apart (G a)) → Apart (Then F G)
  then_apart each w v b c rest left y z e =
      let s = second_is y.first (y.second ++ rest) y.says y.form v c z left (sym e ∙ ap (λ (l : List ℕ). l ++ rest) y.text ∙ append_assoc y.first y.second rest) in
      let p = each y.says y.second s.0 b c rest left y.after s.1 (sym s.2) in
      (y.text ∙ ap (λ (l : List ℕ). y.first ++ l) p.0 ∙ sym s.3, p.1)

  module _ (xs : List ℕ) where
    first_stands : Stands (Then F G) xs → Stands F xs
    first_stands t =
        let z = t.form in
        record {
          text = z.first;
          says = z.says;
          rest = z.second ++ t.rest;
          form = z.form;
          here = t.here ∙ ap (λ (l : List ℕ). l ++ t.rest) z.text ∙ append_assoc z.first z.second t.rest;
        }

    -- the first text is not here and can't become one
    then_wrong : (at : ℕ) → Means F xs at (Err Wrong) → Means (Then F G) xs at (Err Wrong)
    then_wrong at m = (
      λ t. m.0 (first_stands t),
      λ b.
          let z = b.form in
          ⊎_elim m.0 m.1 (here_or_begun F xs b.more (record { text = z.first; says = z.says; rest = z.second; form = z.form; here = z.text })),
    )

    -- the first text begins here
    then_unfinished : ((a : A) → (w : List ℕ) × (b : B) × G a w b) → (at : ℕ) → Means F xs at (Err Unfinished) → Means (Then F G) xs at (Err Unfinished)
    then_unfinished some at m =
        let b = m.1 in
        let g = some b.says in (
          λ t. m.0 (first_stands t),
          record {
            more = b.more ++ g.0;
            says = g.1;
            form = record { first = xs ++ b.more; says = b.says; second = g.0; form = b.form; after = g.2; text = sym (append_assoc xs b.more g.0) };
          },
        )

    -- the first text stands here
    module _ (t : Stands F xs) where
      second_stands : Stands (Then F G) xs → Stands (G t.says) t.rest
      second_stands z =
          let s = second_is t.text t.rest t.says t.form z.text z.says z.form z.rest (sym z.here ∙ t.here) in
          record { text = s.0; says = z.says; rest = z.rest; form = s.1; here = sym s.2 }

      second_begins : Begins (Then F G) xs → Begins (G t.says) t.rest
      second_begins b =
          let s =
          second_is t.text (t.rest ++ b.more) t.says t.form (xs ++ b.more) b.says b.form []
          (append-nil (xs ++ b.more) ∙ ap (λ (l : List ℕ). l ++ b.more) t.here ∙ append_assoc t.text t.rest b.more) in
          record { more = b.more; says = b.says; form = subst (λ (w : List ℕ). G t.says w b.says) (sym (append-nil s.0) ∙ s.2) s.1 }

      then_got : (at : ℕ) (r : Reading B) → Means (G t.says) t.rest (at + length t.text) r → Means (Then F G) xs at r
      then_got at (Err Unfinished) m = (
        λ z. m.0 (second_stands z),
        record {
          more = m.1.more;
          says = m.1.says;
          form = record {
            first = t.text;
            says = t.says;
            second = t.rest ++ m.1.more;
            form = t.form;
            after = m.1.form;
            text = ap (λ (l : List ℕ). l ++ m.1.more) t.here ∙ append_assoc t.text t.rest m.1.more;
          };
        },
      )
      then_got at (Err Wrong) m = (λ z. m.0 (second_stands z), λ b. m.1 (second_begins b))
      then_got at (Ok (b, next)) m =
          let u = m.0 in (
            record {
              text = t.text ++ u.text;
              says = u.says;
              rest = u.rest;
              form = record { first = t.text; says = t.says; second = u.text; form = t.form; after = u.form; text = refl };
              here = t.here ∙ ap (λ (l : List ℕ). t.text ++ l) u.here ∙ sym (append_assoc t.text u.text u.rest);
            },
            m.1,
            omega (arith, m.2, length-append t.text u.text),
          )

-- a reader of the first and then a reader of the second read the two
pub then_exact : {A B : Type 0} (F : Form A) (G : A → Form B) (read : List ℕ → ℕ → Reading A) (after : A → List ℕ → ℕ → Reading B)
    → Exact F read → ((a : A) → Exact (G a) (after a)) → ((a : A) → (w : List ℕ) × (b : B) × G a w b)
    → Exact (Then F G) (λ s at. then_read (read s at) (λ a. after a s))
then_exact {A} {B} F G read after E each some =
    record { apart = then_apart F G E.apart (λ a. (each a).apart); means = λ s at. go s at (read s at) (E.means s at) }
  where
    go : (s : List ℕ) (at : ℕ) (r : Reading A) → Means F (drop at s) at r → Means (Then F G) (drop at s) at (then_read r (λ a. after a s))
    go s at (Err Unfinished) m = then_unfinished F G E.apart (drop at s) some at m
    go s at (Err Wrong) m = then_wrong F G E.apart (drop at s) at m
    go s at (Ok (a, next)) m =
        let t = m.0 in
        let d : t.rest ≡ drop next s =
        sym (drop-append_seam t.text t.rest) ∙ ap (drop (length t.text)) (sym t.here) ∙ drop-drop (length t.text) at s ∙ ap (λ (k : ℕ). drop k s) m.2 in
        then_got F G E.apart (drop at s) t at (after a s next) (rw (m.1, m.2, d) ((each a).means s next))
