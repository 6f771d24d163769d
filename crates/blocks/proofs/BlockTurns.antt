-- The block reader, key by key of a row.
-- Assumes nothing.
use Prim.Native.Nat.{ℕ, suc, ◌+◌, ◌≤◌, ◌<◌}
use mathlib.Core.Path.{◌≡◌, sym, ap, ◌∙◌}
use mathlib.Core.List.{List, [], ◌∷◌, ◌++◌, append-nil}
use native.Mathlib.Omega.{arith}
use native.Mathlib.Numerals.{add-one}
use lib.ListN.{length, take, drop, get_or, set, drop_of_length-le, length-set}
use lib.Seq.{take-suc, take-suc-set, take_all, drop-cons, append_snoc}
use Rattle.std.specs.Prelude.{Ok, Err}
use Rattle.text.specs.Reading.{Reading, then_read}
use Rattle.text.specs.Keys.{key_limit, key_code}
use Rattle.text.specs.declared.Misread.{Misread}
use Rattle.text.proofs.Reading.{shows}
use Rattle.text.proofs.KeyTable.{key_at}
use Rattle.blocks.specs.Saying.{said}
use Rattle.blocks.specs.Fields.{Field, Fitting, field_at, fields_at}
use Rattle.blocks.specs.Blocks.{keys_of, command_of, lines_at}
use Rattle.blocks.proofs.Saying.{said_said}
use Rattle.blocks.proofs.Fields.{field_exact, field_fits}
use Rattle.blocks.proofs.Commands.{keys_length}

-- one key's value
field_limit : (code : ℕ) (s : List ℕ) (at v next : ℕ) → field_at code s at ≡ Ok (v, next) → v ≤ key_limit code
field_limit code s at v next e =
    let m = shows (Field code) (field_at code) (field_exact code) s at (Ok (v, next)) e in
    omega (arith, field_fits code m.0.text m.0.says m.0.form, m.1)

-- values that fit, and one more

fitting_snoc : (codes vs : List ℕ) (c v : ℕ) → Fitting codes vs → v ≤ key_limit c → Fitting (codes ++ c ∷ []) (vs ++ v ∷ [])
fitting_snoc [] [] c v h l = (l, tt)
fitting_snoc [] (u ∷ vs) c v h l = absurd h
fitting_snoc (d ∷ codes) [] c v h l = absurd h
fitting_snoc (d ∷ codes) (u ∷ vs) c v h l = (h.0, fitting_snoc codes vs c v h.1 l)

-- k keys of the row are read, up to the place i, and those after them decide
pub record Taken (s : List ℕ) (at row : ℕ) (v : List ℕ) (i k : ℕ) : Type 0 where
  pub same : fields_at (keys_of row) s at ≡ said (λ us. take k v ++ us) (fields_at (drop k (keys_of row)) s i)
  pub fits : Fitting (take k (keys_of row)) (take k v)
  pub long : length v ≡ 5

module _ {s : List ℕ} {at row : ℕ} {v : List ℕ} {i k : ℕ} (t : Taken s at row v i k) (b : row < 11) where
  module _ (h : k < 5) (code : ℕ) (r : Reading ℕ) (q : code ≡ key_code row k) (e : r ≡ field_at code s i) where
    this : get_or (keys_of row) k 0 ≡ code
    this = key_at row k ∙ sym q

    rest : drop k (keys_of row) ≡ code ∷ drop (suc k) (keys_of row)
    rest = drop-cons (keys_of row) k 0 (omega (arith, keys_length row b)) ∙ ap (λ (c : ℕ). c ∷ drop (suc k) (keys_of row)) this

    decides : fields_at (keys_of row) s at
        ≡ said (λ us. take k v ++ us) (then_read r (λ x next. said (λ us. x ∷ us) (fields_at (drop (suc k) (keys_of row)) s next)))
    unfolding fields_at
    decides = t.same ∙ rw (rest, e)

    pub lines_stop : (x : Misread) → r ≡ Err x → Err x ≡ lines_at row s at
    unfolding lines_at
    lines_stop x z = sym (ap (λ (y : Reading (List ℕ)). said (command_of row) y) (rw z at decides))

    pub lines_go_on : (x next : ℕ) → r ≡ Ok (x, next) → Taken s at row (set v k x) next (k + 1)
    lines_go_on x next z =
        let m : take (suc k) (set v k x) ≡ take k v ++ x ∷ [] = take-suc-set v k x (omega (arith, t.long)) in
        record {
          same =
              rw (z) at decides
              ∙ said_said (λ us. take k v ++ us) (λ us. x ∷ us) (λ us. take (k + 1) (set v k x) ++ us) (λ us. rw (add-one k, m) (sym (append_snoc (take k v) x us))) (fields_at (drop (suc k) (keys_of row)) s next)
              ∙ rw (add-one k);
          fits = rw (add-one k, m, take-suc (keys_of row) k 0 (omega (arith, keys_length row b)), this) (fitting_snoc (take k (keys_of row)) (take k v) code x t.fits (field_limit code s i x next (sym e ∙ z)));
          long = simp length-set t.long;
        }

  module _ (h : 5 ≤ k) where
    all_read : said (λ us. take k v ++ us) (fields_at (drop k (keys_of row)) s i) ≡ Ok (v, i)
    unfolding fields_at
    all_read =
        rw (drop_of_length-le (keys_of row) {i = k} (omega (arith, keys_length row b)), take_all k v (omega (arith, t.long))) (ap (λ (us : List ℕ). Ok (us, i)) (append-nil v))

    pub lines_end : Ok (command_of row v, i) ≡ lines_at row s at
    unfolding lines_at
    lines_end = sym (ap (λ (x : Reading (List ℕ)). said (command_of row) x) (t.same ∙ all_read))
