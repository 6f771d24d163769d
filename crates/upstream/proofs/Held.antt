-- Laws of the payloads that are held: a handle for each retained publication.
-- Assumes nothing.
use Prim.Native.Nat.{ℕ, zero, suc}
use mathlib.Core.Path.{◌≡◌, refl, sym, ap, ◌∙◌}
use mathlib.Core.Bool.{Bool, true, cond}
use mathlib.Core.List.{List, [], ◌∷◌, ◌++◌}
use mathlib.Core.Option.{Option, none, some}
use native.Mathlib.Omega.{arith}
use lib.ListN.{length, get_or, set}
use lib.Seq.{set-get_or}
use Rattle.rules.specs.Table.{blank_publication}
use Rattle.rules.specs.declared.Publication.{Publication}
use Rattle.upstream.specs.Store.{held}

pub length-held : (es : List Publication) (hs : List ℕ) → length hs ≡ length es → length (held es hs) ≡ length es
length-held [] hs n = refl
length-held (e ∷ es) [] n = n
length-held (e ∷ es) (h ∷ hs) n = ap suc (length-held es hs (omega arith))

pub held_at : (es : List Publication) (hs : List ℕ) → length hs ≡ length es → (i : ℕ)
    → get_or (held es hs) i none ≡ cond (get_or es i blank_publication).retained (some (get_or hs i 0)) none
held_at [] hs n i = refl
held_at (e ∷ es) [] n i = absurd (omega arith)
held_at (e ∷ es) (h ∷ hs) n zero = refl
held_at (e ∷ es) (h ∷ hs) n (suc i) = held_at es hs (omega arith) i

pub held_snoc : (es : List Publication) (hs : List ℕ) (e : Publication) (h : ℕ) → length hs ≡ length es
    → held (es ++ (e ∷ [])) (hs ++ (h ∷ [])) ≡ held es hs ++ (cond e.retained (some h) none ∷ [])
held_snoc [] [] e h n = refl
held_snoc [] (k ∷ hs) e h n = absurd (omega arith)
held_snoc (x ∷ es) [] e h n = absurd (omega arith)
held_snoc (x ∷ es) (k ∷ hs) e h n = ap (λ (m : List (Option ℕ)). cond x.retained (some k) none ∷ m) (held_snoc es hs e h (omega arith))

-- a record and its payload changed
pub held_set : (es : List Publication) (hs : List ℕ) (i : ℕ) (e : Publication) (h : ℕ)
    → held (set es i e) (set hs i h) ≡ set (held es hs) i (cond e.retained (some h) none)
held_set [] hs i e h = refl
held_set (x ∷ es) [] zero e h = refl
held_set (x ∷ es) [] (suc i) e h = refl
held_set (x ∷ es) (k ∷ hs) zero e h = refl
held_set (x ∷ es) (k ∷ hs) (suc i) e h = ap (λ (m : List (Option ℕ)). cond x.retained (some k) none ∷ m) (held_set es hs i e h)

-- a record changed that stays retained, or not
pub held_kept : (es : List Publication) (hs : List ℕ) (i : ℕ) (e : Publication) → e.retained ≡ (get_or es i blank_publication).retained
    → held (set es i e) hs ≡ held es hs
held_kept [] hs i e k = refl
held_kept (x ∷ es) [] zero e k = refl
held_kept (x ∷ es) [] (suc i) e k = refl
held_kept (x ∷ es) (h ∷ hs) zero e k = ap (λ (b : Bool). cond b (some h) none ∷ held es hs) k
held_kept (x ∷ es) (h ∷ hs) (suc i) e k = ap (λ (m : List (Option ℕ)). cond x.retained (some h) none ∷ m) (held_kept es hs i e k)

-- a retained one's payload changed
pub held_payload : (es : List Publication) (hs : List ℕ) (i h : ℕ) → (get_or es i blank_publication).retained ≡ true
    → held es (set hs i h) ≡ set (held es hs) i (some h)
held_payload es hs i h k =
    ap (λ (l : List Publication). held l (set hs i h)) (sym (set-get_or es i blank_publication))
    ∙ held_set es hs i (get_or es i blank_publication) h
    ∙ ap (λ (b : Bool). set (held es hs) i (cond b (some h) none)) k
