-- A command and its row with its values are the same.
-- Assumes nothing.
use Prim.Native.Nat.{ℕ, zero, suc, ◌<◌}
use mathlib.Core.Path.{◌≡◌, refl, ap, ◌∙◌}
use mathlib.Core.Bool.{cond}
use mathlib.Core.List.{List, [], ◌∷◌}
use native.Mathlib.Omega.{arith}
use lib.ListN.{length}
use lib.Dec.{eqb, eqb-suc-zero}
use borrow.Author.Tests.{eqb-true}
use Rattle.lists.proofs.Every.{below_at}
use Rattle.lists.proofs.Below.{EachBelow, each_at}
use Rattle.rules.specs.declared.Command.{Command}
use Rattle.rules.specs.declared.Command.TheVariants.{Publish, Adopt, Acquire, Release, Revoke, Replace, Reclaim, Read, Observe, Resolve, Count}
use Rattle.text.specs.Keys.{key_limit}
use Rattle.blocks.specs.Fields.{Fitting}
use Rattle.blocks.specs.Blocks.{row_of, values_of, keys_of, command_of}

pub command_of_values : (c : Command) → command_of (row_of c) (values_of c) ≡ c
unfolding command_of
command_of_values (Publish o g q v) = refl
command_of_values (Adopt p o g) = refl
command_of_values (Acquire p o g) = refl
command_of_values (Release i) = refl
command_of_values (Revoke p) = refl
command_of_values (Replace p o g v) = refl
command_of_values (Reclaim p) = refl
command_of_values (Read i) = refl
command_of_values (Observe p) = refl
command_of_values (Resolve q) = refl
command_of_values Count = refl

pub row_below : (c : Command) → row_of c < 11
row_below (Publish o g q v) = omega arith
row_below (Adopt p o g) = omega arith
row_below (Acquire p o g) = omega arith
row_below (Release i) = omega arith
row_below (Revoke p) = omega arith
row_below (Replace p o g v) = omega arith
row_below (Reclaim p) = omega arith
row_below (Read i) = omega arith
row_below (Observe p) = omega arith
row_below (Resolve q) = omega arith
row_below Count = omega arith

-- values with 0 where there is no key

kept : List ℕ → List ℕ → List ℕ
kept [] vs = []
kept (c ∷ cs) [] = []
kept (c ∷ cs) (v ∷ vs) = cond (eqb c 0) 0 v ∷ kept cs vs

kept_fitting : (codes vs : List ℕ) → Fitting codes vs → kept codes vs ≡ vs
unfolding kept key_limit
kept_fitting [] [] h = refl
kept_fitting [] (v ∷ vs) h = absurd h
kept_fitting (c ∷ cs) [] h = absurd h
kept_fitting (zero ∷ cs) (v ∷ vs) h =
    let z : 0 ≡ v = omega (arith, h.0) in
    let r = kept_fitting cs vs h.1 in
    cc
kept_fitting (suc c ∷ cs) (v ∷ vs) h = rw (eqb-suc-zero c) (ap (λ (us : List ℕ). v ∷ us) (kept_fitting cs vs h.1))

-- the command of a row says that row and its values

says_row : ℕ → List ℕ → Type 0
says_row row vs = row_of (command_of row vs) ∷ values_of (command_of row vs) ≡ row ∷ kept (keys_of row) vs

rows_say : (a b c d e : ℕ) → EachBelow 11 (λ row. says_row row (a ∷ b ∷ c ∷ d ∷ e ∷ []))
unfolding says_row command_of kept
rows_say a b c d e = (refl, (refl, (refl, (refl, (refl, (refl, (refl, (refl, (refl, (refl, (refl, tt)))))))))))

-- every row has five places

five : (P : List ℕ → Type 0) → ((a b c d e : ℕ) → P (a ∷ b ∷ c ∷ d ∷ e ∷ [])) → (vs : List ℕ) → length vs ≡ 5 → P vs
five P f [] q = absurd (let y : ⊥ = omega arith in y)
five P f (a ∷ []) q = absurd (let y : ⊥ = omega arith in y)
five P f (a ∷ b ∷ []) q = absurd (let y : ⊥ = omega arith in y)
five P f (a ∷ b ∷ c ∷ []) q = absurd (let y : ⊥ = omega arith in y)
five P f (a ∷ b ∷ c ∷ d ∷ []) q = absurd (let y : ⊥ = omega arith in y)
five P f (a ∷ b ∷ c ∷ d ∷ e ∷ []) q = f a b c d e
five P f (a ∷ b ∷ c ∷ d ∷ e ∷ g ∷ vs) q = absurd (let y : ⊥ = omega arith in y)

fitting_length : (codes vs : List ℕ) → Fitting codes vs → length vs ≡ length codes
fitting_length [] [] h = refl
fitting_length [] (v ∷ vs) h = absurd h
fitting_length (c ∷ cs) [] h = absurd h
fitting_length (c ∷ cs) (v ∷ vs) h = ap suc (fitting_length cs vs h.1)

pub keys_length : (row : ℕ) → row < 11 → length (keys_of row) ≡ 5
keys_length row h = eqb-true (length (keys_of row)) 5 (below_at (λ row. eqb (length (keys_of row)) 5) 11 refl row h)

pub of_command : (row : ℕ) (vs : List ℕ) → row < 11 → Fitting (keys_of row) vs → (row_of (command_of row vs) ≡ row) × (values_of (command_of row vs) ≡ vs)
unfolding says_row
of_command row vs h f =
    let l = fitting_length (keys_of row) vs f ∙ keys_length row h in
    let p : says_row row vs = five (says_row row) (λ a b c d e. each_at (λ row. says_row row (a ∷ b ∷ c ∷ d ∷ e ∷ [])) 11 (rows_say a b c d e) row h) vs l in
    let k = kept_fitting (keys_of row) vs f in
    (cc, cc)
