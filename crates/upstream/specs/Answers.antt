-- How upstream's clauses read an answer: `Ok` is carried out, `Err` is a refusal, and `None` of a query is Absent.
-- Assumes nothing.
use Rattle.std.specs.Prelude.{◌≡◌, Bool, true, false}
use Rattle.std.proofs.Math.Option.{Option, none, some}
use Rattle.rules.specs.Answers.{Answer, refused, done}
use Rattle.rules.specs.declared.Refusal.{Refusal}
use Rattle.rules.specs.declared.Refusal.TheVariants.{Absent}

module _ {A B : Type 0} where
  abbrev pub is_ok : Answer A B → Bool
  is_ok (refused r b) = false
  is_ok (done x) = true

  -- `out.is_ok() ==> P`, of the value in `Ok`
  abbrev pub IfOk : Answer A B → (A → Type 0) → Type 0
  IfOk out P = (x : A) → out ≡ done x → P x

  -- `out.is_err() ==> P`, of what stands beside the refusal
  abbrev pub IfErr : Answer A B → (B → Type 0) → Type 0
  IfErr out P = (r : Refusal) (b : B) → out ≡ refused r b → P b

module _ {A : Type 0} where
  abbrev pub is_some : Option A → Bool
  is_some none = false
  is_some (some x) = true

  -- an `Option` as an answer
  abbrev pub optional : Option A → Answer A (Unit {0})
  optional none = refused Absent tt
  optional (some x) = done x
