-- The number of an answer with the offered handle is that of the rules' answer which the contract fixes.
-- Assumes nothing.
use Prim.Native.Nat.{ℕ}
use mathlib.Core.Path.{◌≡◌, refl}
use Rattle.rules.specs.Answers.{Answer, refused, done, answer_number}
use Rattle.store.specs.Answers.{rejected_of}
use Rattle.numbers.specs.Store.{rejected_number}

pub rejected_same : {A : Type 0} (a : Answer A ℕ) → rejected_number (rejected_of a) ≡ answer_number a
rejected_same (refused r h) = refl
rejected_same (done x) = refl
