-- Two answers that the code gives alike are one.
-- Assumes nothing.
use Prim.Native.Nat.{ℕ}
use mathlib.Core.Path.{◌≡◌, ap}
use Rattle.rules.specs.Answers.{Answer, refused, done}
use Rattle.rules.specs.declared.Refusal.{Refusal}
use Rattle.rules.specs.declared.Rejected.{Rejected}
use Rattle.registry.specs.Answers.{Reply, result_of}
use Rattle.store.specs.Answers.{rejected_of}

-- nothing stands beside a refusal
alone : {A : Type 0} {r q : Refusal} → r ≡ q → ◌≡◌ {A = Reply A} (refused r tt) (refused q tt)
alone e = ap (λ (z : Refusal). refused z tt) e

pub result_one : {A : Type 0} (a b : Reply A) → result_of a ≡ result_of b → a ≡ b
result_one (refused r b) (refused q c) e = alone (cc)
result_one (refused r b) (done y) e = cc
result_one (done x) (refused q c) e = cc
result_one (done x) (done y) e = cc

-- the offered handle stands beside a refusal
pub rejected_one : {A : Type 0} (a b : Answer A ℕ) → rejected_of a ≡ rejected_of b → a ≡ b
rejected_one (refused r b) (refused q c) e =
    let k : ◌≡◌ {A = Rejected} (record { why = r; handle = b }) (record { why = q; handle = c }) = cc in
    rw (ap (λ x. x.why) k, ap (λ x. x.handle) k)
rejected_one (refused r b) (done y) e = cc
rejected_one (done x) (refused q c) e = cc
rejected_one (done x) (done y) e = cc
