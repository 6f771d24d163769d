-- A response says as much as the answer it stands for.
-- Assumes nothing.
use mathlib.Core.Path.{◌≡◌, refl, sym, ap, ◌∙◌}
use native.Mathlib.Omega.{arith}
use Rattle.rules.specs.Refusals.{refusal_number}
use Rattle.rules.specs.Answers.{Answer, refused, done, answer_number}
use Rattle.rules.specs.Commands.{Result, Offered, AnswerTo, answer_values}
use Rattle.rules.specs.Responses.{refusal_of, result_of, response_of, response_number, response_values}
use Rattle.rules.specs.declared.Refusal.{Refusal}
use Rattle.rules.specs.declared.Refusal.TheVariants.{Unknown, Revoked, Conflict, Relied, Visible, Released, Capacity, InvalidState, BadTable, Absent}
use Rattle.rules.specs.declared.Command.{Command}
use Rattle.rules.specs.declared.Command.TheVariants.{Publish, Adopt, Acquire, Release, Revoke, Replace, Reclaim, Read, Observe, Resolve, Count}

pub same_number : (c : Command) (a : AnswerTo c) → response_number (response_of c a) ≡ answer_number a
same_number (Publish o g q v) (refused r b) = refl
same_number (Publish o g q v) (done x) = refl
same_number (Adopt p o g) (refused r b) = refl
same_number (Adopt p o g) (done x) = refl
same_number (Acquire p o g) (refused r b) = refl
same_number (Acquire p o g) (done x) = refl
same_number (Release i) (refused r b) = refl
same_number (Release i) (done x) = refl
same_number (Revoke p) (refused r b) = refl
same_number (Revoke p) (done x) = refl
same_number (Replace p o g v) (refused r b) = refl
same_number (Replace p o g v) (done x) = refl
same_number (Reclaim p) (refused r b) = refl
same_number (Reclaim p) (done x) = refl
same_number (Read i) (refused r b) = refl
same_number (Read i) (done x) = refl
same_number (Observe p) (refused r b) = refl
same_number (Observe p) (done x) = refl
same_number (Resolve q) (refused r b) = refl
same_number (Resolve q) (done x) = refl
same_number Count (refused r b) = refl
same_number Count (done x) = refl

pub same_values : (c : Command) (a : AnswerTo c) → response_values (response_of c a) ≡ answer_values c a
same_values (Publish o g q v) (refused r b) = refl
same_values (Publish o g q v) (done x) = refl
same_values (Adopt p o g) (refused r b) = refl
same_values (Adopt p o g) (done x) = refl
same_values (Acquire p o g) (refused r b) = refl
same_values (Acquire p o g) (done x) = refl
same_values (Release i) (refused r b) = refl
same_values (Release i) (done x) = refl
same_values (Revoke p) (refused r b) = refl
same_values (Revoke p) (done x) = refl
same_values (Replace p o g v) (refused r b) = refl
same_values (Replace p o g v) (done x) = refl
same_values (Reclaim p) (refused r b) = refl
same_values (Reclaim p) (done x) = refl
same_values (Read i) (refused r b) = refl
same_values (Read i) (done x) = refl
same_values (Observe p) (refused r b) = refl
same_values (Observe p) (done x) = refl
same_values (Resolve q) (refused r b) = refl
same_values (Resolve q) (done x) = refl
same_values Count (refused r b) = refl
same_values Count (done x) = refl

-- two answers to one command that give the same response are one

alone : {A : Type 0} {r s : Refusal} → r ≡ s → ◌≡◌ {A = Answer A (Unit {0})} (refused r tt) (refused s tt)
alone e = ap (λ (z : Refusal). refused z tt) e

refusals_one : (c : Command) (r s : Refusal) (a b : Offered c) → refusal_of c r a ≡ refusal_of c s b → ◌≡◌ {A = AnswerTo c} (refused r a) (refused s b)
refusals_one (Publish o g q v) r s a b e = cc
refusals_one (Adopt p o g) r s a b e = alone (cc)
refusals_one (Acquire p o g) r s a b e = alone (cc)
refusals_one (Release i) r s a b e = alone (cc)
refusals_one (Revoke p) r s a b e = alone (cc)
refusals_one (Replace p o g v) r s a b e = cc
refusals_one (Reclaim p) r s a b e = alone (cc)
refusals_one (Read i) r s a b e = alone (cc)
refusals_one (Observe p) r s a b e = alone (cc)
refusals_one (Resolve q) r s a b e = alone (cc)
refusals_one Count r s a b e = alone (cc)

results_one : (c : Command) (x y : Result c) → result_of c x ≡ result_of c y → x ≡ y
results_one (Publish o g q v) x y e = cc
results_one (Adopt p o g) x y e = refl
results_one (Acquire p o g) x y e = cc
results_one (Release i) x y e = refl
results_one (Revoke p) x y e = refl
results_one (Replace p o g v) x y e = cc
results_one (Reclaim p) x y e = cc
results_one (Read i) x y e = cc
results_one (Observe p) x y e = cc
results_one (Resolve q) x y e = cc
results_one Count x y e = cc

pub no_refusal : (r : Refusal) → refusal_number r ≡ 0 → ⊥
no_refusal Unknown e = omega arith
no_refusal Revoked e = omega arith
no_refusal Conflict e = omega arith
no_refusal Relied e = omega arith
no_refusal Visible e = omega arith
no_refusal Released e = omega arith
no_refusal Capacity e = omega arith
no_refusal InvalidState e = omega arith
no_refusal BadTable e = omega arith
no_refusal Absent e = omega arith

pub same_answer : (c : Command) (a b : AnswerTo c) → response_of c a ≡ response_of c b → a ≡ b
same_answer c (refused r a) (refused s b) e = refusals_one c r s a b e
same_answer c (refused r a) (done y) e =
    absurd (no_refusal r (sym (same_number c (refused r a)) ∙ ap response_number e ∙ same_number c (done y)))
same_answer c (done x) (refused s b) e =
    absurd (no_refusal s (sym (same_number c (refused s b)) ∙ ap response_number (sym e) ∙ same_number c (done x)))
same_answer c (done x) (done y) e = ap (λ (z : Result c). done z) (results_one c x y e)
