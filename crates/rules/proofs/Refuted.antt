-- No broken broker meets the demands: to each the commands that show it.
-- Assumes nothing.
use Prim.Native.Nat.{ℕ}
use mathlib.Core.Path.{◌≡◌, refl, ap}
use mathlib.Core.Logic.{◌≢◌}
use mathlib.Core.List.{List, [], ◌∷◌}
use mathlib.Core.Option.{none, some}
use native.Mathlib.Omega.{arith}
use lib.ListN.{get_or}
use Rattle.rules.specs.Limits.{box}
use Rattle.rules.specs.Answers.{answer_number}
use Rattle.rules.specs.Commands.{AnswerTo, answer_values}
use Rattle.rules.specs.Table.{Store, payload_of}
use Rattle.rules.specs.Rows.{step}
use Rattle.rules.specs.Probes.{publish, acquire, release, revoke, replace, reclaim, read, count, empty, given}
use Rattle.rules.specs.Broker.{events, run, told}
use Rattle.rules.specs.History.{holding}
use Rattle.rules.specs.Demand2.{Demand2, Demand2Table, by_the_rows}
use Rattle.rules.specs.Demand3.{Demand3}
use Rattle.rules.specs.Broken.{refuses_everything, tests_port_against_retained, answers_6_for_never_given, reclaims_under_lease, hands_back_the_same, hands_back_the_new, invents_the_count, releases_nothing, releases_all, leaves_the_handle_behind, idle, idle_answer}
use Rattle.rules.specs.declared.PublicationId.{PublicationId}
use Rattle.rules.specs.declared.LeaseId.{LeaseId}
use Rattle.rules.specs.declared.Command.{Command}
use Rattle.rules.specs.declared.Command.TheVariants.{Publish, Adopt, Acquire, Release, Revoke, Replace, Reclaim, Read, Observe, Resolve, Count}

abbrev pub zeroth : PublicationId
zeroth = record { 0 = 0 }

-- what is wrong shows in a number: of the answer, or its first value

abbrev number_in : (c : Command) → AnswerTo c → ℕ
number_in c a = answer_number a

abbrev value_in : (c : Command) → AnswerTo c → ℕ
value_in c a = get_or (answer_values c a) 0 0

-- the second demand: one answer that is not that of the rows

pub refuses_everything_fails : ¬ Demand2 box empty (refuses_everything box)
unfolding run step
refuses_everything_fails d =
    let e : ◌≡◌ {A = ℕ} 1 0 = ap (number_in (publish 4 0 7 900)) (d [] (publish 4 0 7 900)) in omega arith

pub tests_port_against_retained_fails : ¬ Demand2 box empty (tests_port_against_retained box)
unfolding run step
tests_port_against_retained_fails d =
    let e : ◌≡◌ {A = ℕ} 3 0 = ap (number_in (publish 5 0 7 901)) (d (publish 4 0 7 900 ∷ revoke 0 ∷ []) (publish 5 0 7 901)) in omega arith

pub answers_6_for_never_given_fails : ¬ Demand2 box empty (answers_6_for_never_given box)
unfolding run step
answers_6_for_never_given_fails d = let e : ◌≡◌ {A = ℕ} 6 1 = ap (number_in (read 5)) (d [] (read 5)) in omega arith

pub releases_nothing_fails_second : ¬ Demand2 box empty (releases_nothing box)
unfolding run step
releases_nothing_fails_second d =
    let e : ◌≡◌ {A = ℕ} 0 6 = ap (number_in (read 0)) (d (publish 4 0 7 900 ∷ acquire 0 5 1 ∷ release 0 ∷ acquire 0 5 1 ∷ []) (read 0)) in
    omega arith

-- the whole table: a handle that stays in a reclaimed cell shows in no answer

pub leaves_the_handle_behind_fails : ¬ Demand2Table box empty (leaves_the_handle_behind box) (λ s. s)
unfolding run step
leaves_the_handle_behind_fails d =
    let e : ◌≡◌ {A = ℕ} 900 0 = ap (λ (s : Store). payload_of s zeroth) (d (publish 4 0 7 900 ∷ revoke 0 ∷ reclaim 0 ∷ [])) in omega arith

-- the third demand: the clause that fails, and where

pub some_handle : {h : ℕ} → some h ≢ none
some_handle e = let z : ◌≡◌ {A = ℕ} 0 1 = cc in omega arith

pub some_lease : {i : LeaseId} {is : List LeaseId} → i ∷ is ≢ []
some_lease e = let z : ◌≡◌ {A = ℕ} 0 1 = cc in omega arith

pub hands_back_the_same_fails : ¬ Demand3 [] (hands_back_the_same box)
unfolding run told
hands_back_the_same_fails d =
    let e : ◌≡◌ {A = ℕ} 900 901 =
    ap (value_in (reclaim 0)) (d.returned (publish 4 0 7 901 ∷ []) [] zeroth 901 (record { stands = some_handle; carried_out = refl }) refl refl) in
    omega arith

pub releases_nothing_fails : ¬ Demand3 [] (releases_nothing box)
unfolding run told
releases_nothing_fails d =
    let e : ◌≡◌ {A = ℕ} 4 0 =
    ap (number_in (reclaim 0))
    (d.returned (publish 4 0 7 900 ∷ acquire 0 5 1 ∷ []) (release 0 ∷ []) zeroth 900 (record { stands = some_handle; carried_out = refl }) refl refl) in
    omega arith

pub releases_all_fails : ¬ Demand3 [] (releases_all box)
unfolding run told
releases_all_fails d =
    let e : ◌≡◌ {A = ℕ} 0 4 =
    ap (number_in (reclaim 0))
    (d.relied (publish 4 0 7 900 ∷ acquire 0 5 1 ∷ acquire 0 6 1 ∷ []) (release 0 ∷ []) zeroth (record { stands = some_handle; carried_out = refl }) some_lease) in
    omega arith

pub reclaims_under_lease_fails : ¬ Demand3 [] (reclaims_under_lease box)
unfolding run told
reclaims_under_lease_fails d =
    let e : ◌≡◌ {A = ℕ} 0 4 =
    ap (number_in (reclaim 0))
    (d.relied (publish 4 0 7 900 ∷ acquire 0 5 1 ∷ []) [] zeroth (record { stands = some_handle; carried_out = refl }) some_lease) in
    omega arith

pub hands_back_the_new_fails : ¬ Demand3 [] (hands_back_the_new box)
unfolding run told
hands_back_the_new_fails d =
    let e : ◌≡◌ {A = ℕ} 1 0 = d.ledger (publish 4 0 7 900 ∷ replace 0 4 0 901 ∷ []) 900 in omega arith

pub invents_the_count_fails : ¬ Demand3 [] (invents_the_count box)
unfolding run told
invents_the_count_fails d =
    let e : ◌≡◌ {A = ℕ} 1 0 = ap (value_in count) (d.counted (publish 4 0 7 900 ∷ revoke 0 ∷ reclaim 0 ∷ [])) in omega arith

-- a store that is said to start empty, and has a handle in it
pub starts_with_one_fails : ¬ Demand3 [] (by_the_rows box (given 0 0))
unfolding run told step
starts_with_one_fails d =
    let e : ◌≡◌ {A = ℕ} 900 0 = ap (λ (hs : List ℕ). get_or hs 0 0) (d.no_other [] zeroth refl) in omega arith

-- the third demand alone does not make a broker accept anything: one that is idle meets it, and fails the second

idle_tells : (cs : List Command) → told idle tt cs ≡ []
unfolding told
idle_tells [] = refl
idle_tells (c ∷ cs) = rw (idle_tells cs, quiet c)
  where
    quiet : (c : Command) → events c (idle_answer c) ≡ []
    quiet (Publish o g q v) = refl
    quiet (Adopt p o g) = refl
    quiet (Acquire p o g) = refl
    quiet (Release i) = refl
    quiet (Revoke p) = refl
    quiet (Replace p o g v) = refl
    quiet (Reclaim p) = refl
    quiet (Read i) = refl
    quiet (Observe p) = refl
    quiet (Resolve q) = refl
    quiet Count = refl

pub idle_meets_third : Demand3 [] idle
idle_meets_third =
    record {
      relied = λ cs ds p v n. absurd (v.stands (ap (holding p) (idle_tells cs)));
      returned = λ cs ds p h v e x. absurd (v.stands (ap (holding p) (idle_tells cs)));
      ledger = λ cs h. rw (idle_tells cs);
      counted = λ cs. rw (idle_tells cs);
      no_other = λ cs p a. refl;
    }

pub idle_fails_second : ¬ Demand2 box empty idle
unfolding run step
idle_fails_second d = let e : ◌≡◌ {A = ℕ} 7 0 = ap (number_in (publish 4 0 7 900)) (d [] (publish 4 0 7 900)) in omega arith
