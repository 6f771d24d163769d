-- A session meets the third demand's premises, and sentences next to the demand are false of sessions: Relied after the last release as well,
-- success before it, success of every later reclaim, the first handle, handles only handed back, a count of all handles accepted.
-- Assumes nothing.
use Rattle.std.specs.Prelude.{None}
use Prim.Native.Nat.{ℕ}
use mathlib.Core.Path.{◌≡◌, refl, ap}
use mathlib.Core.Logic.{◌≢◌}
use mathlib.Core.List.{List, [], ◌∷◌, ◌++◌}
use mathlib.Core.Option.{none}
use native.Mathlib.Omega.{arith}
use lib.ListN.{length, drop}
use Rattle.rules.specs.Limits.{box}
use Rattle.rules.specs.Answers.{refused, done}
use Rattle.rules.specs.Commands.{AnswerTo}
use Rattle.rules.specs.Table.{empty_store}
use Rattle.rules.specs.Rows.{step}
use Rattle.rules.specs.Probes.{publish, acquire, release, revoke, replace, reclaim}
use Rattle.rules.specs.Broker.{Event, began, run}
use Rattle.rules.specs.History.{accepted, handed_back, times, holding}
use Rattle.rules.specs.declared.PublicationId.{PublicationId}
use Rattle.rules.specs.declared.Refusal.TheVariants.{Relied, Released}
use Rattle.rules.specs.declared.Command.{Command}
use Rattle.rules.specs.declared.Command.TheVariants.{Reclaim, Count}
use Rattle.rules.proofs.KeepsStore.{empty_sound}
use Rattle.store.specs.declared.PublicationStore.{PublicationStore}
use Rattle.demands.specs.Calls.{stored, Called}
use Rattle.demands.specs.Sessions.{Exchange, Session, ◌answered◌, happened, by_the_rules}
use Rattle.demands.specs.Demand3.{left, Wiping, Next}
use Rattle.demands.proofs.Calls.{answer_on, store_after, calls}
use Rattle.demands.proofs.Sessions.{makes, rows, led}
use Rattle.demands.proofs.Ledger.{called_so}

-- any commands, from an empty store without domain

abbrev last : List Command → PublicationStore
last cs = stored (run (rows (empty_store None)) (empty_store None) cs)

session : (cs : List Command) → Session (by_the_rules (empty_store None) cs) (last cs)
session cs =
    record {
      domain = None;
      first = stored (empty_store None);
      made = makes None;
      leads = led (empty_store None) cs (empty_store None) (empty_sound box None);
    }

abbrev zeroth : PublicationId
zeroth = record { 0 = 0 }

-- a publication begins with one handle, is leased, and is given another
abbrev earlier : List Exchange
earlier =
    (publish 4 0 7 900 answered done zeroth)
    ∷ (acquire 0 5 1 answered done (record { 0 = 0 }))
    ∷ (replace 0 4 0 901 answered done 900)
    ∷ []

stands : holding zeroth (happened earlier) ≢ none
stands e = let z : ◌≡◌ {A = ℕ} 0 1 = cc in omega arith

-- it is revoked; then come a reclaim that is too early, the release, the next reclaim, and one more

abbrev to_the_revoke : List Command
to_the_revoke = publish 4 0 7 900 ∷ acquire 0 5 1 ∷ replace 0 4 0 901 ∷ revoke 0 ∷ []

abbrev between : List Exchange
between = (reclaim 0 answered refused Relied tt) ∷ (release 0 answered done tt) ∷ []

early : Wiping zeroth earlier [] (refused Relied tt)
unfolding step
early = record { later = []; store = _; session = session (to_the_revoke ++ reclaim 0 ∷ []); stands = stands }

drained : Wiping zeroth earlier between (done 901)
unfolding step
drained = record { later = []; store = _; session = session (to_the_revoke ++ reclaim 0 ∷ release 0 ∷ reclaim 0 ∷ []); stands = stands }

again : Wiping zeroth earlier (between ++ (reclaim 0 answered done 901) ∷ []) (refused Released tt)
unfolding step
again =
    record { later = []; store = _; session = session (to_the_revoke ++ reclaim 0 ∷ release 0 ∷ reclaim 0 ∷ reclaim 0 ∷ []); stands = stands }

-- which of them is the next

no_part : (before after : List Exchange) (x : Exchange) → [] ≡ before ++ x ∷ after → ⊥
no_part [] after x e = let z : ◌≡◌ {A = ℕ} 0 1 = cc in omega arith
no_part (y ∷ ys) after x e = let z : ◌≡◌ {A = ℕ} 0 1 = cc in omega arith

early_next : Next zeroth earlier []
early_next before after b e = absurd (no_part before after (Reclaim zeroth answered b) e)

drained_next : Next zeroth earlier between
drained_next [] after b e = λ n. let z : ◌≡◌ {A = ℕ} 0 1 = cc in omega arith
drained_next (y ∷ []) after b e =
    let m : release 0 ≡ reclaim 0 = ap (λ (x : Exchange). x.command) (second e) in
    let z : ◌≡◌ {A = ℕ} 0 1 = cc in
    absurd (omega arith)
  where
    second : between ≡ y ∷ (Reclaim zeroth answered b) ∷ after → ◌≡◌ {A = Exchange} (release 0 answered done tt) (Reclaim zeroth answered b)
    second e = cc
drained_next (y ∷ x ∷ xs) after b e = absurd (no_part xs after (Reclaim zeroth answered b) (ap (drop 2) e))

-- not: Relied, after the last release as well
pub not_relied_for_ever : ((p : PublicationId) (xs ys : List Exchange) (a : AnswerTo (Reclaim p)) → Wiping p xs ys a → a ≡ refused Relied tt) → ⊥
not_relied_for_ever f =
    let e : ◌≡◌ {A = AnswerTo (Reclaim zeroth)} (done 901) (refused Relied tt) = f zeroth earlier between (done 901) drained in
    let z : ◌≡◌ {A = ℕ} 0 1 = cc in
    omega arith

-- not: success, before the last release as well
pub not_returned_at_once : ((p : PublicationId) (xs ys : List Exchange) (a : AnswerTo (Reclaim p)) → Wiping p xs ys a → Next p xs ys → (h : ℕ) × (a ≡ done h)) → ⊥
not_returned_at_once f =
    let e = f zeroth earlier [] (refused Relied tt) early early_next in
    let z : ◌≡◌ {A = ℕ} 0 1 = cc e.1 in
    omega arith

-- not: success of every later reclaim
pub not_returned_twice : ((p : PublicationId) (xs ys : List Exchange) (a : AnswerTo (Reclaim p)) → Wiping p xs ys a → left p xs ys ≡ [] → (h : ℕ) × (a ≡ done h)) → ⊥
not_returned_twice f =
    let e = f zeroth earlier (between ++ (reclaim 0 answered done 901) ∷ []) (refused Released tt) again refl in
    let z : ◌≡◌ {A = ℕ} 0 1 = cc e.1 in
    omega arith

-- not: the handle with which the publication began
pub not_the_first_handle : ((p : PublicationId) (xs ys : List Exchange) (a : AnswerTo (Reclaim p)) → Wiping p xs ys a → left p xs ys ≡ [] → Next p xs ys
    → (h : ℕ) (es : List Event) → happened xs ≡ began p h ∷ es → a ≡ done h) → ⊥
not_the_first_handle f =
    let e : ◌≡◌ {A = AnswerTo (Reclaim zeroth)} (done 901) (done 900) = f zeroth earlier between (done 901) drained refl drained_next 900 _ refl in
    let z : ◌≡◌ {A = ℕ} 901 900 = cc in
    omega arith

-- not: each handle accepted was handed back
pub not_all_handed_back : ((xs : List Exchange) (t : PublicationStore) → Session xs t → (h : ℕ) → times h (accepted (happened xs)) ≡ times h (handed_back (happened xs))) → ⊥
unfolding step
not_all_handed_back f =
    let e : ◌≡◌ {A = ℕ} 1 0 = f ((publish 4 0 7 900 answered done zeroth) ∷ []) _ (session (publish 4 0 7 900 ∷ [])) 900 in
    omega arith

-- not: the count is that of all handles accepted
pub not_a_count_of_all : ((xs : List Exchange) (t : PublicationStore) → Session xs t → (a : AnswerTo Count) (u : PublicationStore) → Called Count t a u → a ≡ done (length (accepted (happened xs)))) → ⊥
unfolding step run
not_a_count_of_all f =
    let xs : List Exchange = (publish 4 0 7 900 answered done zeroth) ∷ (replace 0 4 0 901 answered done 900) ∷ [] in
    let cs : List Command = publish 4 0 7 900 ∷ replace 0 4 0 901 ∷ [] in
    let h = calls Count (last cs) in
    let two : answer_on (last cs) Count ≡ done 2 = f xs (last cs) (session cs) (answer_on (last cs) Count) (store_after (last cs) Count) h in
    let one : answer_on (last cs) Count ≡ done 1 = called_so xs (last cs) (session cs) Count (answer_on (last cs) Count) (store_after (last cs) Count) h in
    let z : ◌≡◌ {A = AnswerTo Count} (done 1) (done 2) = cc in
    let y : ◌≡◌ {A = ℕ} 1 2 = cc in
    omega arith
