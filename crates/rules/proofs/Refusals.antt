-- When a call is refused, with what, and what a refusal leaves: once for all commands of the store, its queries, and the registry's calls.
-- Assumes nothing.
use Prim.Native.Nat.{ℕ}
use mathlib.Core.Path.{◌≡◌, refl, sym, ap}
use mathlib.Core.Bool.{true, false, true≢false, false≢true}
use mathlib.Core.List.{List, [], ◌∷◌}
use mathlib.Core.Logic.{◌↔◌, ◌⊎◌, inl, inr, ⊎_elim}
use native.Mathlib.Omega.{arith}
use Rattle.rules.specs.Limits.{Limits}
use Rattle.rules.specs.Answers.{Answer, Test, Verdict, Outcome, ◌⇒◌, refused, done, pass, stop, verdict, settle, carry}
use Rattle.rules.specs.Commands.{Result, Offered, offered}
use Rattle.rules.specs.Table.{Registry, Store}
use Rattle.rules.specs.Rows.{tests, result, effect, step}
use Rattle.rules.specs.Queries.{Query, Beside, beside, query_tests, query_result, reply}
use Rattle.rules.specs.RegistryRows.{Call, CallResult, call_tests, call_result, call_effect, registry_step}
use Rattle.rules.specs.declared.Command.{Command}
use Rattle.rules.specs.declared.Refusal.{Refusal}
use Rattle.rules.proofs.Clear.{pass≢stop}

-- the first test of the list whose condition holds gives r
abbrev pub First : List Test → Refusal → Type 0
First [] r = ⊥
First ((b ⇒ q) ∷ ts) r = ((b ≡ true) × (q ≡ r)) ⊎ ((b ≡ false) × First ts r)

pub first_exactly : (ts : List Test) (r : Refusal) → First ts r ↔ (verdict ts ≡ stop r)
first_exactly [] r = (λ f. absurd f, λ e. absurd (pass≢stop r e))
first_exactly ((true ⇒ q) ∷ ts) r = (⊎_elim (λ f. ap stop f.1) (λ f. absurd (true≢false f.0)), λ e. inl (refl, cc))
first_exactly ((false ⇒ q) ∷ ts) r =
    (⊎_elim (λ f. absurd (false≢true f.0)) (λ f. (first_exactly ts r).0 f.1), λ e. inr (refl, (first_exactly ts r).1 e))

-- what is answered to a verdict

done≢refused : {A B : Type 0} (x : A) (r : Refusal) (b : B) → ◌≡◌ {A = Answer A B} (done x) (refused r b) → ⊥
done≢refused x r b e = let z : ◌≡◌ {A = ℕ} 0 1 = cc in omega arith

module _ {A B : Type 0} (x : A) (b : B) where
  settle_refused : (v : Verdict) (r : Refusal) → (settle v x b ≡ refused r b) ↔ (v ≡ stop r)
  settle_refused pass r = (λ e. absurd (done≢refused x r b e), λ e. absurd (pass≢stop r e))
  settle_refused (stop q) r = (λ e. cc, λ e. cc)

  settle_done : (v : Verdict) → (settle v x b ≡ done x) ↔ (v ≡ pass)
  settle_done pass = (λ e. refl, λ e. refl)
  settle_done (stop q) = (λ e. absurd (done≢refused x q b (sym e)), λ e. absurd (pass≢stop q (sym e)))

  settle_refusal : (v : Verdict) (r : Refusal) (c : B) → settle v x b ≡ refused r c → c ≡ b
  settle_refusal pass r c e = absurd (done≢refused x r c e)
  settle_refusal (stop q) r c e = cc

  -- and what is left
  module _ {T : Type 0} (old new : T) where
    abbrev outcome : Verdict → Outcome T (Answer A B)
    outcome v = carry v old b x new

    carry_answer : (v : Verdict) → (outcome v).answer ≡ settle v x b
    carry_answer pass = refl
    carry_answer (stop q) = refl

    carry_refused : (v : Verdict) (r : Refusal) → ((outcome v).answer ≡ refused r b) ↔ (v ≡ stop r)
    carry_refused v r = rw (carry_answer v) (settle_refused v r)

    carry_done : (v : Verdict) → ((outcome v).answer ≡ done x) ↔ (v ≡ pass)
    carry_done v = rw (carry_answer v) (settle_done v)

    carry_refusal : (v : Verdict) (r : Refusal) (c : B) → (outcome v).answer ≡ refused r c → ((outcome v).table ≡ old) × (c ≡ b)
    carry_refusal pass r c e = absurd (done≢refused x r c e)
    carry_refusal (stop q) r c e = (refl, (cc))

    carry_effect : (v : Verdict) (y : A) → (outcome v).answer ≡ done y → ((outcome v).table ≡ new) × (y ≡ x)
    carry_effect pass y e = (refl, (cc))
    carry_effect (stop q) y e = absurd (done≢refused y q b (sym e))

    carry_keeps : (P : T → Type 0) (v : Verdict) → P old → (v ≡ pass → P new) → P (outcome v).table
    carry_keeps P pass h f = f refl
    carry_keeps P (stop r) h f = h

-- the commands of the store

module _ (L : Limits) (s : Store) (c : Command) where
  pub refused_exactly : (r : Refusal) → ((step L s c).answer ≡ refused r (offered c)) ↔ (verdict (tests L s c) ≡ stop r)
  unfolding step
  refused_exactly = carry_refused (result s c) (offered c) s (effect s c) (verdict (tests L s c))

  pub carried_out_exactly : ((step L s c).answer ≡ done (result s c)) ↔ (verdict (tests L s c) ≡ pass)
  unfolding step
  carried_out_exactly = carry_done (result s c) (offered c) s (effect s c) (verdict (tests L s c))

  -- every refusal keeps the whole table, and hands back what was offered
  pub refusal_keeps : (r : Refusal) (b : Offered c) → (step L s c).answer ≡ refused r b → ((step L s c).table ≡ s) × (b ≡ offered c)
  unfolding step
  refusal_keeps = carry_refusal (result s c) (offered c) s (effect s c) (verdict (tests L s c))

  -- whatever is answered without refusal is the row's result, and the row's effect is left
  pub done_leaves : (x : Result c) → (step L s c).answer ≡ done x → ((step L s c).table ≡ effect s c) × (x ≡ result s c)
  unfolding step
  done_leaves = carry_effect (result s c) (offered c) s (effect s c) (verdict (tests L s c))

  -- what holds of the table before a command, and after its effect where it is carried out
  pub step_keeps : (P : Store → Type 0) → P s → (verdict (tests L s c) ≡ pass → P (effect s c)) → P (step L s c).table
  unfolding step
  step_keeps P = carry_keeps (result s c) (offered c) s (effect s c) P (verdict (tests L s c))

-- its queries

module _ (L : Limits) (s : Store) (q : Query) where
  pub query_refused_exactly : (r : Refusal) → (reply L s q ≡ refused r (beside q)) ↔ (verdict (query_tests L s q) ≡ stop r)
  unfolding reply
  query_refused_exactly = settle_refused (query_result s q) (beside q) (verdict (query_tests L s q))

  pub query_answered_exactly : (reply L s q ≡ done (query_result s q)) ↔ (verdict (query_tests L s q) ≡ pass)
  unfolding reply
  query_answered_exactly = settle_done (query_result s q) (beside q) (verdict (query_tests L s q))

  -- beside every refusal stands the blank
  pub query_refusal : (r : Refusal) (b : Beside q) → reply L s q ≡ refused r b → b ≡ beside q
  unfolding reply
  query_refusal = settle_refusal (query_result s q) (beside q) (verdict (query_tests L s q))

-- the calls of the registry, where nothing stands beside a refusal

module _ (L : Limits) (t : Registry) (c : Call) where
  pub call_refused_exactly : (r : Refusal) → ((registry_step L t c).answer ≡ refused r tt) ↔ (verdict (call_tests L t c) ≡ stop r)
  unfolding registry_step
  call_refused_exactly = carry_refused (call_result t c) tt t (call_effect t c) (verdict (call_tests L t c))

  pub call_carried_out_exactly : ((registry_step L t c).answer ≡ done (call_result t c)) ↔ (verdict (call_tests L t c) ≡ pass)
  unfolding registry_step
  call_carried_out_exactly = carry_done (call_result t c) tt t (call_effect t c) (verdict (call_tests L t c))

  pub call_refusal_keeps : (r : Refusal) (b : Unit {0}) → (registry_step L t c).answer ≡ refused r b → ((registry_step L t c).table ≡ t) × (b ≡ tt)
  unfolding registry_step
  call_refusal_keeps = carry_refusal (call_result t c) tt t (call_effect t c) (verdict (call_tests L t c))

  pub call_done_leaves : (x : CallResult c) → (registry_step L t c).answer ≡ done x
      → ((registry_step L t c).table ≡ call_effect t c) × (x ≡ call_result t c)
  unfolding registry_step
  call_done_leaves = carry_effect (call_result t c) tt t (call_effect t c) (verdict (call_tests L t c))

  pub call_step_keeps : (P : Registry → Type 0) → P t → (verdict (call_tests L t c) ≡ pass → P (call_effect t c)) → P (registry_step L t c).table
  unfolding registry_step
  call_step_keeps P = carry_keeps (call_result t c) tt t (call_effect t c) P (verdict (call_tests L t c))
