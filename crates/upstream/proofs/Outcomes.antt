-- What holds of any call on a sound table: where it is carried out, where it is refused, and in both cases.
-- Assumes nothing.
use Prim.Native.Nat.{ℕ}
use mathlib.Core.Path.{◌≡◌, refl, sym, ap, subst, ◌∙◌}
use mathlib.Core.Bool.{true, false≢true}
use mathlib.Core.Logic.Iff
use mathlib.Core.Logic.{◌↔◌}
use native.Mathlib.Omega.{arith}
use Rattle.rules.specs.Limits.{Limits}
use Rattle.rules.specs.Answers.{Verdict, refused, done, pass, stop, verdict, settle, carry}
use Rattle.rules.specs.Commands.{Result, offered}
use Rattle.rules.specs.Table.{Registry, Store}
use Rattle.rules.specs.Rows.{tests, result, effect, step}
use Rattle.rules.specs.Queries.{Query, QueryResult, beside, query_tests, query_result, reply}
use Rattle.rules.specs.RegistryRows.{Call, CallResult, call_tests, call_result, call_effect, registry_step}
use Rattle.rules.specs.Sound.{RegistrySound, StoreSound}
use Rattle.rules.specs.declared.Command.{Command}
use Rattle.rules.specs.declared.Refusal.{Refusal}
use Rattle.rules.proofs.Clear.{Clear, pass≢stop, clear, clear_passes}
use Rattle.rules.proofs.Refusals.{First, first_exactly, step_keeps, refusal_keeps, done_leaves, carried_out_exactly, refused_exactly, call_refusal_keeps, call_done_leaves, call_carried_out_exactly, call_refused_exactly, query_refused_exactly}
use Rattle.rules.proofs.KeepsRegistry.{registry_step_sound}
use Rattle.rules.proofs.KeepsStore.{step_sound}
use Rattle.upstream.specs.Answers.{is_ok, IfOk, IfErr}
use Rattle.upstream.specs.Registry.{Unchanged, RegistryWf}
use Rattle.upstream.specs.Store.{StoreWf, Same, LeaseFrame}
use Rattle.upstream.proofs.Wf.{sound_wf, store_sound_wf}

-- a table that stays is unchanged

pub unchanged : (now prior : Registry) → now ≡ prior → Unchanged now prior
unchanged now prior e =
    record {
      D6_1 = ap (λ (t : Registry). t.domain) e;
      D6_2 = ap (λ (t : Registry). t.publications) e;
      D6_3 = ap (λ (t : Registry). t.leases) e;
      D6_4 = ap (λ (t : Registry). t.counter) e;
    }

pub same : (now prior : Store) → now ≡ prior → Same now prior
same now prior e = subst (λ (s : Store). Same s prior) (sym e) (record { D14_1 = unchanged prior.registry prior.registry refl; D14_2 = refl; D14_3 = refl })

-- an answer is `Ok` exactly where no test stops the call

module _ {A B : Type 0} (x : A) (b : B) where
  settle_ok : (v : Verdict) → (is_ok (settle v x b) ≡ true) ↔ (v ≡ pass)
  settle_ok pass = (λ e. refl, λ e. refl)
  settle_ok (stop r) = (λ e. absurd (false≢true e), λ e. absurd (pass≢stop r (sym e)))

  settle_done : (v : Verdict) (y : A) → settle v x b ≡ done y → (v ≡ pass) × (y ≡ x)
  settle_done pass y e = (refl, (cc))
  settle_done (stop r) y e = let z : ◌≡◌ {A = ℕ} 0 1 = cc in absurd (omega arith)

  carry_ok : {T : Type 0} (old new : T) (v : Verdict) → (is_ok (carry v old b x new).answer ≡ true) ↔ (v ≡ pass)
  carry_ok old new pass = (λ e. refl, λ e. refl)
  carry_ok old new (stop r) = (λ e. absurd (false≢true e), λ e. absurd (pass≢stop r (sym e)))

-- the registry's calls

module _ (L : Limits) (t : Registry) (k : Call) where
  pub call_done : (is_ok (registry_step L t k).answer ≡ true) ↔ ((registry_step L t k).answer ≡ done (call_result t k))
  unfolding registry_step
  call_done =
      Iff.trans (carry_ok (call_result t k) tt t (call_effect t k) (verdict (call_tests L t k))) (Iff.symm (call_carried_out_exactly L t k))

  pub call_ok : (is_ok (registry_step L t k).answer ≡ true) ↔ Clear (call_tests L t k)
  call_ok = Iff.trans call_done (Iff.trans (call_carried_out_exactly L t k) (clear (call_tests L t k), clear_passes (call_tests L t k)))

  -- the refusal is that of the first test that holds, in the order of the row
  pub call_refusals : (r : Refusal) → ((registry_step L t k).answer ≡ refused r tt) ↔ First (call_tests L t k) r
  call_refusals r = Iff.trans (call_refused_exactly L t k r) (Iff.symm (first_exactly (call_tests L t k) r))

  pub call_unchanged : IfErr (registry_step L t k).answer (λ b. Unchanged (registry_step L t k).table t)
  call_unchanged r b e = unchanged (registry_step L t k).table t (call_refusal_keeps L t k r b e).0

  pub call_wf : RegistrySound L t → RegistryWf (registry_step L t k).table
  call_wf s = sound_wf L (registry_step L t k).table (registry_step_sound L t k s)

  pub call_if_ok : (P : CallResult k → Registry → Type 0) → (Clear (call_tests L t k) → P (call_result t k) (call_effect t k))
      → IfOk (registry_step L t k).answer (λ x. P x (registry_step L t k).table)
  call_if_ok P f x e =
      let m = call_done_leaves L t k x e in
      subst (λ (z : CallResult k). P z (registry_step L t k).table) (sym m.1)
      (subst (P (call_result t k)) (sym m.0) (f (clear (call_tests L t k) ((call_carried_out_exactly L t k).0 (e ∙ ap done m.1)))))

-- the store's commands

module _ (L : Limits) (s : Store) (c : Command) where
  pub command_done : (is_ok (step L s c).answer ≡ true) ↔ ((step L s c).answer ≡ done (result s c))
  unfolding step
  command_done =
      Iff.trans (carry_ok (result s c) (offered c) s (effect s c) (verdict (tests L s c))) (Iff.symm (carried_out_exactly L s c))

  pub command_ok : (is_ok (step L s c).answer ≡ true) ↔ Clear (tests L s c)
  command_ok = Iff.trans command_done (Iff.trans (carried_out_exactly L s c) (clear (tests L s c), clear_passes (tests L s c)))

  pub command_refusals : (r : Refusal) → ((step L s c).answer ≡ refused r (offered c)) ↔ First (tests L s c) r
  command_refusals r = Iff.trans (refused_exactly L s c r) (Iff.symm (first_exactly (tests L s c) r))

  pub command_same : IfErr (step L s c).answer (λ b. Same (step L s c).table s)
  command_same r b e = same (step L s c).table s (refusal_keeps L s c r b e).0

  -- what was offered comes back
  pub command_returns : IfErr (step L s c).answer (λ b. b ≡ offered c)
  command_returns r b e = (refusal_keeps L s c r b e).1

  pub command_wf : StoreSound L s → StoreWf (step L s c).table
  command_wf k = store_sound_wf L (step L s c).table (step_sound L s c k)

  -- neither domain nor leases, where the effect keeps them
  pub command_frame : LeaseFrame (effect s c) s → LeaseFrame (step L s c).table s
  command_frame f = step_keeps L s c (λ u. LeaseFrame u s) (record { D15_1 = refl; D15_2 = refl; D15_3 = refl }) (λ e. f)

  pub command_if_ok : (P : Result c → Store → Type 0) → (Clear (tests L s c) → P (result s c) (effect s c))
      → IfOk (step L s c).answer (λ x. P x (step L s c).table)
  command_if_ok P f x e =
      let m = done_leaves L s c x e in
      subst (λ (z : Result c). P z (step L s c).table) (sym m.1)
      (subst (P (result s c)) (sym m.0) (f (clear (tests L s c) ((carried_out_exactly L s c).0 (e ∙ ap done m.1)))))

-- the store's queries

module _ (L : Limits) (s : Store) (q : Query) where
  pub query_ok : (is_ok (reply L s q) ≡ true) ↔ Clear (query_tests L s q)
  unfolding reply
  query_ok =
      Iff.trans (settle_ok (query_result s q) (beside q) (verdict (query_tests L s q))) (clear (query_tests L s q), clear_passes (query_tests L s q))

  pub query_refusals : (r : Refusal) → (reply L s q ≡ refused r (beside q)) ↔ First (query_tests L s q) r
  query_refusals r = Iff.trans (query_refused_exactly L s q r) (Iff.symm (first_exactly (query_tests L s q) r))

  pub query_if_ok : (P : QueryResult q → Type 0) → (Clear (query_tests L s q) → P (query_result s q)) → IfOk (reply L s q) P
  unfolding reply
  query_if_ok P f x e =
      let m = settle_done (query_result s q) (beside q) (verdict (query_tests L s q)) x e in
      subst P (sym m.1) (f (clear (query_tests L s q) m.0))
