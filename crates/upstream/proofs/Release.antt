-- `release` of the registry and of the store: R18, which holds of the store as well, and S13.
-- Assumes nothing.
use Prim.Native.Nat.{ℕ, suc, ◌+◌, ◌<◌}
use mathlib.Core.Path.{◌≡◌, refl, sym, ap, ◌∙◌}
use mathlib.Core.Bool.{Bool, true, false, not, ◌||◌, cond, false≢true}
use mathlib.Core.List.{List, [], ◌∷◌}
use mathlib.Core.Logic.{◌≢◌}
use mathlib.Core.Option.{none}
use native.Mathlib.Omega.{arith}
use lib.Dec.{leb}
use lib.ListN.{length}
use borrow.Author.Tests.{eqb-true, ne_eqb, not-false}
use Rattle.lists.specs.Search.{some_pass, first_place, leave_out}
use Rattle.lists.proofs.Every.{every_map}
use Rattle.lists.proofs.Removal.{leave_none}
use Rattle.rules.specs.Limits.{Limits}
use Rattle.rules.specs.Answers.{Answer, Verdict, Outcome, ◌⇒◌, refused, done, pass, stop, verdict, carry}
use Rattle.rules.specs.Commands.{AnswerTo}
use Rattle.rules.specs.Table.{Registry, Store}
use Rattle.rules.specs.Conditions.{is_lease, never_lent, active}
use Rattle.rules.specs.Changes.{without_lease, with_registry}
use Rattle.rules.specs.Rows.{lease_row, step}
use Rattle.rules.specs.RegistryRows.{Call, CallAnswer, release, registry_step}
use Rattle.rules.specs.Sound.{Rising, RegistrySound, StoreSound}
use Rattle.rules.specs.VisibleTable.{visible_table}
use Rattle.rules.specs.declared.LeaseId.{LeaseId}
use Rattle.rules.specs.declared.Port.{Port}
use Rattle.rules.specs.declared.Lease.{Lease}
use Rattle.rules.specs.declared.Refusal.TheVariants.{Unknown, Released}
use Rattle.rules.specs.declared.Command.TheVariants.{Release}
use Rattle.rules.proofs.Refusals.{call_step_keeps, step_keeps}
use Rattle.upstream.specs.Answers.{is_some, IfOk, IfErr}
use Rattle.upstream.specs.Registry.{without_at, domain_id, publications, lease_records, lease_allocations, lease_at, active_lease, Unchanged, RegistryWf}
use Rattle.upstream.specs.Store.{registry_view, values, revisions, StoreWf, Same}
use Rattle.upstream.proofs.Numbers.{same_lease}
use Rattle.upstream.proofs.Searches.{first_gone, first_left, length-without}
use Rattle.upstream.proofs.Leases.{is_active, lease_there}
use Rattle.upstream.proofs.Outcomes.{call_unchanged, call_wf, call_if_ok, command_same, command_wf}

-- what it answers
abbrev pub release_out : Registry → LeaseId → Answer (Unit {0}) (Unit {0})
release_out old token =
    cond (leb (lease_allocations old) token.0) (refused Unknown tt)
    (cond (is_some (active_lease old token)) (done tt) (refused Released tt))

module _ (token : LeaseId) where
  pub record ReleaseOk (old final : Registry) : Type 0 where
    pub R18_8 : active_lease final token ≡ none
    pub R18_9 : length (lease_records final) + 1 ≡ length (lease_records old)
    pub R18_10 : (i : ℕ)
        × (i < length (lease_records old))
        × ((lease_at old i).id ≡ token)
        × (lease_records final ≡ without_at i (lease_records old))

  pub record ReleaseClauses (old final : Registry) (out : CallAnswer (release token)) : Type 0 where
    pub R18_2 : RegistryWf final
    pub R18_3 : domain_id final ≡ domain_id old
    pub R18_4 : publications final ≡ publications old
    pub R18_5 : lease_allocations final ≡ lease_allocations old
    pub R18_6 : out ≡ release_out old token
    pub R18_7 : IfErr out (λ b. Unchanged final old)
    pub ok : IfOk out (λ x. ReleaseOk old final)
    pub R18_11 : (id : LeaseId) → id ≢ token → active_lease final id ≡ active_lease old id

  -- the store's: upstream's four clauses, and what it leaves unsaid of the answer (S13.6) and of the registry (S13.7)
  pub record StoreReleaseClauses (old final : Store) (out : AnswerTo (Release token)) : Type 0 where
    pub S13_2 : StoreWf final
    pub S13_3 : values final ≡ values old
    pub S13_4 : (q : Port) → visible_table final q ≡ visible_table old q
    pub S13_5 : revisions final ≡ revisions old
    pub S13_6 : IfErr out (λ b. Same final old)
    pub S13_7 : ReleaseClauses (registry_view old) (registry_view final) out

-- where identifiers rise, one record is left out
pub one_left_out : (i : LeaseId) (ls : List Lease) → Rising ls → some_pass (is_lease i) ls ≡ true
    → leave_out (is_lease i) ls ≡ without_at (first_place (is_lease i) ls) ls
one_left_out i [] r e = absurd (false≢true e)
one_left_out i (l ∷ ls) r e = go (is_lease i l) refl (one_left_out i ls r.1) e
  where
    first : ℕ
    first = first_place (is_lease i) ls

    out : List Lease
    out = leave_out (is_lease i) ls

    go : (b : Bool) → is_lease i l ≡ b
        → (some_pass (is_lease i) ls ≡ true → out ≡ without_at first ls)
        → (b || some_pass (is_lease i) ls) ≡ true
        → cond b out (l ∷ out) ≡ without_at (cond b 0 (suc first)) (l ∷ ls)
    go true h f m =
        leave_none (is_lease i) ls
        (every_map (λ k. l.id.0 < k.id.0) (λ k. is_lease i k ≡ false)
        (λ k n. ne_eqb k.id.0 i.0 (λ c. omega (arith, eqb-true l.id.0 i.0 h)))
        ls
        r.0)
    go false h f m = ap (λ (k : List Lease). l ∷ k) (f m)

module _ (L : Limits) (i : LeaseId) where
  answers : (t : Registry) → (registry_step L t (release i)).answer ≡ release_out t i
  unfolding registry_step
  answers t = rw (is_active t i) (go (never_lent t i) (active t i))
    where
      go : (a b : Bool)
          → (carry (verdict ((a ⇒ Unknown) ∷ (not b ⇒ Released) ∷ [])) t (tt {0}) (tt {0}) (without_lease t i)).answer ≡ cond a (refused Unknown tt) (cond b (done tt) (refused Released tt))
      go true b = refl
      go false true = refl
      go false false = refl

  -- the record that goes
  goes : (t : Registry) → RegistrySound L t → active t i ≡ true → ReleaseOk i t (without_lease t i)
  goes t s a =
      record {
        R18_8 = first_gone (is_lease i) t.leases;
        R18_9 = rw out (length-without t.leases place (lease_there t i a).0);
        R18_10 = (place, (lease_there t i a).0, (lease_there t i a).1, out);
      }
    where
      place : ℕ
      place = first_place (is_lease i) t.leases

      out : leave_out (is_lease i) t.leases ≡ without_at place t.leases
      out = one_left_out i t.leases s.s4.rising a

  -- any other lease
  others_stay : (t : Registry) (j : LeaseId) → j ≢ i → active_lease (without_lease t i) j ≡ active_lease t j
  others_stay t j n =
      first_left (is_lease j) (is_lease i)
      (λ l e. ne_eqb l.id.0 j.0 (λ k. n (same_lease j i (sym k ∙ eqb-true l.id.0 i.0 e))))
      t.leases

  pub release_R18 : (t : Registry) → RegistrySound L t
      → ReleaseClauses i t (registry_step L t (release i)).table (registry_step L t (release i)).answer
  release_R18 t s =
      record {
        R18_2 = call_wf L t k s;
        R18_3 = call_step_keeps L t k (λ u. domain_id u ≡ domain_id t) refl (λ e. refl);
        R18_4 = call_step_keeps L t k (λ u. publications u ≡ publications t) refl (λ e. refl);
        R18_5 = call_step_keeps L t k (λ u. lease_allocations u ≡ lease_allocations t) refl (λ e. refl);
        R18_6 = answers t;
        R18_7 = call_unchanged L t k;
        ok = call_if_ok L t k (λ x u. ReleaseOk i t u) (λ c. goes t s (not-false (active t i) c.1.0));
        R18_11 = λ j n. call_step_keeps L t k (λ u. active_lease u j ≡ active_lease t j) refl (λ e. others_stay t j n);
      }
    where
      k : Call
      k = release i

  -- the store's release answers as the registry's does, and does the same to its registry

  module _ (s : Store) where
    abbrev whole : Verdict → Outcome Store (Answer (Unit {0}) (Unit {0}))
    whole v = carry v s tt tt (with_registry s (without_lease s.registry i))

    abbrev part : Verdict → Outcome Registry (Answer (Unit {0}) (Unit {0}))
    part v = carry v s.registry tt tt (without_lease s.registry i)

    same_table : (v : Verdict) → (whole v).table.registry ≡ (part v).table
    same_table pass = refl
    same_table (stop r) = refl

    same_answer : (v : Verdict) → (whole v).answer ≡ (part v).answer
    same_answer pass = refl
    same_answer (stop r) = refl

    pub store_release_table : (step L s (Release i)).table.registry ≡ (registry_step L s.registry (release i)).table
    unfolding step registry_step
    store_release_table = same_table (verdict (lease_row L s.registry i))

    pub store_release_answer : (step L s (Release i)).answer ≡ (registry_step L s.registry (release i)).answer
    unfolding step registry_step
    store_release_answer = same_answer (verdict (lease_row L s.registry i))

    pub release_S13 : StoreSound L s → StoreReleaseClauses i s (step L s (Release i)).table (step L s (Release i)).answer
    release_S13 h =
        record {
          S13_2 = command_wf L s (Release i) h;
          S13_3 = step_keeps L s (Release i) (λ u. values u ≡ values s) refl (λ e. refl);
          S13_4 = λ q. step_keeps L s (Release i) (λ u. visible_table u q ≡ visible_table s q) refl (λ e. refl);
          S13_5 = step_keeps L s (Release i) (λ u. revisions u ≡ revisions s) refl (λ e. refl);
          S13_6 = command_same L s (Release i);
          S13_7 = rw (store_release_table, store_release_answer) (release_R18 s.registry h.registry);
        }
