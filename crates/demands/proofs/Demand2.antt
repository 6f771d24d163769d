-- The second demand holds.
-- Assumes nothing.
use Rattle.std.specs.Prelude.{Option, Some, None, ℕ}
use mathlib.Core.Path.{◌≡◌, refl, sym, ap, subst, ◌∙◌}
use Rattle.rules.specs.Limits.{box}
use Rattle.rules.specs.Answers.{Verdict, refused, done, pass, stop, verdict}
use Rattle.rules.specs.Commands.{Offered, AnswerTo, offered}
use Rattle.rules.specs.Table.{empty_registry}
use Rattle.rules.specs.Rows.{result, step}
use Rattle.rules.specs.Queries.{Query, Beside, beside, query_tests, query_result, reply}
use Rattle.rules.specs.RegistryRows.{Call, CallAnswer, call_result, registry_step}
use Rattle.rules.specs.declared.Refusal.{Refusal}
use Rattle.rules.specs.declared.Command.{Command}
use Rattle.rules.proofs.Refusals.{refused_exactly, carried_out_exactly, refusal_keeps, done_leaves, query_refused_exactly, query_answered_exactly, call_refused_exactly, call_carried_out_exactly, call_refusal_keeps, call_done_leaves}
use Rattle.rules.proofs.Called.{command_answers, command_leaves, command_keeps, query_sound, call_answers, call_leaves, call_keeps, empty_columns_sound, empty_registry_columns_sound}
use Rattle.registry.specs.Columns as registry_columns
use Rattle.registry.specs.declared.PublicationRegistry.{PublicationRegistry}
use Rattle.store.specs.Columns.{columns_of, store_of}
use Rattle.store.specs.declared.PublicationStore.{PublicationStore}
use Rattle.trace.proofs.Followed.{blocks_one}
use Rattle.trace.proofs.StopNumbers.{stopped_one}
use Rattle.demands.specs.Calls.{Sound, table_of, stored, Called, Given, given, Queried}
use Rattle.demands.specs.RegistryCalls.{RegistrySound, registry_read, registered, RegistryMade, RegistryCalled}
use Rattle.demands.specs.Numbers.{query_number}
use Rattle.demands.specs.Sessions.{commands}
use Rattle.demands.specs.Demand2.{ByItsRow, QueryByItsRow, CallByItsRow, Demand2}
use Rattle.demands.proofs.Calls.{called, queried}
use Rattle.demands.proofs.RegistryCalls as registry
use Rattle.demands.proofs.Numbers.{query_carries, query_zero, fixed, never_zero}
use Rattle.demands.proofs.Sessions.{new_is, session_follows}
use Rattle.demands.proofs.Texts.{run_is, makes_the_calls}

by_its_row : (c : Command) (s : PublicationStore) (a : AnswerTo c) (t : PublicationStore) → Called c s a t → Sound s → ByItsRow c s a t
by_its_row c s a t h k =
    record {
      refusals = λ r p.
          let e = (refused_exactly box (table_of s) c r).1 p in (answer ∙ e, left ∙ ap stored (refusal_keeps box (table_of s) c r (offered c) e).0 ∙ ap store_of k.s6);
      no_other = λ r b e.
          let m = refusal_keeps box (table_of s) c r b (sym answer ∙ e) in
          (refused_exactly box (table_of s) c r).0 (sym answer ∙ e ∙ ap (λ (z : Offered c). refused r z) m.1);
      otherwise = λ p.
          let e = (carried_out_exactly box (table_of s) c).1 p in
          (answer ∙ e, left ∙ ap stored (done_leaves box (table_of s) c (result (table_of s) c) e).0);
    }
  where
    answer : a ≡ (step box (table_of s) c).answer
    answer = (called c s a t h).0 ∙ command_answers box (columns_of s) c k

    left : t ≡ stored (step box (table_of s) c).table
    left = (called c s a t h).1 ∙ ap store_of (command_leaves box (columns_of s) c k)

query_by_its_row : (q : Query) (s : PublicationStore) (x : Given q) → Queried q s x → Sound s → QueryByItsRow q s x
query_by_its_row q s x h k =
    record {
      refusals = λ r p. refusal r p;
      no_other = λ r b e. go r b e (verdict (query_tests box (table_of s) q)) refl;
      otherwise = λ p. answered p;
    }
  where
    is : x ≡ given q (reply box (table_of s) q)
    is = queried q s x h ∙ ap (given q) (query_sound box (columns_of s) k q)

    refusal : (r : Refusal) → verdict (query_tests box (table_of s) q) ≡ stop r → x ≡ given q (refused r (beside q))
    refusal r p = is ∙ ap (given q) ((query_refused_exactly box (table_of s) q r).1 p)

    answered : verdict (query_tests box (table_of s) q) ≡ pass → x ≡ given q (done (query_result (table_of s) q))
    answered p = is ∙ ap (given q) ((query_answered_exactly box (table_of s) q).1 p)

    go : (r : Refusal) (b : Beside q) → x ≡ given q (refused r b) → (v : Verdict) → verdict (query_tests box (table_of s) q) ≡ v → verdict (query_tests box (table_of s) q) ≡ stop r
    go r b e pass p =
        absurd (never_zero r (sym (query_carries q r b) ∙ ap (query_number q) (sym e ∙ answered p) ∙ query_zero q (query_result (table_of s) q)))
    go r b e (stop z) p =
        p ∙ ap stop (fixed z r (sym (query_carries q z (beside q)) ∙ ap (query_number q) (sym (refusal z p) ∙ e) ∙ query_carries q r b))

call_by_its_row : (k : Call) (s : PublicationRegistry) (a : CallAnswer k) (t : PublicationRegistry)
    → RegistryCalled k s a t → RegistrySound s → CallByItsRow k s a t
call_by_its_row k s a t h sound =
    record {
      refusals = λ r p.
          let e = (call_refused_exactly box (registry_read s) k r).1 p in
          (answer ∙ e, left ∙ ap registered (call_refusal_keeps box (registry_read s) k r tt e).0 ∙ ap registry_columns.registry_of sound.s6);
      no_other = λ r e. (call_refused_exactly box (registry_read s) k r).0 (sym answer ∙ e);
      otherwise = λ p.
          let e = (call_carried_out_exactly box (registry_read s) k).1 p in
          (answer ∙ e, left ∙ ap registered (call_done_leaves box (registry_read s) k (call_result (registry_read s) k) e).0);
    }
  where
    answer : a ≡ (registry_step box (registry_read s) k).answer
    answer = (registry.called s k a t h).0 ∙ call_answers box (registry_columns.columns_of s) k sound

    left : t ≡ registered (registry_step box (registry_read s) k).table
    left = (registry.called s k a t h).1 ∙ ap registry_columns.registry_of (call_leaves box (registry_columns.columns_of s) k sound)

new_registry_is : (d : Option ℕ) (s : PublicationRegistry) → RegistryMade d s → s ≡ registered (empty_registry d)
new_registry_is None s m = m
new_registry_is (Some n) s m = m

pub demand2 : Demand2
demand2 =
    record {
      command = by_its_row;
      query = query_by_its_row;
      registry = call_by_its_row;
      text = makes_the_calls;
      one_outcome = λ c s t u a b h k.
          ((called c s a t h).0 ∙ sym (called c s b u k).0, (called c s a t h).1 ∙ sym (called c s b u k).1);
      one_reply = λ q s x y h k. queried q s x h ∙ sym (queried q s y k);
      one_answer = λ k s t u a b h j. (
        (registry.called s k a t h).0 ∙ sym (registry.called s k b u j).0,
        (registry.called s k a t h).1 ∙ sym (registry.called s k b u j).1,
      );
      one_run = λ s text out q r left right h j. (
        stopped_one _ q r (run_is s text out q left h).0 (run_is s text out r right j).0,
        (run_is s text out q left h).1 ∙ sym (run_is s text out r right j).1,
      );
      one_reading = λ xs ys read v w p q. blocks_one (commands xs) (commands ys) read p.commands_read q.commands_read;
      new = λ d s m. (new_is d s m, subst Sound (sym (new_is d s m)) (empty_columns_sound box d));
      stays_sound = λ c s a t h k. subst Sound (sym (called c s a t h).1) (command_keeps box (columns_of s) c k);
      session = λ xs t k. ((session_follows xs t k).answers, (session_follows xs t k).left);
      new_registry = λ d s m.
          (new_registry_is d s m, subst RegistrySound (sym (new_registry_is d s m)) (empty_registry_columns_sound box d));
      default_registry = λ s m. m;
      registry_stays_sound = λ k s a t h sound.
          subst RegistrySound (sym (registry.called s k a t h).1) (call_keeps box (registry_columns.columns_of s) k sound);
    }
