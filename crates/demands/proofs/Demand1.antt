-- The first demand holds.
-- Assumes nothing.
use mathlib.Core.Path.{◌≡◌, sym, ap, subst, ◌∙◌}
use lib.ListN.{length}
use Rattle.rules.specs.Limits.{box}
use Rattle.rules.specs.Answers.{Outcome, refused}
use Rattle.rules.specs.Commands.{AnswerTo}
use Rattle.rules.specs.Columns.{StoreColumns, RegistryColumns}
use Rattle.rules.specs.RegistryRows.{CallAnswer}
use Rattle.rules.specs.declared.Command.{Command}
use Rattle.rules.proofs.Called.{damaged, query_damaged, command_damaged, command_stays, command_refused, registry_damaged, call_damaged, call_stays, call_refused}
use Rattle.registry.specs.Columns as registry_columns
use Rattle.store.specs.Columns.{columns_of, store_of}
use Rattle.store.specs.declared.PublicationStore.{PublicationStore}
use Rattle.trace.specs.Run.{run}
use Rattle.trace.proofs.Stops.{why}
use Rattle.demands.specs.Calls.{Called, Applied, given}
use Rattle.demands.specs.Demand1.{EndsWithAnAnswer, TestsWhatItIsHanded, CarriesItsNumber, ChangesNothing, Demand1}
use Rattle.demands.proofs.EntryPoints.{store_ends, cell_ends, registry_ends, columns_ends, trace_ends, readers_end, embed_ends, number_ends}
use Rattle.demands.proofs.Calls.{answer_on, store_after, called, calls, applied, applies, queried}
use Rattle.demands.proofs.RegistryCalls as registry
use Rattle.demands.proofs.Texts.{run_is, stopped_at_once, report_refuses, report_tells_seven}
use Rattle.demands.proofs.Numbers.{command_carries, query_carries, call_carries, fixed}

-- what comes back with the rules' answer and store comes back

same : (W : (c : Command) → PublicationStore → AnswerTo c → PublicationStore → Type 0) (c : Command) (s : PublicationStore) (a : AnswerTo c) (t : PublicationStore)
    → (a ≡ answer_on s c) × (t ≡ store_after s c)
    → W c s (answer_on s c) (store_after s c)
    → W c s a t
same W c s a t e w =
    subst (λ (z : AnswerTo c). W c s z t) (sym e.0) (subst (λ (u : PublicationStore). W c s (answer_on s c) u) (sym e.1) w)

ends : EndsWithAnAnswer
ends =
    record {
      store = store_ends;
      cell = cell_ends;
      registry = registry_ends;
      columns = columns_ends;
      trace = trace_ends;
      readers = readers_end;
      embed = embed_ends;
      numbers = number_ends;
      command = λ c s. (answer_on s c, store_after s c, calls c s);
      either_way = λ c s a t.
          (λ h. same Applied c s a t (called c s a t h) (applies c s), λ h. same Called c s a t (applied c s a t h) (calls c s));
      text = λ s text out r left h.
          (run box (length out) text (columns_of s), (run_is s text out r left h).0, why box (length out) text (columns_of s));
    }

tests : TestsWhatItIsHanded
tests =
    record {
      command = λ c s a t h bad.
          let d = damaged box (columns_of s) bad in (
            (called c s a t h).0 ∙ ap (λ (o : Outcome StoreColumns (AnswerTo c)). o.answer) (command_damaged box (columns_of s) c d),
            (called c s a t h).1 ∙ ap store_of (command_stays box (columns_of s) c d),
          );
      query = λ q s x h bad. queried q s x h ∙ ap (given q) (query_damaged box (columns_of s) (damaged box (columns_of s) bad) q);
      text = stopped_at_once;
      no_room_to_report = report_refuses;
      too_long_to_run = report_tells_seven;
      registry = λ k s a t h bad.
          let d = registry_damaged box (registry_columns.columns_of s) bad in (
            (registry.called s k a t h).0
                ∙ ap (λ (o : Outcome RegistryColumns (CallAnswer k)). o.answer) (call_damaged box (registry_columns.columns_of s) k d),
            (registry.called s k a t h).1 ∙ ap registry_columns.registry_of (call_stays box (registry_columns.columns_of s) k d),
          );
    }

carries : CarriesItsNumber
carries =
    record {
      command = command_carries;
      query = query_carries;
      registry = call_carries;
      fixed = fixed;
    }

keeps : ChangesNothing
keeps =
    record {
      command = λ c s r b t h.
          let m = command_refused box (columns_of s) c (sym (called c s (refused r b) t h).0) in
          (m.1, (called c s (refused r b) t h).1 ∙ ap store_of m.0);
      registry = λ k s r t h.
          let e = registry.called s k (refused r tt) t h in
          e.1 ∙ ap registry_columns.registry_of (call_refused box (registry_columns.columns_of s) k (sym e.0));
    }

pub demand1 : Demand1
demand1 = record { ends = ends; tests = tests; number = carries; refusal = keeps }
