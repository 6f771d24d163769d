-- A run of a text makes the calls of its commands one after the other; a report tells what a run from an empty store wrote; and a text is read
-- as one list of commands only.
-- Assumes nothing.
use Rattle.std.specs.Prelude.{None}
use Prim.Native.Nat.{ℕ, suc, ◌+◌, ◌≤◌, ◌<◌}
use mathlib.Core.Path.{◌≡◌, refl, sym, ap, subst, ◌∙◌}
use mathlib.Core.List.{List, [], ◌∷◌, ◌++◌}
use lib.ListN.{length, take, drop}
use lib.Seq.{take-append_seam, drop-append_seam}
use Rattle.rules.specs.Limits.{box}
use Rattle.rules.specs.Refusals.{refusal_number, no_room}
use Rattle.rules.specs.Table.{Store, empty_store}
use Rattle.rules.specs.Rows.{step}
use Rattle.rules.specs.Columns.{StoreColumns}
use Rattle.rules.specs.Sound.{StoreSound}
use Rattle.rules.specs.Responses.{respond}
use Rattle.rules.specs.Broker as broker
use Rattle.rules.specs.declared.Refusal.TheVariants.{Capacity, BadTable}
use Rattle.rules.specs.declared.Command.{Command}
use Rattle.rules.specs.declared.Response.{Response}
use Rattle.rules.proofs.TestedStore.{store_tested}
use Rattle.rules.proofs.Called.{damaged}
use Rattle.rules.proofs.KeepsStore.{empty_sound}
use Rattle.blocks.specs.Answers.{answers_text}
use Rattle.store.specs.Columns.{columns_of, store_of}
use Rattle.store.specs.declared.PublicationStore.{PublicationStore}
use Rattle.trace.specs.Run as R
use Rattle.trace.specs.Report as P
use Rattle.trace.specs.Embedding.{stop_number, StoppedAs, ReportedAs}
use Rattle.trace.specs.Followed as F
use Rattle.trace.specs.declared.Stop.TheVariants as Stop
use Rattle.trace.specs.declared.Stopped.{Stopped}
use Rattle.trace.specs.declared.Reported.{Reported}
use Rattle.trace.proofs.StopNumbers.{stopped_one, reported_one}
use Rattle.trace.proofs.Turns.{run_when, run_unless}
use Rattle.trace.proofs.Reports.{report_refused, report_long, report_ran}
use Rattle.trace.proofs.Followed.{followed}
use Rattle.demands.specs.Calls.{Sound, table_of, stored}
use Rattle.demands.specs.Sessions.{Exchange, Leads, by_the_rules}
use Rattle.demands.specs.Texts.{Run, Report, responses, WrittenDown, MadeTheCalls, ToldASession}
use Rattle.demands.proofs.Sessions.{makes, rows, led, asked_for}

-- the call gives what the run of the rules comes to
module _ (s : PublicationStore) (text out : List ℕ) (r : Stopped) (left : List ℕ) (h : Run s text out r left) where
  abbrev whole : R.Ran StoreColumns
  whole = R.run box (length out) text (columns_of s)

  pub run_is : StoppedAs whole r × (left ≡ whole.done.text ++ drop (length whole.done.text) out)
  run_is = rw (← h.0.text_is, ← h.0.out_is, ← h.0.left_is) h.1.0

-- what the rows answer, and the table after it, as the run of a text has them

same_responses : (cs : List Command) (u : Store) → responses (by_the_rules u cs) ≡ F.responses box u cs
unfolding respond
same_responses [] u = refl
same_responses (c ∷ cs) u = ap (λ (rs : List Response). respond box u c ∷ rs) (same_responses cs (step box u c).table)

same_after : (B : Store) (cs : List Command) (u : Store) → broker.run (rows B) u cs ≡ F.after box u cs
unfolding broker.run
same_after B [] u = refl
same_after B (c ∷ cs) u = same_after B cs (step box u c).table

as_many : (cs : List Command) (u : Store) → length (by_the_rules u cs) ≡ length cs
as_many [] u = refl
as_many (c ∷ cs) u = ap suc (as_many cs (step box u c).table)

module _ (u : Store) (text : List ℕ) (g : R.Progress Store) (f : F.Followed box text u g) where
  -- the exchanges
  abbrev xs : List Exchange
  xs = by_the_rules u f.commands

  written_down : WrittenDown xs (take g.read text) g.text
  written_down =
      record {
        commands_read = subst (λ (cs : List Command). F.Blocks cs (take g.read text)) (sym (asked_for f.commands u)) f.reads;
        answers_written = f.writes ∙ ap answers_text (sym (same_responses f.commands u));
      }

  leads_on : StoreSound box u → Leads (stored u) xs (stored g.table)
  leads_on k = subst (Leads (stored u) xs) (ap stored (same_after u f.commands u ∙ sym f.leaves)) (led u f.commands u k)

-- on a sound store
module _ (s : PublicationStore) (text out : List ℕ) (r : Stopped) (left : List ℕ) (h : Run s text out r left) (k : Sound s) where
  abbrev g : R.Progress Store
  g = (R.run_sound box (length out) text (table_of s)).done

  is : StoppedAs (R.laid box (R.run_sound box (length out) text (table_of s))) r × (left ≡ g.text ++ drop (length g.text) out)
  is = rw (run_when box (length out) text (columns_of s) refl ((store_tested box (columns_of s)).1 k)) at (run_is s text out r left h)

  abbrev f : F.Followed box text (table_of s) g
  f = followed box (length out) text (table_of s)

  pub makes_the_calls : MadeTheCalls s text out r left
  makes_the_calls =
      record {
        exchanges = xs (table_of s) text g f;
        leads = rw is.0.store (subst (λ (z : PublicationStore). Leads z (xs (table_of s) text g f) (stored g.table)) (ap store_of k.s6) (leads_on (table_of s) text g f k.in_use));
        bytes = rw (is.0.read, is.0.written, is.1, take-append_seam g.text (drop (length g.text) out)) (written_down (table_of s) text g f);
        blocks = is.0.blocks ∙ f.counts ∙ sym (as_many f.commands (table_of s));
        rest = rw (is.0.written, is.1) (drop-append_seam g.text (drop (length g.text) out));
      }

-- on any other
pub stopped_at_once : (s : PublicationStore) (text out : List ℕ) (r : Stopped) (left : List ℕ) → Run s text out r left → ¬ Sound s
    → (r ≡ record { store = s; stop = Stop.BadTable; blocks = 0; read = 0; written = 0 }) × (stop_number r.stop ≡ refusal_number BadTable) × (left ≡ out)
stopped_at_once s text out r left h bad =
    let p = rw (run_unless box (length out) text (columns_of s) refl (damaged box (columns_of s) bad)) at (run_is s text out r left h) in
    (stopped_one _ r _ p.0 (record { store = refl; stop = refl; blocks = refl; read = refl; written = refl }), p.0.stop, p.1)

-- a report
module _ (text out : List ℕ) (r : Reported) (left : List ℕ) (h : Report text out r left) where
  report_is : ReportedAs (P.report box (length out) text) r × (left ≡ (P.report box (length out) text).text ++ drop (length (P.report box (length out) text).text) out)
  report_is = rw (← h.0.text_is, ← h.0.out_is, ← h.0.left_is) h.1.0

  pub report_refuses : length out < P.report_room + P.line_room → (r ≡ record { stop = Stop.NoRoom; written = 0 }) × (stop_number r.stop ≡ no_room) × (left ≡ out)
  report_refuses n =
      let p = rw (report_refused box (length out) text n) at report_is in
      (reported_one _ r _ p.0 (record { stop = refl; written = refl }), p.0.stop, p.1)

  pub report_tells_seven : P.report_room + P.line_room ≤ length out → P.longest < length text
      → (r ≡ record { stop = Stop.TooLong; written = length (P.stop_line 7) }) × (stop_number r.stop ≡ refusal_number Capacity) × (left ≡ P.stop_line 7 ++ drop (length (P.stop_line 7)) out)
  report_tells_seven room long =
      let p = rw (report_long box (length out) text room long) at report_is in
      (reported_one _ r _ p.0 (record { stop = refl; written = refl }), p.0.stop, p.1)

  module _ (room : P.report_room + P.line_room ≤ length out) (short : length text ≤ P.longest) where
    abbrev ran : R.Ran Store
    ran = P.empty_run box text

    told_is : ReportedAs (P.told ran) r × (left ≡ (P.told ran).text ++ drop (length (P.told ran).text) out)
    told_is = rw (report_ran box (length out) text room short) at report_is

    tells : F.Followed box text (empty_store None) ran.done
    tells = followed box P.report_room text (empty_store None)

    pub tells_a_session : ToldASession text r left
    tells_a_session =
        record {
          exchanges = xs (empty_store None) text ran.done tells;
          store = stored ran.done.table;
          session =
              record {
                domain = None;
                first = stored (empty_store None);
                made = makes None;
                leads = leads_on (empty_store None) text ran.done tells (empty_sound box None);
              };
          read = ran.done.read;
          answers = ran.done.text;
          bytes = written_down (empty_store None) text ran.done tells;
          told = rw (told_is.0.written, told_is.0.stop, told_is.1) (take-append_seam (P.told ran).text (drop (length (P.told ran).text) out));
        }
