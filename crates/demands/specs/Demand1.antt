-- The first demand.
--
--     Any command on any table and any trace text ends with an answer. Every entry point tests what it is handed; a refusal carries the
--     number fixed for it, returns the offered handle, and changes no record.
--
-- Assumes nothing.
use Rattle.std.specs.Prelude.{ℕ, ◌+◌, ◌≤◌, ◌<◌, ◌≡◌, List, ◌++◌, ◌↔◌, length, drop}
use Rattle.rules.specs.Limits.{box}
use Rattle.rules.specs.Columns.{StoreColumns}
use Rattle.rules.specs.Refusals.{refusal_number, no_room}
use Rattle.rules.specs.Answers.{refused}
use Rattle.rules.specs.Commands.{Offered, AnswerTo, offered}
use Rattle.rules.specs.Queries.{Query, Beside, beside}
use Rattle.rules.specs.RegistryRows.{Call, CallAnswer}
use Rattle.rules.specs.declared.Refusal.{Refusal}
use Rattle.rules.specs.declared.Refusal.TheVariants.{Capacity, BadTable}
use Rattle.rules.specs.declared.Command.{Command}
use Rattle.registry.specs.declared.PublicationRegistry.{PublicationRegistry}
use Rattle.store.specs.Columns.{columns_of}
use Rattle.store.specs.declared.PublicationStore.{PublicationStore}
use Rattle.trace.specs.Run.{Ran}
use Rattle.trace.specs.Stops.{Why}
use Rattle.trace.specs.Embedding.{stop_number, StoppedAs}
use Rattle.trace.specs.Report.{longest, report_room, line_room, stop_line}
use Rattle.trace.specs.declared.Stop.TheVariants as Stop
use Rattle.trace.specs.declared.Stopped.{Stopped}
use Rattle.trace.specs.declared.Reported.{Reported}
use Rattle.demands.specs.EntryPoints.{store_entries, cell_entries, registry_entries, columns_entries, trace_entries, embed_entries, number_entries, EachTotal, ReadersTotal}
use Rattle.demands.specs.Calls.{Sound, Called, Applied, Given, given, Queried}
use Rattle.demands.specs.RegistryCalls.{RegistrySound, RegistryCalled}
use Rattle.demands.specs.Texts.{Run, Report}
use Rattle.demands.specs.Numbers.{command_number, query_number, call_number}

-- "Any command on any table and any trace text ends with an answer"
pub record EndsWithAnAnswer : Type 3 where
  -- no entry point's contract asks anything, and on whatever it is run the machine comes back with a result of which the contract holds
  pub store : EachTotal store_entries
  pub cell : EachTotal cell_entries
  pub registry : EachTotal registry_entries
  pub columns : EachTotal columns_entries
  pub trace : EachTotal trace_entries
  pub readers : ReadersTotal
  pub embed : EachTotal embed_entries
  pub numbers : EachTotal number_entries
  -- so there is an answer to any command on any store, from the command's own call or from the one call that takes any
  pub command : (c : Command) (s : PublicationStore) → (a : AnswerTo c) × (t : PublicationStore) × Called c s a t
  pub either_way : (c : Command) (s : PublicationStore) (a : AnswerTo c) (t : PublicationStore) → Called c s a t ↔ Applied c s a t
  -- and to any text, run on any store into any output: the number that stopped it, for its reason
  pub text : (s : PublicationStore) (text out : List ℕ) (r : Stopped) (left : List ℕ)
      → Run s text out r left
      → (w : Ran StoreColumns) × StoppedAs w r × Why box (length out) text (columns_of s) w

-- "Every entry point tests what it is handed": on a table that isn't sound it answers 9, and leaves the table as it came
pub record TestsWhatItIsHanded : Type 0 where
  pub command : (c : Command) (s : PublicationStore) (a : AnswerTo c) (t : PublicationStore)
      → Called c s a t
      → ¬ Sound s
      → (a ≡ refused BadTable (offered c)) × (t ≡ s)
  pub query : (q : Query) (s : PublicationStore) (x : Given q)
      → Queried q s x
      → ¬ Sound s
      → x ≡ given q (refused BadTable (beside q))
  pub text : (s : PublicationStore) (text out : List ℕ) (r : Stopped) (left : List ℕ)
      → Run s text out r left
      → ¬ Sound s
      → (r ≡ record { store = s; stop = Stop.BadTable; blocks = 0; read = 0; written = 0 })
      × (stop_number r.stop ≡ refusal_number BadTable)
      × (left ≡ out)
  -- a report tests its output and the length of its text
  pub no_room_to_report : (text out : List ℕ) (r : Reported) (left : List ℕ)
      → Report text out r left
      → length out < report_room + line_room
      → (r ≡ record { stop = Stop.NoRoom; written = 0 }) × (stop_number r.stop ≡ no_room) × (left ≡ out)
  pub too_long_to_run : (text out : List ℕ) (r : Reported) (left : List ℕ)
      → Report text out r left
      → report_room + line_room ≤ length out
      → longest < length text
      → (r ≡ record { stop = Stop.TooLong; written = length (stop_line 7) })
      × (stop_number r.stop ≡ refusal_number Capacity)
      × (left ≡ stop_line 7 ++ drop (length (stop_line 7)) out)
  pub registry : (k : Call) (s : PublicationRegistry) (a : CallAnswer k) (t : PublicationRegistry)
      → RegistryCalled k s a t
      → ¬ RegistrySound s
      → (a ≡ refused BadTable tt) × (t ≡ s)

-- "a refusal carries the number fixed for it"
pub record CarriesItsNumber : Type 0 where
  pub command : (c : Command) (r : Refusal) (b : Offered c) → command_number c (refused r b) ≡ refusal_number r
  pub query : (q : Query) (r : Refusal) (b : Beside q) → query_number q (given q (refused r b)) ≡ refusal_number r
  pub registry : (k : Call) (r : Refusal) → call_number k (refused r tt) ≡ refusal_number r
  -- no two share one
  pub fixed : (q r : Refusal) → refusal_number q ≡ refusal_number r → q ≡ r

-- "returns the offered handle, and changes no record"
pub record ChangesNothing : Type 0 where
  pub command : (c : Command) (s : PublicationStore) (r : Refusal) (b : Offered c) (t : PublicationStore)
      → Called c s (refused r b) t
      → (b ≡ offered c) × (t ≡ s)
  pub registry : (k : Call) (s : PublicationRegistry) (r : Refusal) (t : PublicationRegistry) → RegistryCalled k s (refused r tt) t → t ≡ s

pub record Demand1 : Type 3 where
  pub ends : EndsWithAnAnswer
  pub tests : TestsWhatItIsHanded
  pub number : CarriesItsNumber
  pub refusal : ChangesNothing
