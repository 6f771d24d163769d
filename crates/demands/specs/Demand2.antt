-- The second demand.
--
--     Each command does exactly what document 01's rules, drawn from the source, say: refused on the named conditions in the named order
--     and in no other case, otherwise carried out, whole table given.
--
-- The rules are crates/rules/specs/Rows.antt: `tests` is the row of conditions, of which `verdict` finds the first that holds; `result` and
-- `effect` are what is answered and what the table becomes. That they are drawn from the source is what crates/upstream shows.
-- Assumes nothing.
use Rattle.std.specs.Prelude.{ℕ, ◌≡◌, List, Option, None}
use Rattle.rules.specs.Limits.{box}
use Rattle.rules.specs.Answers.{refused, done, pass, stop, verdict}
use Rattle.rules.specs.Commands.{Offered, AnswerTo, offered}
use Rattle.rules.specs.Table.{empty_store, empty_registry}
use Rattle.rules.specs.Rows.{tests, result, effect}
use Rattle.rules.specs.Queries.{Query, Beside, beside, query_tests, query_result}
use Rattle.rules.specs.RegistryRows.{Call, CallAnswer, call_tests, call_result, call_effect}
use Rattle.rules.specs.Broker.{run}
use Rattle.rules.specs.Demand2.{by_the_rows}
use Rattle.rules.specs.declared.Refusal.{Refusal}
use Rattle.rules.specs.declared.Command.{Command}
use Rattle.registry.specs.declared.PublicationRegistry.{PublicationRegistry}
use Rattle.store.specs.declared.PublicationStore.{PublicationStore}
use Rattle.trace.specs.declared.Stopped.{Stopped}
use Rattle.demands.specs.Calls.{Sound, table_of, stored, Made, Called, Given, given, Queried}
use Rattle.demands.specs.RegistryCalls.{RegistrySound, registry_read, registered, RegistryMade, RegistryByDefault, RegistryCalled}
use Rattle.demands.specs.Sessions.{Exchange, Session, commands, by_the_rules}
use Rattle.demands.specs.Texts.{Run, WrittenDown, MadeTheCalls}

-- a command on a sound store
pub record ByItsRow (c : Command) (s : PublicationStore) (a : AnswerTo c) (t : PublicationStore) : Type 0 where
  -- "refused on the named conditions in the named order"
  pub refusals : (r : Refusal) → verdict (tests box (table_of s) c) ≡ stop r → (a ≡ refused r (offered c)) × (t ≡ s)
  -- "and in no other case"
  pub no_other : (r : Refusal) (b : Offered c) → a ≡ refused r b → verdict (tests box (table_of s) c) ≡ stop r
  -- "otherwise carried out, whole table given"
  pub otherwise : verdict (tests box (table_of s) c) ≡ pass → (a ≡ done (result (table_of s) c)) × (t ≡ stored (effect (table_of s) c))

-- the same of a query of a sound store
pub record QueryByItsRow (q : Query) (s : PublicationStore) (x : Given q) : Type 0 where
  pub refusals : (r : Refusal) → verdict (query_tests box (table_of s) q) ≡ stop r → x ≡ given q (refused r (beside q))
  pub no_other : (r : Refusal) (b : Beside q) → x ≡ given q (refused r b) → verdict (query_tests box (table_of s) q) ≡ stop r
  pub otherwise : verdict (query_tests box (table_of s) q) ≡ pass → x ≡ given q (done (query_result (table_of s) q))

-- and of a call on a sound registry
pub record CallByItsRow (k : Call) (s : PublicationRegistry) (a : CallAnswer k) (t : PublicationRegistry) : Type 0 where
  pub refusals : (r : Refusal) → verdict (call_tests box (registry_read s) k) ≡ stop r → (a ≡ refused r tt) × (t ≡ s)
  pub no_other : (r : Refusal) → a ≡ refused r tt → verdict (call_tests box (registry_read s) k) ≡ stop r
  pub otherwise : verdict (call_tests box (registry_read s) k) ≡ pass
      → (a ≡ done (call_result (registry_read s) k)) × (t ≡ registered (call_effect (registry_read s) k))

pub record Demand2 : Type 0 where
  -- "Each command does .. what document 01's rules .. say"
  pub command : (c : Command) (s : PublicationStore) (a : AnswerTo c) (t : PublicationStore) → Called c s a t → Sound s → ByItsRow c s a t
  pub query : (q : Query) (s : PublicationStore) (x : Given q) → Queried q s x → Sound s → QueryByItsRow q s x
  pub registry : (k : Call) (s : PublicationRegistry) (a : CallAnswer k) (t : PublicationRegistry)
      → RegistryCalled k s a t
      → RegistrySound s
      → CallByItsRow k s a t
  -- and so does each block of a text
  pub text : (s : PublicationStore) (text out : List ℕ) (r : Stopped) (left : List ℕ) → Run s text out r left → Sound s → MadeTheCalls s text out r left
  -- "exactly": nothing else can come back
  pub one_outcome : (c : Command) (s t u : PublicationStore) (a b : AnswerTo c) → Called c s a t → Called c s b u → (a ≡ b) × (t ≡ u)
  pub one_reply : (q : Query) (s : PublicationStore) (x y : Given q) → Queried q s x → Queried q s y → x ≡ y
  pub one_answer : (k : Call) (s t u : PublicationRegistry) (a b : CallAnswer k) → RegistryCalled k s a t → RegistryCalled k s b u → (a ≡ b) × (t ≡ u)
  pub one_run : (s : PublicationStore) (text out : List ℕ) (q r : Stopped) (left right : List ℕ)
      → Run s text out q left
      → Run s text out r right
      → (q ≡ r) × (left ≡ right)
  -- and a text is that of one list of commands only
  pub one_reading : (xs ys : List Exchange) (read v w : List ℕ) → WrittenDown xs read v → WrittenDown ys read w → commands xs ≡ commands ys
  -- a new store is the empty one and sound, and a sound one stays sound: so the rows answer every command of a session, and give the whole
  -- table after it
  pub new : (d : Option ℕ) (s : PublicationStore) → Made d s → (s ≡ stored (empty_store d)) × Sound s
  pub stays_sound : (c : Command) (s : PublicationStore) (a : AnswerTo c) (t : PublicationStore) → Called c s a t → Sound s → Sound t
  pub session : (xs : List Exchange) (t : PublicationStore) (k : Session xs t)
      → (xs ≡ by_the_rules (empty_store k.domain) (commands xs))
      × (t ≡ stored (run (by_the_rows box (empty_store k.domain)) (empty_store k.domain) (commands xs)))
  pub new_registry : (d : Option ℕ) (s : PublicationRegistry) → RegistryMade d s → (s ≡ registered (empty_registry d)) × RegistrySound s
  pub default_registry : (s : PublicationRegistry) → RegistryByDefault s → RegistryMade None s
  pub registry_stays_sound : (k : Call) (s : PublicationRegistry) (a : CallAnswer k) (t : PublicationRegistry)
      → RegistryCalled k s a t
      → RegistrySound s
      → RegistrySound t
