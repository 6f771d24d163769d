-- What a call gives on any table: 9 first, with the table exactly as it came; on a sound table what the rows say.
-- Assumes nothing.
use Rattle.std.specs.Prelude.{cond}
use Rattle.rules.specs.Limits.{Limits}
use Rattle.rules.specs.Answers.{Outcome, refused}
use Rattle.rules.specs.Commands.{AnswerTo, offered}
use Rattle.rules.specs.Table.{Registry, Store}
use Rattle.rules.specs.Rows.{step}
use Rattle.rules.specs.Queries.{Query, ReplyTo, beside, reply}
use Rattle.rules.specs.RegistryRows.{Call, CallAnswer, registry_step}
use Rattle.rules.specs.Columns.{RegistryColumns, StoreColumns, used_registry, used, filled_registry, filled}
use Rattle.rules.specs.SoundTest.{registry_test, store_test}
use Rattle.rules.specs.declared.Command.{Command}
use Rattle.rules.specs.declared.Refusal.TheVariants.{BadTable}

-- the table of an outcome, laid out in columns

abbrev pub laid_out : {A : Type 0} → Limits → Outcome Store A → Outcome StoreColumns A
laid_out L o = record { answer = o.answer; table = filled L o.table }

abbrev pub laid_out_registry : {A : Type 0} → Limits → Outcome Registry A → Outcome RegistryColumns A
laid_out_registry L o = record { answer = o.answer; table = filled_registry L o.table }

-- a command of the store, a query of the store, a call of the registry

unfoldable pub command : Limits → StoreColumns → (c : Command) → Outcome StoreColumns (AnswerTo c)
command L t c =
    cond (store_test L t) (laid_out L (step L (used t) c)) (record { answer = refused BadTable (offered c); table = t })

unfoldable pub query : Limits → StoreColumns → (q : Query) → ReplyTo q
query L t q = cond (store_test L t) (reply L (used t) q) (refused BadTable (beside q))

unfoldable pub registry_call : Limits → RegistryColumns → (c : Call) → Outcome RegistryColumns (CallAnswer c)
registry_call L t c =
    cond (registry_test L t) (laid_out_registry L (registry_step L (used_registry t) c)) (record { answer = refused BadTable tt; table = t })
