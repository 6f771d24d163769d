-- Answers in one type for all commands, which says as much: the number, the values, and what a refusal hands back.
-- Assumes nothing.
use Rattle.std.specs.Prelude.{ℕ, List, [], ◌∷◌}
use Rattle.rules.specs.Limits.{Limits}
use Rattle.rules.specs.Refusals.{refusal_number}
use Rattle.rules.specs.Answers.{refused, done}
use Rattle.rules.specs.Commands.{Result, Offered, AnswerTo}
use Rattle.rules.specs.Table.{Store}
use Rattle.rules.specs.Rows.{step}
use Rattle.rules.specs.Columns.{StoreColumns}
use Rattle.rules.specs.Calls.{command}
use Rattle.rules.specs.declared.Refusal.{Refusal}
use Rattle.rules.specs.declared.Response.{Response}
use Rattle.rules.specs.declared.Response.TheVariants as R
use Rattle.rules.specs.declared.Command.{Command}
use Rattle.rules.specs.declared.Command.TheVariants.{Publish, Adopt, Acquire, Release, Revoke, Replace, Reclaim, Read, Observe, Resolve, Count}

abbrev pub refusal_of : (c : Command) → Refusal → Offered c → Response
refusal_of (Publish o g q v) r h = R.Returned r h
refusal_of (Adopt p o g) r b = R.Refused r
refusal_of (Acquire p o g) r b = R.Refused r
refusal_of (Release i) r b = R.Refused r
refusal_of (Revoke p) r b = R.Refused r
refusal_of (Replace p o g v) r h = R.Returned r h
refusal_of (Reclaim p) r b = R.Refused r
refusal_of (Read i) r b = R.Refused r
refusal_of (Observe p) r b = R.Refused r
refusal_of (Resolve q) r b = R.Refused r
refusal_of Count r b = R.Refused r

abbrev pub result_of : (c : Command) → Result c → Response
result_of (Publish o g q v) id = R.Id id
result_of (Adopt p o g) x = R.Done
result_of (Acquire p o g) lease = R.Lease lease
result_of (Release i) x = R.Done
result_of (Revoke p) x = R.Done
result_of (Replace p o g v) handle = R.Handle handle
result_of (Reclaim p) handle = R.Handle handle
result_of (Read i) x = R.Read x
result_of (Observe p) x = R.Observed x
result_of (Resolve q) id = R.Id id
result_of Count n = R.Count n

abbrev pub response_of : (c : Command) → AnswerTo c → Response
response_of c (refused r b) = refusal_of c r b
response_of c (done x) = result_of c x

-- the number and the values of an answer block

abbrev pub response_number : Response → ℕ
response_number (R.Refused r) = refusal_number r
response_number (R.Returned r h) = refusal_number r
response_number R.Done = 0
response_number (R.Id p) = 0
response_number (R.Lease i) = 0
response_number (R.Handle h) = 0
response_number (R.Read x) = 0
response_number (R.Observed x) = 0
response_number (R.Count n) = 0

abbrev pub response_values : Response → List ℕ
response_values (R.Refused r) = []
response_values (R.Returned r h) = []
response_values R.Done = []
response_values (R.Id p) = p.0 ∷ []
response_values (R.Lease i) = i.0 ∷ []
response_values (R.Handle h) = h ∷ []
response_values (R.Read x) = x.id.0 ∷ x.revision ∷ x.handle ∷ []
response_values (R.Observed x) = x.revision ∷ x.handle ∷ []
response_values (R.Count n) = n ∷ []

-- what a command is answered on a sound table, and on any table

unfoldable pub respond : Limits → Store → Command → Response
respond L s c = response_of c (step L s c).answer

unfoldable pub call_response : Limits → StoreColumns → Command → Response
call_response L t c = response_of c (command L t c).answer
