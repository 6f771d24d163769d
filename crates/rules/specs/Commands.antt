-- What the store's commands answer. An answer is typed by its command, so that one of the wrong kind can't be written.
-- Assumes nothing.
use Rattle.std.specs.Prelude.{ℕ, List, [], ◌∷◌}
use Rattle.rules.specs.Answers.{Answer, refused, done}
use Rattle.rules.specs.declared.PublicationId.{PublicationId}
use Rattle.rules.specs.declared.LeaseId.{LeaseId}
use Rattle.rules.specs.declared.Reading.{Reading}
use Rattle.rules.specs.declared.Observation.{Observation}
use Rattle.rules.specs.declared.Command.{Command}
use Rattle.rules.specs.declared.Command.TheVariants.{Publish, Adopt, Acquire, Release, Revoke, Replace, Reclaim, Read, Observe, Resolve, Count}

-- what is answered when the command is carried out

abbrev pub Result : Command → Type 0
Result (Publish o g q v) = PublicationId
Result (Adopt p o g) = Unit {0}
Result (Acquire p o g) = LeaseId
Result (Release i) = Unit {0}
Result (Revoke p) = Unit {0}
Result (Replace p o g v) = ℕ
Result (Reclaim p) = ℕ
Result (Read i) = Reading
Result (Observe p) = Observation
Result (Resolve q) = PublicationId
Result Count = ℕ

-- what a refusal hands back: the offered handle, where one was offered

abbrev pub Offered : Command → Type 0
Offered (Publish o g q v) = ℕ
Offered (Adopt p o g) = Unit {0}
Offered (Acquire p o g) = Unit {0}
Offered (Release i) = Unit {0}
Offered (Revoke p) = Unit {0}
Offered (Replace p o g v) = ℕ
Offered (Reclaim p) = Unit {0}
Offered (Read i) = Unit {0}
Offered (Observe p) = Unit {0}
Offered (Resolve q) = Unit {0}
Offered Count = Unit {0}

abbrev pub offered : (c : Command) → Offered c
offered (Publish o g q v) = v
offered (Adopt p o g) = tt
offered (Acquire p o g) = tt
offered (Release i) = tt
offered (Revoke p) = tt
offered (Replace p o g v) = v
offered (Reclaim p) = tt
offered (Read i) = tt
offered (Observe p) = tt
offered (Resolve q) = tt
offered Count = tt

abbrev pub AnswerTo : Command → Type 0
AnswerTo c = Answer (Result c) (Offered c)

-- the values of an answer that is no refusal, in the order in which the trace writes them

abbrev pub result_values : (c : Command) → Result c → List ℕ
result_values (Publish o g q v) id = id.0 ∷ []
result_values (Adopt p o g) r = []
result_values (Acquire p o g) lease = lease.0 ∷ []
result_values (Release i) r = []
result_values (Revoke p) r = []
result_values (Replace p o g v) handle = handle ∷ []
result_values (Reclaim p) handle = handle ∷ []
result_values (Read i) r = r.id.0 ∷ r.revision ∷ r.handle ∷ []
result_values (Observe p) r = r.revision ∷ r.handle ∷ []
result_values (Resolve q) id = id.0 ∷ []
result_values Count n = n ∷ []

abbrev pub answer_values : (c : Command) → AnswerTo c → List ℕ
answer_values c (refused r back) = []
answer_values c (done x) = result_values c x
