-- Outcomes as lists of numbers: the answer's number, its values or what stands beside the refusal, then every field of every record of
-- the table left, used or not, and the counts. Outcomes that are told by different lists are different.
-- Assumes nothing.
use Rattle.std.specs.Prelude.{ℕ, Bool, true, false, List, [], ◌∷◌, ◌++◌, length, Option, Some, None}
use Rattle.rules.specs.Refusals.{refusal_number}
use Rattle.rules.specs.Answers.{Outcome, refused, done, answer_number}
use Rattle.rules.specs.Commands.{AnswerTo, answer_values}
use Rattle.rules.specs.Table.{Registry}
use Rattle.rules.specs.Columns.{RegistryColumns, StoreColumns}
use Rattle.rules.specs.Queries.{Query, QueryResult, Beside, ReplyTo, leased_value, value, contains_handle, registry_copy}
use Rattle.rules.specs.RegistryRows.{Call, CallResult, CallAnswer, publish, can_adopt, adopt, check_lease_capacity, acquire, leased_slot, release, revoke, reclaim, resolve, entry, lease, domain, publication_records, lease_record_count, lease_allocation_count}
use Rattle.rules.specs.ValueCell.{Cell, Replaced}
use Rattle.rules.specs.Probes.{handles_back}
use Rattle.rules.specs.declared.Publication.{Publication}
use Rattle.rules.specs.declared.Lease.{Lease}
use Rattle.rules.specs.declared.Consumer.{Consumer}
use Rattle.rules.specs.declared.Command.{Command}

-- records

abbrev pub told_flag : Bool → ℕ
told_flag true = 1
told_flag false = 0

abbrev pub told_domain : Option ℕ → List ℕ
told_domain None = 0 ∷ []
told_domain (Some n) = 1 ∷ n ∷ []

abbrev pub told_consumer : Option Consumer → List ℕ
told_consumer None = 0 ∷ []
told_consumer (Some k) = 1 ∷ k.owner.0 ∷ k.generation ∷ []

abbrev pub told_publication : Publication → List ℕ
told_publication e = e.owner.0 ∷ e.generation ∷ e.port.0 ∷ e.slot ∷ told_flag e.visible ∷ told_flag e.retained ∷ []

abbrev pub told_lease : Lease → List ℕ
told_lease l = l.id.0 ∷ l.publication.0 ∷ told_consumer l.consumer

-- tables

abbrev pub told_each : {A : Type 0} → (A → List ℕ) → List A → List ℕ
told_each f [] = []
told_each f (x ∷ xs) = f x ++ told_each f xs

abbrev pub told_registry : Registry → List ℕ
told_registry t =
    t.counter
    ∷ length t.publications
    ∷ length t.leases
    ∷ told_domain t.domain ++ (told_each told_publication t.publications ++ told_each told_lease t.leases)

abbrev pub told_registry_columns : RegistryColumns → List ℕ
told_registry_columns c =
    c.counter
    ∷ c.count
    ∷ c.active
    ∷ told_domain c.domain ++ (told_each told_publication c.publications ++ told_each told_lease c.leases)

abbrev pub told_columns : StoreColumns → List ℕ
told_columns c = c.payloads ++ (c.revisions ++ told_registry_columns c.registry)

-- answers

abbrev pub told_answer : (k : Command) → AnswerTo k → List ℕ
told_answer k a = answer_number a ∷ answer_values k a ++ handles_back k a

abbrev pub told_result : (q : Query) → QueryResult q → List ℕ
told_result (leased_value i) r = r.id.0 ∷ r.handle ∷ []
told_result (value p) handle = handle ∷ []
told_result (contains_handle h) yes_or_no = told_flag yes_or_no ∷ []
told_result registry_copy t = told_registry t

abbrev pub told_beside : (q : Query) → Beside q → List ℕ
told_beside (leased_value i) b = []
told_beside (value p) b = []
told_beside (contains_handle h) yes_or_no = told_flag yes_or_no ∷ []
told_beside registry_copy t = told_registry t

abbrev pub told_reply : (q : Query) → ReplyTo q → List ℕ
told_reply q (refused r b) = refusal_number r ∷ told_beside q b
told_reply q (done x) = 0 ∷ told_result q x

abbrev pub told_call_result : (k : Call) → CallResult k → List ℕ
told_call_result (publish o g q s) id = id.0 ∷ []
told_call_result (can_adopt p o g) r = []
told_call_result (adopt p o g) r = []
told_call_result (check_lease_capacity n) r = []
told_call_result (acquire p k) i = i.0 ∷ []
told_call_result (leased_slot i) slot = slot ∷ []
told_call_result (release i) r = []
told_call_result (revoke p) r = []
told_call_result (reclaim p) slot = slot ∷ []
told_call_result (resolve q) id = id.0 ∷ []
told_call_result (entry p) e = told_publication e
told_call_result (lease i) l = told_lease l
told_call_result domain d = told_domain d
told_call_result publication_records n = n ∷ []
told_call_result lease_record_count n = n ∷ []
told_call_result lease_allocation_count n = n ∷ []

abbrev pub told_call_answer : (k : Call) → CallAnswer k → List ℕ
told_call_answer k (refused r b) = refusal_number r ∷ []
told_call_answer k (done x) = 0 ∷ told_call_result k x

-- a handle, a cell, and one replaced

abbrev pub told_handle : ℕ → List ℕ
told_handle h = h ∷ []

abbrev pub told_cell : Cell → List ℕ
told_cell c = c.value ∷ []

abbrev pub told_replaced : Replaced → List ℕ
told_replaced r = r.earlier ∷ told_cell r.cell

-- outcomes: of a store's command, of a registry's call

abbrev pub told : (k : Command) → Outcome StoreColumns (AnswerTo k) → List ℕ
told k o = told_answer k o.answer ++ told_columns o.table

abbrev pub told_call : (k : Call) → Outcome RegistryColumns (CallAnswer k) → List ℕ
told_call k o = told_call_answer k o.answer ++ told_registry_columns o.table
