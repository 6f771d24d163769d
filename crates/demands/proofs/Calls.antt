-- A call comes back exactly with what the rules' call gives: its answer, and its columns as a store.
-- Assumes nothing.
use mathlib.Core.Path.{◌≡◌, refl, sym, ap, ◌∙◌}
use mathlib.Core.Logic.{⊎_elim}
use Rattle.rules.specs.Limits.{box}
use Rattle.rules.specs.Commands.{AnswerTo}
use Rattle.rules.specs.Columns.{StoreColumns, used, filled}
use Rattle.rules.specs.Rows.{effect}
use Rattle.rules.specs.Calls.{command, query}
use Rattle.rules.specs.Queries.{Query, leased_value, value, contains_handle, registry_copy}
use Rattle.rules.specs.Responses.{call_response}
use Rattle.rules.specs.declared.Command.{Command}
use Rattle.rules.specs.declared.Command.TheVariants.{Publish, Adopt, Acquire, Release, Revoke, Replace, Reclaim, Read, Observe, Resolve, Count}
use Rattle.rules.proofs.Refusals.{step_keeps}
use Rattle.rules.proofs.Called.{sound_or_damaged, command_leaves, command_stays}
use Rattle.rules.proofs.Responses.{same_answer}
use Rattle.store.specs.Columns.{columns_of, store_of}
use Rattle.store.specs.declared.PublicationStore.{PublicationStore}
use Rattle.demands.specs.Calls.{Called, Applied, Given, given, Queried}
use Rattle.demands.proofs.SameAnswers.{result_one, rejected_one}

-- a command that changes nothing leaves the columns as they came
looks : (t : StoreColumns) (c : Command) → effect (used t) c ≡ used t → (command box t c).table ≡ t
looks t c e =
    ⊎_elim
    (λ s. command_leaves box t c s ∙ ap (filled box) (step_keeps box (used t) c (λ u. u ≡ used t) refl (λ p. e)) ∙ s.s6)
    (λ d. command_stays box t c d)
    (sound_or_damaged box t)

-- what the rules' call gives on a store's columns

abbrev pub answer_on : PublicationStore → (c : Command) → AnswerTo c
answer_on s c = (command box (columns_of s) c).answer

abbrev pub store_after : PublicationStore → Command → PublicationStore
store_after s c = store_of (command box (columns_of s) c).table

pub called : (c : Command) (s : PublicationStore) (a : AnswerTo c) (t : PublicationStore) → Called c s a t → (a ≡ answer_on s c) × (t ≡ store_after s c)
called (Publish o g q v) s a t h = (rejected_one a (answer_on s (Publish o g q v)) (ap (λ x. x.answer) h), ap (λ x. x.table) h)
called (Adopt p o g) s a t h = (result_one a (answer_on s (Adopt p o g)) (ap (λ x. x.answer) h), ap (λ x. x.table) h)
called (Acquire p o g) s a t h = (result_one a (answer_on s (Acquire p o g)) (ap (λ x. x.answer) h), ap (λ x. x.table) h)
called (Release i) s a t h = (result_one a (answer_on s (Release i)) (ap (λ x. x.answer) h), ap (λ x. x.table) h)
called (Revoke p) s a t h = (result_one a (answer_on s (Revoke p)) (ap (λ x. x.answer) h), ap (λ x. x.table) h)
called (Replace p o g v) s a t h = (rejected_one a (answer_on s (Replace p o g v)) (ap (λ x. x.answer) h), ap (λ x. x.table) h)
called (Reclaim p) s a t h = (result_one a (answer_on s (Reclaim p)) (ap (λ x. x.answer) h), ap (λ x. x.table) h)
called (Read i) s a t h = (result_one a (answer_on s (Read i)) h.0, h.1 ∙ sym (ap store_of (looks (columns_of s) (Read i) refl)))
called (Observe p) s a t h = (result_one a (answer_on s (Observe p)) h.0, h.1 ∙ sym (ap store_of (looks (columns_of s) (Observe p) refl)))
called (Resolve q) s a t h = (result_one a (answer_on s (Resolve q)) h.0, h.1 ∙ sym (ap store_of (looks (columns_of s) (Resolve q) refl)))
called Count s a t h = (result_one a (answer_on s Count) h.0, h.1 ∙ sym (ap store_of (looks (columns_of s) Count refl)))

-- and it comes back with that
pub calls : (c : Command) (s : PublicationStore) → Called c s (answer_on s c) (store_after s c)
calls (Publish o g q v) s = refl
calls (Adopt p o g) s = refl
calls (Acquire p o g) s = refl
calls (Release i) s = refl
calls (Revoke p) s = refl
calls (Replace p o g v) s = refl
calls (Reclaim p) s = refl
calls (Read i) s = (refl, ap store_of (looks (columns_of s) (Read i) refl))
calls (Observe p) s = (refl, ap store_of (looks (columns_of s) (Observe p) refl))
calls (Resolve q) s = (refl, ap store_of (looks (columns_of s) (Resolve q) refl))
calls Count s = (refl, ap store_of (looks (columns_of s) Count refl))

-- the same of the call that takes any command

pub applied : (c : Command) (s : PublicationStore) (a : AnswerTo c) (t : PublicationStore) → Applied c s a t → (a ≡ answer_on s c) × (t ≡ store_after s c)
unfolding call_response
applied c s a t h = (same_answer c a (answer_on s c) (ap (λ x. x.answer) h), ap (λ x. x.table) h)

pub applies : (c : Command) (s : PublicationStore) → Applied c s (answer_on s c) (store_after s c)
unfolding call_response
applies c s = refl

-- and of a query
pub queried : (q : Query) (s : PublicationStore) (x : Given q) → Queried q s x → x ≡ given q (query box (columns_of s) q)
queried (leased_value i) s x h = h
queried (value p) s x h = h
queried (contains_handle n) s x h = h
queried registry_copy s x h = h
