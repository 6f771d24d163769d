-- Any command through one door: the response and the columns that it leaves are those of its row.
-- Assumes nothing.
use mathlib.Core.Path.{◌≡◌, refl, sym, ap, ◌∙◌}
use mathlib.Core.Bool.{true, false}
use Rattle.rules.specs.Limits.{box}
use Rattle.rules.specs.Answers.{Outcome, refused, done}
use Rattle.rules.specs.Commands.{AnswerTo, offered}
use Rattle.rules.specs.Table.{Store}
use Rattle.rules.specs.Columns.{StoreColumns, used, filled}
use Rattle.rules.specs.Sound.{StoreColumnsSound}
use Rattle.rules.specs.SoundTest.{store_test}
use Rattle.rules.specs.Rows.{effect, step}
use Rattle.rules.specs.Responses.{refusal_of, response_of, respond, call_response}
use Rattle.rules.specs.declared.Refusal.TheVariants.{BadTable}
use Rattle.rules.specs.declared.Answered.{Answered}
use Rattle.rules.specs.declared.Rejected.{Rejected}
use Rattle.rules.specs.declared.Response.{Response}
use Rattle.rules.specs.declared.Response.TheVariants as R
use Rattle.rules.specs.declared.Command.{Command}
use Rattle.rules.specs.declared.Command.TheVariants.{Publish, Adopt, Acquire, Release, Revoke, Replace, Reclaim, Read, Observe, Resolve, Count}
use Rattle.rules.proofs.Refusals.{step_keeps}
use Rattle.rules.proofs.Called.{command_sound, command_damaged}
use Rattle.registry.specs.Answers.{result_of}
use Rattle.store.specs.Columns.{store_of}
use Rattle.store.specs.Answers.{rejected_of, applied_of, applied_inside}
use Rattle.store.specs.Responding.{told}
use Rattle.store.specs.declared.PublicationStore.{PublicationStore}
use Rattle.store.proofs.Guard.{sound_when}

-- the offered handle goes back beside a refusal
abbrev back : Rejected → Response
back r = R.Returned r.why r.handle

-- the response that the code makes of each command's answer
abbrev pub said : (k : Command) → AnswerTo k → Response
said (Publish o g q v) a = told back R.Id (rejected_of a)
said (Adopt p o g) a = told R.Refused (λ u. R.Done) (result_of a)
said (Acquire p o g) a = told R.Refused R.Lease (result_of a)
said (Release i) a = told R.Refused (λ u. R.Done) (result_of a)
said (Revoke p) a = told R.Refused (λ u. R.Done) (result_of a)
said (Replace p o g v) a = told back R.Handle (rejected_of a)
said (Reclaim p) a = told R.Refused R.Handle (result_of a)
said (Read i) a = told R.Refused R.Read (result_of a)
said (Observe p) a = told R.Refused R.Observed (result_of a)
said (Resolve q) a = told R.Refused R.Id (result_of a)
said Count a = told R.Refused R.Count (result_of a)

-- it is the answer's
same : (k : Command) (a : AnswerTo k) → said k a ≡ response_of k a
same (Publish o g q v) (refused r h) = refl
same (Publish o g q v) (done p) = refl
same (Adopt p o g) (refused r b) = refl
same (Adopt p o g) (done u) = refl
same (Acquire p o g) (refused r b) = refl
same (Acquire p o g) (done l) = refl
same (Release i) (refused r b) = refl
same (Release i) (done u) = refl
same (Revoke p) (refused r b) = refl
same (Revoke p) (done u) = refl
same (Replace p o g v) (refused r h) = refl
same (Replace p o g v) (done h) = refl
same (Reclaim p) (refused r b) = refl
same (Reclaim p) (done h) = refl
same (Read i) (refused r b) = refl
same (Read i) (done x) = refl
same (Observe p) (refused r b) = refl
same (Observe p) (done x) = refl
same (Resolve q) (refused r b) = refl
same (Resolve q) (done p) = refl
same Count (refused r b) = refl
same Count (done n) = refl

module _ (c : StoreColumns) {k m : Command} (f : k ≡ m) where
  -- a command leaves the columns of its row
  pub applied : ◌≡◌ {A = Answered Response PublicationStore} (record { answer = said m (step box (used c) m).answer; table = store_of (filled box (step box (used c) m).table) }) (applied_inside (used c) k)
  unfolding respond
  applied = rw (same m (step box (used c) m).answer) (sym (ap (applied_inside (used c)) f))

  -- a query the store as it was
  pub looked : StoreColumnsSound box c → effect (used c) m ≡ used c
      → ◌≡◌ {A = Answered Response PublicationStore} (record { answer = said m (step box (used c) m).answer; table = store_of c }) (applied_inside (used c) k)
  looked h e =
      let stays : store_of c ≡ store_of (filled box (step box (used c) m).table) =
      sym (ap (λ (t : Store). store_of (filled box t)) (step_keeps box (used c) m (λ t. t ≡ used c) refl (λ p. e)) ∙ ap store_of h.s6) in
      ap (λ (t : PublicationStore). record { answer = said m (step box (used c) m).answer; table = t }) stays ∙ applied

-- on any store, by what the test for 9 tells
module _ (c : StoreColumns) (k : Command) where
  abbrev answered : Outcome StoreColumns (AnswerTo k) → Answered Response PublicationStore
  answered o = record { answer = response_of k o.answer; table = store_of o.table }

  pub applied_when : store_test box c ≡ true → applied_inside (used c) k ≡ applied_of c k
  unfolding respond call_response
  applied_when t = sym (ap answered (command_sound box c k (sound_when c t)))

  pub applied_unless : store_test box c ≡ false → {x : Response} → x ≡ refusal_of k BadTable (offered k) → record { answer = x; table = store_of c } ≡ applied_of c k
  unfolding call_response
  applied_unless t f = rw f (sym (ap answered (command_damaged box c k t)))
