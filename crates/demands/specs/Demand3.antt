-- The third demand.
--
--     Take any sequence of commands from an empty store. If a publication, not yet reclaimed, is revoked with n leases outstanding by the
--     history of answers, then until those n are released every reclaim of it answers Relied; after that the next reclaim succeeds and
--     returns the handle it last accepted, whatever other commands stand between. At every moment the handles accepted, counted as often
--     as accepted, are exactly those handed back by successful replaces and reclaims together with those still retained, and the count is
--     the number of the latter.
--
-- What a history says, `holding`, `outstanding`, `unreleased`, `accepted`, `handed_back`, stands in crates/rules/specs/History.antt.
-- Assumes nothing.
use Rattle.std.specs.Prelude.{ℕ, ◌+◌, ◌≤◌, ◌≡◌, ◌≢◌, List, [], ◌∷◌, ◌++◌, length, Option}
use Rattle.std.proofs.Math.Option.{none, some}
use Rattle.rules.specs.Answers.{refused, done}
use Rattle.rules.specs.Commands.{AnswerTo}
use Rattle.rules.specs.History.{accepted, handed_back, times, holding, outstanding, unreleased}
use Rattle.rules.specs.Demand3.{shown}
use Rattle.rules.specs.declared.PublicationId.{PublicationId}
use Rattle.rules.specs.declared.LeaseId.{LeaseId}
use Rattle.rules.specs.declared.Refusal.TheVariants.{Relied}
use Rattle.rules.specs.declared.Command.{Command}
use Rattle.rules.specs.declared.Command.TheVariants.{Revoke, Reclaim, Observe, Count}
use Rattle.store.specs.declared.PublicationStore.{PublicationStore}
use Rattle.trace.specs.Report.{longest, report_room, line_room}
use Rattle.trace.specs.declared.Stopped.{Stopped}
use Rattle.trace.specs.declared.Reported.{Reported}
use Rattle.demands.specs.Calls.{Made, Called}
use Rattle.demands.specs.Sessions.{Exchange, Session, ◌answered◌, commands, happened}
use Rattle.demands.specs.Texts.{Run, Report, MadeTheCalls, ToldASession}
use Rattle.demands.specs.Retained.{retained_at, retained}

-- of the leases of p outstanding at its revoke, by the history of answers, those that are not released since
abbrev pub left : PublicationId → (earlier since : List Exchange) → List LeaseId
left p earlier since = unreleased (outstanding p (happened earlier)) (happened since)

module _ (p : PublicationId) (earlier between : List Exchange) where
  -- a session in which p, published and not yet reclaimed by then, is revoked, and later a reclaim of it is answered
  pub record Wiping (a : AnswerTo (Reclaim p)) : Type 0 where
    pub later : List Exchange
    pub store : PublicationStore
    pub session : Session (earlier ++ (Revoke p answered done tt) ∷ between ++ (Reclaim p answered a) ∷ later) store
    pub stands : holding p (happened earlier) ≢ none

  -- that reclaim is the next after the last of those releases: each one before it stands where a lease is left
  abbrev pub Next : Type 0
  Next = (before after : List Exchange) (b : AnswerTo (Reclaim p)) → between ≡ before ++ (Reclaim p answered b) ∷ after → left p earlier before ≢ []

pub record Demand3 : Type 0 where
  -- "Take any sequence of commands from an empty store": there is a session of it
  pub any_sequence : (d : Option ℕ) (cs : List Command)
      → (xs : List Exchange) × (t : PublicationStore) × (k : Session xs t) × (k.domain ≡ d) × (commands xs ≡ cs)
  -- "until those n are released every reclaim of it answers Relied"
  pub relied : (p : PublicationId) (earlier between : List Exchange) (a : AnswerTo (Reclaim p))
      → Wiping p earlier between a
      → left p earlier between ≢ []
      → a ≡ refused Relied tt
  -- "after that the next reclaim succeeds and returns the handle it last accepted, whatever other commands stand between"
  pub returned : (p : PublicationId) (earlier between : List Exchange) (a : AnswerTo (Reclaim p))
      → Wiping p earlier between a
      → left p earlier between ≡ []
      → Next p earlier between
      → (h : ℕ) × (holding p (happened (earlier ++ between)) ≡ some h) × (a ≡ done h)
  -- "At every moment the handles accepted, counted as often as accepted, are exactly those handed back by successful replaces and reclaims
  -- together with those still retained"
  pub ledger : (xs : List Exchange) (t : PublicationStore) → Session xs t → (h : ℕ)
      → times h (accepted (happened xs)) ≡ times h (handed_back (happened xs)) + times h (retained t)
  -- "and the count is the number of the latter"
  pub counted : (xs : List Exchange) (t : PublicationStore) → Session xs t → (a : AnswerTo Count) (u : PublicationStore)
      → Called Count t a u
      → a ≡ done (length (retained t))
  -- and an observation shows just what is retained, identifier by identifier
  pub observed : (xs : List Exchange) (t : PublicationStore) → Session xs t → (p : PublicationId) (a : AnswerTo (Observe p)) (u : PublicationStore)
      → Called (Observe p) t a u
      → shown p a ≡ retained_at t p
  -- all of this holds of bytes: a text run on a new store is a session, of the commands read and the answers written
  pub text : (d : Option ℕ) (s : PublicationStore) (text out : List ℕ) (r : Stopped) (left : List ℕ)
      → Made d s
      → Run s text out r left
      → (b : MadeTheCalls s text out r left) × Session b.exchanges r.store
  -- and so is a text that is reported
  pub report : (text out : List ℕ) (r : Reported) (left : List ℕ)
      → Report text out r left
      → report_room + line_room ≤ length out
      → length text ≤ longest
      → ToldASession text r left
