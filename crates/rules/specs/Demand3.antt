-- The third demand, on any broker: it speaks of that broker's commands and answers, and of nothing else.
-- Assumes nothing.
use Rattle.std.specs.Prelude.{ℕ, ◌+◌, ◌≡◌, ◌≢◌, false, List, [], ◌∷◌, ◌++◌, length}
use Rattle.std.proofs.Math.Option.{none, some}
use Rattle.rules.specs.Answers.{refused, done}
use Rattle.rules.specs.Commands.{AnswerTo}
use Rattle.rules.specs.Broker.{Broker, Event, run, told}
use Rattle.rules.specs.History.{accepted, handed_back, times, given_out, among, holding, outstanding, unreleased}
use Rattle.rules.specs.declared.PublicationId.{PublicationId}
use Rattle.rules.specs.declared.LeaseId.{LeaseId}
use Rattle.rules.specs.declared.Refusal.TheVariants.{Relied}
use Rattle.rules.specs.declared.Command.{Command}
use Rattle.rules.specs.declared.Command.TheVariants.{Revoke, Reclaim, Observe, Count}

-- the handle that an observation shows, if it is answered
abbrev pub shown : (p : PublicationId) → AnswerTo (Observe p) → List ℕ
shown p (refused r back) = []
shown p (done o) = o.handle ∷ []

-- a broker, and what is known to have happened before its first command: nothing, for a store that starts empty
module _ (past : List Event) (B : Broker) where
  -- after the commands cs: what is answered to one more; all that has happened, by the answers; and what of it
  -- happened in ds, which came after cs

  abbrev pub asked : List Command → (c : Command) → AnswerTo c
  asked cs c = B.answer (run B B.first cs) c

  abbrev pub history : List Command → List Event
  history cs = past ++ told B B.first cs

  abbrev pub since : List Command → List Command → List Event
  since cs ds = told B (run B B.first cs) ds

  -- the handles still retained: those that observe would show, identifier by identifier

  abbrev pub observed : List Command → List PublicationId → List ℕ
  observed cs [] = []
  observed cs (p ∷ ps) = shown p (asked cs (Observe p)) ++ observed cs ps

  abbrev pub retained : List Command → List ℕ
  retained cs = observed cs (given_out (history cs))

  -- after the commands cs, p is published and not yet reclaimed, and a revoke of it is carried out
  pub record Revoking (cs : List Command) (p : PublicationId) : Type 0 where
    pub stands : holding p (history cs) ≢ none
    pub carried_out : asked cs (Revoke p) ≡ done tt

  -- of the leases of p that were outstanding at that revoke, those that the commands ds after it do not release
  abbrev pub left : List Command → PublicationId → List Command → List LeaseId
  left cs p ds = unreleased (outstanding p (history cs)) (since (cs ++ Revoke p ∷ []) ds)

  pub record Demand3 : Type 0 where
    -- until the leases outstanding at the revoke are released, every reclaim of p answers Relied ..
    pub relied : (earlier between : List Command) (p : PublicationId)
        → Revoking earlier p
        → left earlier p between ≢ []
        → asked (earlier ++ Revoke p ∷ between) (Reclaim p) ≡ refused Relied tt
    -- .. after that the next reclaim succeeds, and returns the handle that p accepted last, whatever commands stand between
    pub returned : (earlier between : List Command) (p : PublicationId) (h : ℕ)
        → Revoking earlier p
        → left earlier p between ≡ []
        → holding p (history (earlier ++ Revoke p ∷ between)) ≡ some h
        → asked (earlier ++ Revoke p ∷ between) (Reclaim p) ≡ done h
    -- at every moment each handle was accepted as often as it was handed back and is still retained, taken together
    pub ledger : (cs : List Command) (h : ℕ)
        → times h (accepted (history cs)) ≡ times h (handed_back (history cs)) + times h (retained cs)
    -- the count is the number of the handles still retained
    pub counted : (cs : List Command) → asked cs Count ≡ done (length (retained cs))
    -- and observe shows none under an identifier that was not given out
    pub no_other : (cs : List Command) (p : PublicationId)
        → among p (given_out (history cs)) ≡ false
        → shown p (asked cs (Observe p)) ≡ []
