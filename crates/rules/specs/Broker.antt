-- Any broker, seen from outside, and what its answers tell.
-- Assumes nothing.
use Rattle.std.specs.Prelude.{ℕ, List, [], ◌∷◌, ◌++◌}
use Rattle.rules.specs.Answers.{refused, done}
use Rattle.rules.specs.Commands.{Result, AnswerTo}
use Rattle.rules.specs.declared.PublicationId.{PublicationId}
use Rattle.rules.specs.declared.LeaseId.{LeaseId}
use Rattle.rules.specs.declared.Command.{Command}
use Rattle.rules.specs.declared.Command.TheVariants.{Publish, Adopt, Acquire, Release, Revoke, Replace, Reclaim, Read, Observe, Resolve, Count}

-- whatever it keeps to itself, how it starts, what it answers to a command, and how it goes on
pub record Broker : Type 1 where
  pub State : Type 0
  pub first : State
  pub answer : State → (c : Command) → AnswerTo c
  pub next : State → Command → State

-- what an answer tells that has happened
pub data Event : Type 0 where
  -- a publication began, and accepted a handle
  began : (id : PublicationId) (handle : ℕ) → Event
  -- it handed its handle back, and accepted another
  swapped : (id : PublicationId) (old new : ℕ) → Event
  -- it handed its handle back, and ended
  ended : (id : PublicationId) (handle : ℕ) → Event
  -- a lease of it was given out; a lease was released
  lent : (id : PublicationId) (lease : LeaseId) → Event
  freed : (lease : LeaseId) → Event

-- what each command tells when it is carried out; a refused one tells nothing

abbrev pub tells : (c : Command) → Result c → List Event
tells (Publish o g q v) id = began id v ∷ []
tells (Adopt p o g) r = []
tells (Acquire p o g) lease = lent p lease ∷ []
tells (Release i) r = freed i ∷ []
tells (Revoke p) r = []
tells (Replace p o g v) handle = swapped p handle v ∷ []
tells (Reclaim p) handle = ended p handle ∷ []
tells (Read i) r = []
tells (Observe p) r = []
tells (Resolve q) id = []
tells Count n = []

abbrev pub events : (c : Command) → AnswerTo c → List Event
events c (refused r back) = []
events c (done x) = tells c x

-- a run from a state: the state after it, and what its answers tell

unfoldable pub run : (B : Broker) → B.State → List Command → B.State
run B s [] = s
run B s (c ∷ cs) = run B (B.next s c) cs

unfoldable pub told : (B : Broker) → B.State → List Command → List Event
told B s [] = []
told B s (c ∷ cs) = events c (B.answer s c) ++ told B (B.next s c) cs
