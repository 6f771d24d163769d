-- What a history of answers says: handles accepted and handed back, identifiers given out, handles held, leases outstanding.
-- Assumes nothing.
use Rattle.std.specs.Prelude.{ℕ, Bool, cond, List, [], ◌∷◌, ◌++◌, eqb}
use Rattle.std.proofs.Math.Option.{Option, none, some}
use Rattle.lists.specs.Search.{some_pass, how_many, leave_out}
use Rattle.rules.specs.Broker.{Event, began, swapped, ended, lent, freed}
use Rattle.rules.specs.declared.PublicationId.{PublicationId}
use Rattle.rules.specs.declared.LeaseId.{LeaseId}

-- a history read event by event: a list gathered, or what is known after each

abbrev pub gather : (Event → List ℕ) → List Event → List ℕ
gather f [] = []
gather f (e ∷ es) = f e ++ gather f es

abbrev pub follow : {A : Type 0} → (Event → A → A) → A → List Event → A
follow f a [] = a
follow f a (e ∷ es) = follow f (f e a) es

-- the handles accepted, and those handed back, each as often as it was

abbrev pub takes : Event → List ℕ
takes (began p h) = h ∷ []
takes (swapped p k h) = h ∷ []
takes (ended p k) = []
takes (lent p i) = []
takes (freed i) = []

abbrev pub gives : Event → List ℕ
gives (began p h) = []
gives (swapped p k h) = k ∷ []
gives (ended p k) = k ∷ []
gives (lent p i) = []
gives (freed i) = []

abbrev pub accepted : List Event → List ℕ
accepted es = gather takes es

abbrev pub handed_back : List Event → List ℕ
handed_back es = gather gives es

-- how often a handle is there
abbrev pub times : ℕ → List ℕ → ℕ
times h ks = how_many (λ k. eqb k h) ks

-- the identifiers given out, each once

abbrev pub is_publication : PublicationId → PublicationId → Bool
is_publication p q = eqb q.0 p.0

abbrev pub among : PublicationId → List PublicationId → Bool
among p ps = some_pass (is_publication p) ps

abbrev pub notes : Event → List PublicationId → List PublicationId
notes (began p h) ps = cond (among p ps) ps (ps ++ (p ∷ []))
notes (swapped p k h) ps = ps
notes (ended p k) ps = ps
notes (lent p i) ps = ps
notes (freed i) ps = ps

abbrev pub given_out : List Event → List PublicationId
given_out es = follow notes [] es

-- the handle that p accepted last; none before it began and after it ended

abbrev pub holds : PublicationId → Event → Option ℕ → Option ℕ
holds p (began q h) o = cond (is_publication p q) (some h) o
holds p (swapped q k h) o = cond (is_publication p q) (some h) o
holds p (ended q k) o = cond (is_publication p q) none o
holds p (lent q i) o = o
holds p (freed i) o = o

abbrev pub holding : PublicationId → List Event → Option ℕ
holding p es = follow (holds p) none es

-- some leases, without one

abbrev pub without : LeaseId → List LeaseId → List LeaseId
without i js = leave_out (λ j. eqb j.0 i.0) js

-- the leases of p that were given out and not released

abbrev pub owes : PublicationId → Event → List LeaseId → List LeaseId
owes p (began q h) is = is
owes p (swapped q k h) is = is
owes p (ended q k) is = is
owes p (lent q i) is = cond (is_publication p q) (is ++ (i ∷ [])) is
owes p (freed i) is = without i is

abbrev pub outstanding : PublicationId → List Event → List LeaseId
outstanding p es = follow (owes p) [] es

-- of some leases, those that are not released

abbrev pub frees : Event → List LeaseId → List LeaseId
frees (began q h) is = is
frees (swapped q k h) is = is
frees (ended q k) is = is
frees (lent q i) is = is
frees (freed i) is = without i is

abbrev pub unreleased : List LeaseId → List Event → List LeaseId
unreleased is es = follow frees is es
