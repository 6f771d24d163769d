-- What it means that a contract lets one outcome through: for all arguments, two outcomes of which it holds are one.
-- Assumes nothing.
use Rattle.std.specs.Prelude.{ℕ, ◌≡◌, List}
use base.Logic.{ent, sep}
use contract.Lifetimes.{Lfts}
use contract.Monad.{fact}
use denote.Triple.Clauses.{Ended, Clauses, Lasts, AtExit, at_exit}
use denote.Triple.Entry.{Args, Res}
use borrow.Fn.Kinds.{ParamKind, ResultKind, Out, Dens, res_t, ended_of}
use borrow.Fn.World.{World}

-- The outcome of a call that is lent nothing to change is its result, which holds the answer and, of a command, the whole table beside it.
abbrev pub OneOutcome : (n : ℕ) (ps : List (ParamKind n)) (r : ResultKind n) → Out n ps r → Type 0
OneOutcome n ps r P =
    (κs : Lfts n) (a : Dens κs ps) (x y : (res_t r κs).Denot) (s : AtExit (ended_of n ps r) κs) → P κs a x s → P κs a y s → x ≡ y

-- The outcome of any other call is its result and what it leaves behind each reference that it may change: of a slice every byte.
abbrev pub OneOutcomeLent : (n : ℕ) (ps : List (ParamKind n)) (r : ResultKind n) → Out n ps r → Type 0
OneOutcomeLent n ps r P =
    (κs : Lfts n) (a : Dens κs ps) (x y : (res_t r κs).Denot) (v w : Lasts (ended_of n ps r) κs a)
    → P κs a x (at_exit (ended_of n ps r) κs a v)
    → P κs a y (at_exit (ended_of n ps r) κs a w)
    → (x ≡ y) × (v ≡ w)

-- The contract of a call that takes or hands back a record with a reference in it is an assertion, in any model of the machine. What it says
-- of one outcome and what it says of another entail that the two are one.
abbrev pub OneOutcomeHeld : (T : Ended) → ((m : World) → Clauses m.𝓤 T) → Type 2
OneOutcomeHeld T c =
    (m : World) (κs : Lfts T.signature.lifetimes) (a : Args T.signature κs) (g : (c m κs a).ghost)
    (x y : Res T.signature κs) (v w : Lasts T κs a)
    → ent m.𝓤 (sep m.𝓤 ((c m κs a).ensures g x (at_exit T κs a v)) ((c m κs a).ensures g y (at_exit T κs a w))) (fact m.𝓤 ((x ≡ y) × (v ≡ w)))
