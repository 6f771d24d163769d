-- What it is for a call to end with an answer, of the machine on which functions run: wherever the function's name means its own code, and that of
-- all that it calls, the call comes back after some number of steps, with a machine value that stands for a result, and the contract that its source
-- states holds of that result.
-- Assumes nothing.
use Rattle.std.specs.Prelude.{ℕ, ◌≡◌, List}
use base.Logic.{SProp, sep}
use ghost.Model.{𝓤, H}
use contract.Adequate.{Satisfies}
use contract.BorrowModel.{logic₀}
use contract.Closed.{model⁺}
use contract.Lifetimes.{Lfts}
use denote.Triple.Bound.{Bound, passed}
use denote.Triple.Clauses.{Lasts, at_exit}
use denote.Triple.Entry.{on_entry}
use denote.Triple.Spec.{Back}
use mir.Val.{Val}
use prog.Machine.{done}
use prog.Memory.{Memory}
use prog.Routine.{Callee, Env, step}
use prog.Wired.{Code, Wired}
use borrow.Fn.Kinds.{ParamKind, ResultKind, In, Out, Dens, res_t, sig_of, ended_of}
use Rattle.demands.specs.Built.{built}

-- a public call: its references' lifetimes, its parameters, its result, what its contract asks and promises, and what the machine runs: its code,
-- with the code of all that it calls, by its name
pub record Entry : Type 3 where
  pub lifetimes : ℕ
  pub parameters : List (ParamKind lifetimes)
  pub result : ResultKind lifetimes
  pub asks : In lifetimes parameters
  pub promises : Out lifetimes parameters result
  pub code : Code
  pub name : Callee

-- whatever a memory holds
abbrev pub Held : Type 2
Held = SProp 𝓤

module _ (f : Entry) where
  -- what a call is made on: the lifetimes with a share of each, the arguments, and the machine values that stand for them
  abbrev pub MadeOn : Type 0
  MadeOn = Bound logic₀ (sig_of f.lifetimes f.parameters f.result)

  abbrev pub arguments : (x : MadeOn) → Dens x.0 f.parameters
  arguments x = x.3

  -- a memory holds that, beside the rest
  abbrev pub Begins : MadeOn → Memory → Held → Type 1
  Begins x σ rest =
      Satisfies 𝓤 H model⁺ σ (sep 𝓤 (on_entry logic₀ (sig_of f.lifetimes f.parameters f.result) x.0 x.1 x.3 x.4) rest)

  -- how a call came back
  pub record CameBack (γ : Env) (x : MadeOn) (σ : Memory) (rest : Held) : Type 1 where
    pub steps : ℕ
    pub value : Val
    pub memory : Memory
    pub runs : step (γ f.name) steps (passed logic₀ (sig_of f.lifetimes f.parameters f.result) x) σ ≡ done (value, memory)
    -- the value stands for a result, in a memory that holds the rest as it did
    pub answer : (res_t f.result x.0).Denot
    pub stands : Satisfies 𝓤 H model⁺ memory (sep 𝓤 (Back logic₀ (sig_of f.lifetimes f.parameters f.result) x value answer) rest)
    -- the contract holds of the result, and of what is left behind references
    pub left : Lasts (ended_of f.lifetimes f.parameters f.result) x.0 (arguments x)
    pub holds : f.promises x.0 (arguments x) answer (at_exit (ended_of f.lifetimes f.parameters f.result) x.0 (arguments x) left)

  -- the contract asks nothing of the arguments
  abbrev pub AsksNothing : Type 0
  AsksNothing = (κs : Lfts f.lifetimes) (a : Dens κs f.parameters) → f.asks κs a

  -- made on anything, in any memory that holds it, the call comes back, in every environment that has its code
  abbrev pub Ends : Type 2
  Ends = (γ : Env) → Wired γ f.code → (x : MadeOn) (σ : Memory) (rest : Held) → Begins x σ rest → ∥ CameBack γ x σ rest ∥₁

  pub record Total : Type 2 where
    pub asks_nothing : AsksNothing
    pub ends : Ends
    -- the crates as they are built are such an environment
    pub in_build : Wired built f.code
