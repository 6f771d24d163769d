-- A function that meets its contract ends with an answer, wherever its contract asks nothing.
-- Assumes nothing.
use mathlib.Core.Path.{◌≡◌, refl}
use mathlib.Core.Logic.{∥∥₁_prop, ∥∥₁_elim, ∥∥₁_map}
use base.Logic.{sep, ex, via, mono_l, fst∗, snd∗}
use seplogic.Ra.Ura.{Ura}
use ghost.Model.{𝓤, H}
use types.Logic.{Logic, sem}
use contract.Adequate.{Satisfies, sat_weaken, sat_⇛, sat_ex∗, sat_fact}
use contract.BorrowModel.{logic₀}
use contract.Closed.{model⁺, real⁺, real⁺_strict}
use contract.Monad.{fact}
use contract.Running.{Running, tables, tables_of, within}
use denote.Triple.Adequate.{adequate}
use denote.Triple.Clauses.{Ended, Lasts, at_exit, lasts}
use denote.Triple.Entry.{on_entry}
use denote.Triple.Spec.{Back}
use denote.Triple.Statement.{Contract, Triple}
use denote.Triple.Walked.{Fit}
use mir.Val.{Val}
use prog.Memory.{Memory}
use prog.Model.{Model}
use prog.Routine.{Routine, Env, Callee}
use prog.Wired.{Code, Wired}
use borrow.Fn.Claims.{with_fact}
use borrow.Fn.Function.{known_of}
use borrow.Fn.Kinds.{res_t, sig_of, ended_of, stays}
use borrow.Fn.Plain.{Known}
use borrow.Fn.Run.{Over}
use borrow.Fn.World.{World}
use Rattle.demands.specs.Built.{built}
use Rattle.demands.specs.Ends.{Entry, Held, MadeOn, arguments, Begins, CameBack, AsksNothing, Total}

-- the machine on which the calls mean γ
abbrev pub running : Env → Running 𝓤 H model⁺
running γ = within 𝓤 H model⁺ real⁺ γ

-- what holds of every model of the machine on which a function has its code, of this one
pub on_the_machine : (c : Code) {Y : (𝓤 : Ura _) (𝓛 : Logic 𝓤) (𝓜 : Model 𝓤 𝓛.H) → Running 𝓤 𝓛.H 𝓜 → Type 1}
    → ((𝓤 : Ura _) (𝓛 : Logic 𝓤) (𝓜 : Model 𝓤 𝓛.H) (𝓡 : Running 𝓤 𝓛.H 𝓜) → Wired 𝓡.env c → Y 𝓤 𝓛 𝓜 𝓡)
    → (γ : Env) → Wired γ c → Y 𝓤 logic₀ model⁺ (running γ)
on_the_machine c met γ wired = met 𝓤 logic₀ model⁺ (running γ) wired

-- the model at which a theorem is read
abbrev world : Env → World
world γ = record { M = _; 𝓤 = 𝓤; 𝓛 = logic₀; 𝓜 = model⁺; 𝓡 = running γ }

-- what a caller knows of the call, by a name
abbrev pub KnownAs : Entry → Env → Type 1
KnownAs f γ =
    Known logic₀ (Over logic₀ model⁺ (running γ) γ) f.lifetimes f.parameters f.result f.asks f.promises f.name

module _ (f : Entry) (γ : Env) (known : KnownAs f γ) (nothing : AsksNothing f) where
  abbrev c : Contract 𝓤
  c = known_of logic₀ f.lifetimes f.parameters f.result f.asks f.promises

  met : Triple 𝓤 ((tables 𝓤 H model⁺ (running γ) γ).C f.name) c
  unfolding tables_of
  met = known

  module _ (x : MadeOn f) (σ : Memory) (rest : Held) (begins : Begins f x σ rest) where
    abbrev on : Held
    on = on_entry logic₀ (sig_of f.lifetimes f.parameters f.result) x.0 x.1 x.3 x.4

    asked : Satisfies 𝓤 H model⁺ σ (sep 𝓤 (c.pre (x, tt)) rest)
    asked =
        sat_weaken 𝓤 H model⁺ σ (mono_l 𝓤 rest (with_fact 𝓤 (f.asks x.0 (arguments f x)) on (nothing x.0 (arguments f x)))) begins

    abbrev T : Ended
    T = ended_of f.lifetimes f.parameters f.result

    -- what the run's end says of a value: for some result and what is left behind references

    abbrev Last : Lasts T x.0 (arguments f x) → Held
    Last w = sem logic₀ (lasts T x.0 (arguments f x) w)

    abbrev Promised : (res_t f.result x.0).Denot → Lasts T x.0 (arguments f x) → Type 0
    Promised z w = Fit T (stays f.parameters) x.0 (arguments f x) w × f.promises x.0 (arguments f x) z (at_exit T x.0 (arguments f x) w)

    abbrev Returned : Val → (res_t f.result x.0).Denot → Held
    Returned v z = Back logic₀ (sig_of f.lifetimes f.parameters f.result) x v z

    abbrev Said : Val → (res_t f.result x.0).Denot → Lasts T x.0 (arguments f x) → Held
    Said v z w = sep 𝓤 (sep 𝓤 (Last w) (fact 𝓤 (Promised z w))) (Returned v z)

    comes_back : ∥ CameBack f γ x σ rest ∥₁
    comes_back =
        ∥∥₁_elim (adequate 𝓤 H model⁺ (tables 𝓤 H model⁺ (running γ) γ) real⁺_strict f.name c met (x, tt) σ rest asked) ∥∥₁_prop
        (λ e.
        ∥∥₁_elim
        (sat_ex∗ 𝓤 H model⁺ e.2 (λ z. ex 𝓤 (Said e.1 z)) rest (sat_⇛ 𝓤 H model⁺ e.2 (ex 𝓤 (λ z. ex 𝓤 (Said e.1 z))) rest e.4))
        ∥∥₁_prop
        (λ z.
        ∥∥₁_elim (sat_ex∗ 𝓤 H model⁺ e.2 (Said e.1 z.0) rest z.1) ∥∥₁_prop
        (λ w.
        let L : Held = Last w.0 in
        let φ : Type 0 = Promised z.0 w.0 in
        let R : Held = Returned e.1 z.0 in
        let S : Held = Said e.1 z.0 w.0 in
        ∥∥₁_map
        (sat_fact 𝓤 H model⁺ e.2 (sep 𝓤 S rest) φ
        (via 𝓤 (sep 𝓤 S rest) (snd∗ 𝓤 (model⁺.mem e.2) (sep 𝓤 S rest))
        (via 𝓤 S (fst∗ 𝓤 S rest) (via 𝓤 (sep 𝓤 L (fact 𝓤 φ)) (fst∗ 𝓤 (sep 𝓤 L (fact 𝓤 φ)) R) (snd∗ 𝓤 L (fact 𝓤 φ)))))
        w.1)
        (λ q.
        record {
          steps = e.0;
          value = e.1;
          memory = e.2;
          runs = e.3;
          answer = z.0;
          stands = sat_weaken 𝓤 H model⁺ e.2 (mono_l 𝓤 rest (snd∗ 𝓤 (sep 𝓤 L (fact 𝓤 φ)) R)) w.1;
          left = w.0;
          holds = q.1;
        }))))

-- from the theorem of the function, as a caller knows it
pub total : {f : Entry} {Met : World → Routine → Type 1}
    → ((w : World) (γ : Env) (name : Callee) (r : Routine) → γ name ≡ r → Met w r → Known w.𝓛 (Over w.𝓛 w.𝓜 w.𝓡 γ) f.lifetimes f.parameters f.result f.asks f.promises name)
    → ((γ : Env) → Wired γ f.code → Met (world γ) (γ f.name)) → AsksNothing f → Wired built f.code
    → Total f
total {f} known met nothing stands =
    record { asks_nothing = nothing; ends = λ γ wired. comes_back f γ (known (world γ) γ f.name (γ f.name) refl (met γ wired)) nothing; in_build = stands }
