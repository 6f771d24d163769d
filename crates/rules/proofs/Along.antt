-- What links a table with the history holds along every run of the rows.
-- Assumes nothing.
use Prim.Native.Nat.{ℕ}
use mathlib.Core.Path.{◌≡◌, refl, sym}
use mathlib.Core.List.{List, [], ◌∷◌, ◌++◌, append_assoc, append-nil}
use Rattle.rules.specs.Limits.{Limits}
use Rattle.rules.specs.Answers.{Verdict, pass, stop, verdict, carry}
use Rattle.rules.specs.Commands.{offered}
use Rattle.rules.specs.Table.{Store}
use Rattle.rules.specs.Rows.{tests, result, effect, step}
use Rattle.rules.specs.Broker.{Broker, Event, tells, events, run, told}
use Rattle.rules.specs.History.{gather, follow}
use Rattle.rules.specs.Demand2.{by_the_rows}
use Rattle.rules.specs.Sound.{StoreSound}
use Rattle.rules.specs.declared.Command.{Command}
use Rattle.rules.proofs.Clear.{Clear, clear}
use Rattle.rules.proofs.KeepsStore.{store_keeps}

-- of any broker, and of any history

pub run_append : (B : Broker) (cs ds : List Command) (s : B.State) → run B s (cs ++ ds) ≡ run B (run B s cs) ds
unfolding run
run_append B [] ds s = refl
run_append B (c ∷ cs) ds s = run_append B cs ds (B.next s c)

pub gather_append : (f : Event → List ℕ) (es fs : List Event) → gather f (es ++ fs) ≡ gather f es ++ gather f fs
gather_append f [] fs = refl
gather_append f (e ∷ es) fs = rw (gather_append f es fs) (sym (append_assoc (f e) (gather f es) (gather f fs)))

pub follow_append : {A : Type 0} (f : Event → A → A) (a : A) (es fs : List Event) → follow f a (es ++ fs) ≡ follow f (follow f a es) fs
follow_append f a [] fs = refl
follow_append f a (e ∷ es) fs = follow_append f (f e a) es fs

-- what every command carried out keeps holds along a run, from any sound table
module _ (L : Limits) (u : Store) (R : Store → List Event → Type 0)
    (acts : (s : Store) (c : Command) (es : List Event) → StoreSound L s → Clear (tests L s c) → R s es → R (effect s c) (es ++ tells c (result s c))) where
  abbrev B : Broker
  B = by_the_rows L u

  pub along : (cs : List Command) (s : Store) (es : List Event) → StoreSound L s → R s es
      → StoreSound L (run B s cs) × R (run B s cs) (es ++ told B s cs)
  unfolding run told step
  along [] s es k r = (k, rw append-nil r)
  along (c ∷ cs) s es k r = go (verdict (tests L s c)) refl (along cs)
    where
      go : (v : Verdict) → verdict (tests L s c) ≡ v
          → ((s : Store) (es : List Event) → StoreSound L s → R s es → StoreSound L (run B s cs) × R (run B s cs) (es ++ told B s cs))
          → StoreSound L (run B (carry v s (offered c) (result s c) (effect s c)).table cs)
          × R (run B (carry v s (offered c) (result s c) (effect s c)).table cs)
          (es ++ (events c (carry v s (offered c) (result s c) (effect s c)).answer ++ told B (carry v s (offered c) (result s c) (effect s c)).table cs))
      go pass e rest =
          rw (← append_assoc es (tells c (result s c)) (told B (effect s c) cs))
          (rest (effect s c) (es ++ tells c (result s c)) (store_keeps L s c k e) (acts s c es k (clear (tests L s c) e) r))
      go (stop n) e rest = rest s es k r
