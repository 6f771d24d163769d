-- Handles accepted, handed back and still retained; the count; and what an observation shows.
-- Assumes nothing.
use Prim.Native.Nat.{ℕ, ◌+◌}
use mathlib.Core.Path.{◌≡◌, sym, ap, subst, ◌∙◌}
use mathlib.Core.Bool.{cond}
use mathlib.Core.List.{List, []}
use native.Mathlib.Omega.{arith}
use lib.Dec.{eqb}
use lib.ListN.{length}
use Rattle.lists.proofs.Total.{tally, how_many-total, how_many-tally, length-tally}
use Rattle.rules.specs.Limits.{box}
use Rattle.rules.specs.Answers.{done}
use Rattle.rules.specs.Commands.{AnswerTo}
use Rattle.rules.specs.Table.{Store, blank_publication}
use Rattle.rules.specs.Rows.{step}
use Rattle.rules.specs.Broker.{run}
use Rattle.rules.specs.History.{accepted, handed_back, times}
use Rattle.rules.specs.Demand3 as any
use Rattle.rules.specs.declared.PublicationId.{PublicationId}
use Rattle.rules.specs.declared.Command.{Command}
use Rattle.rules.specs.declared.Command.TheVariants.{Observe, Count}
use Rattle.rules.proofs.KeepsStore.{empty_sound}
use Rattle.rules.proofs.Gone.{observe_shows}
use Rattle.rules.proofs.Third.{facts}
use Rattle.rules.proofs.Past.{past_linked}
use Rattle.store.specs.declared.PublicationStore.{PublicationStore}
use Rattle.demands.specs.Calls.{stored, Called}
use Rattle.demands.specs.Sessions.{Exchange, Session, commands, happened}
use Rattle.demands.specs.Retained.{retained_at, retained}
use Rattle.demands.proofs.Sessions.{steps, rows, Follows, start, session_follows}
use Rattle.demands.proofs.Retained.{at_place, keeps}

module _ (xs : List Exchange) (t : PublicationStore) (k : Session xs t) where
  abbrev u : Store
  u = run (rows (start k)) (start k) (commands xs)

  abbrev f : Follows (start k) (start k) xs t
  f = session_follows xs t k

  -- by any weight of a handle
  balance : (w : ℕ → ℕ) → tally w (accepted (happened xs)) ≡ tally w (handed_back (happened xs)) + tally w (retained t)
  balance w =
      rw (f.left, f.tells, keeps w u f.sound)
      ((facts box (start k) [] (empty_sound box k.domain) (past_linked (start k)) (commands xs)).1.balance w)

  pub balanced : (h : ℕ) → times h (accepted (happened xs)) ≡ times h (handed_back (happened xs)) + times h (retained t)
  balanced h =
      omega (
        arith,
        balance (λ n. cond (eqb n h) 1 0),
        how_many-tally (λ n. eqb n h) (accepted (happened xs)),
        how_many-tally (λ n. eqb n h) (handed_back (happened xs)),
        how_many-tally (λ n. eqb n h) (retained t),
      )

  -- a call on the store that the session leaves is answered as the row says
  pub called_so : (c : Command) (a : AnswerTo c) (v : PublicationStore) → Called c t a v → a ≡ (step box u c).answer
  called_so c a v h = (steps u f.sound c a v (subst (λ (s : PublicationStore). Called c s a v) f.left h)).0

  pub is_counted : (a : AnswerTo Count) (v : PublicationStore) → Called Count t a v → a ≡ done (length (retained t))
  unfolding step
  is_counted a v h =
      called_so Count a v h
      ∙ ap (λ (n : ℕ). done n)
      (how_many-total (λ e. e.retained) u.registry.publications blank_publication
      ∙ sym (keeps (λ n. 1) u f.sound)
      ∙ sym (length-tally (retained (stored u)))
      ∙ ap (λ (s : PublicationStore). length (retained s)) (sym f.left))

  pub is_observed : (p : PublicationId) (a : AnswerTo (Observe p)) (v : PublicationStore) → Called (Observe p) t a v → any.shown p a ≡ retained_at t p
  is_observed p a v h =
      ap (any.shown p) (called_so (Observe p) a v h)
      ∙ observe_shows box u p
      ∙ sym (at_place u p)
      ∙ ap (λ (s : PublicationStore). retained_at s p) (sym f.left)
