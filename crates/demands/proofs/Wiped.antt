-- A publication that is revoked: relied on until its leases are released, then handed back.
-- Assumes nothing.
use Prim.Native.Nat.{ℕ}
use mathlib.Core.Path.{◌≡◌, refl, sym, ap, subst, ◌∙◌}
use mathlib.Core.Logic.{◌≢◌}
use mathlib.Core.Bool.{Bool, true, false, cond}
use mathlib.Core.List.{List, [], ◌∷◌, ◌++◌, append_assoc}
use mathlib.Core.Option.{Option, none, some}
use native.Mathlib.Omega.{arith}
use borrow.Author.Tests.{eqb-true}
use Rattle.rules.specs.Limits.{box}
use Rattle.rules.specs.Answers.{Answer, refused, done}
use Rattle.rules.specs.Commands.{AnswerTo}
use Rattle.rules.specs.Broker.{Broker, Event, events, run, told}
use Rattle.rules.specs.History.{is_publication, follow, holds, holding, outstanding, unreleased}
use Rattle.rules.specs.Demand3 as any
use Rattle.rules.specs.declared.PublicationId.{PublicationId}
use Rattle.rules.specs.declared.Refusal.TheVariants.{Relied}
use Rattle.rules.specs.declared.Command.{Command}
use Rattle.rules.specs.declared.Command.TheVariants.{Publish, Adopt, Acquire, Release, Revoke, Replace, Reclaim, Read, Observe, Resolve, Count}
use Rattle.rules.proofs.Along.{follow_append}
use Rattle.rules.proofs.Past.{third}
use Rattle.demands.specs.Sessions.{Exchange, Session, ◌answered◌, commands, happened}
use Rattle.demands.specs.Demand3.{left, Wiping, Next}
use Rattle.demands.proofs.Sessions.{rows, start, reached, tells_on, answered_next, happened_append, commands_append}

-- a wiping, by the rows
module _ (p : PublicationId) (earlier between : List Exchange) (a : AnswerTo (Reclaim p)) (w : Wiping p earlier between a) where
  abbrev k : Session (earlier ++ (Revoke p answered done tt) ∷ between ++ (Reclaim p answered a) ∷ w.later) w.store
  k = w.session

  abbrev B : Broker
  B = rows (start k)

  abbrev cs : List Command
  cs = commands earlier

  abbrev ds : List Command
  ds = commands between

  abbrev revoked : Exchange
  revoked = Revoke p answered done tt

  abbrev reclaimed : Exchange
  reclaimed = Reclaim p answered a

  abbrev up_to : List Exchange
  up_to = earlier ++ revoked ∷ between

  told_earlier : happened earlier ≡ told B B.first cs
  unfolding run
  told_earlier =
      tells_on (start k) (start k) w.store earlier (revoked ∷ between ++ reclaimed ∷ w.later)
      (reached _ w.store k [] _ (append_assoc earlier (revoked ∷ between) (reclaimed ∷ w.later)))

  told_between : happened between ≡ told B (run B B.first (cs ++ Revoke p ∷ [])) ds
  told_between =
      tells_on (start k) _ w.store between (reclaimed ∷ w.later)
      (reached _ w.store k (earlier ++ revoked ∷ []) _
      (append_assoc earlier (revoked ∷ between) (reclaimed ∷ w.later) ∙ sym (append_assoc earlier (revoked ∷ []) (between ++ reclaimed ∷ w.later))))
      ∙ ap (λ (bs : List Command). told B (run B B.first bs) ds) (commands_append earlier (revoked ∷ []))

  -- the revoke itself tells nothing
  told_up_to : happened (earlier ++ between) ≡ told B B.first (cs ++ Revoke p ∷ ds)
  unfolding run
  told_up_to =
      happened_append earlier between
      ∙ sym (happened_append earlier (revoked ∷ between))
      ∙ tells_on (start k) (start k) w.store up_to (reclaimed ∷ w.later) (reached _ w.store k [] _ refl)
      ∙ ap (told B B.first) (commands_append earlier (revoked ∷ between))

  revoking : any.Revoking [] B cs p
  revoking =
      record {
        stands = λ e. w.stands (ap (holding p) told_earlier ∙ e);
        carried_out = sym
            (answered_next (start k) _ w.store revoked (between ++ reclaimed ∷ w.later)
            (reached _ w.store k earlier _ (append_assoc earlier (revoked ∷ between) (reclaimed ∷ w.later))));
      }

  same_left : left p earlier between ≡ any.left [] B cs p ds
  same_left =
      ap (λ (es : List Event). unreleased (outstanding p es) (happened between)) told_earlier
      ∙ ap (unreleased (outstanding p (told B B.first cs))) told_between

  answer : a ≡ any.asked [] B (cs ++ Revoke p ∷ ds) (Reclaim p)
  answer =
      answered_next (start k) _ w.store reclaimed w.later (reached _ w.store k up_to _ refl)
      ∙ ap (λ (bs : List Command). any.asked [] B bs (Reclaim p)) (commands_append earlier (revoked ∷ between))

  pub is_relied : left p earlier between ≢ [] → a ≡ refused Relied tt
  is_relied n = answer ∙ (third box k.domain).relied cs ds p revoking (λ e. n (same_left ∙ e))

-- a publication that is held stays held, but for a reclaim of it that is carried out
module _ (p : PublicationId) where
  OnlyRelied : List Exchange → Type 0
  OnlyRelied xs = (before after : List Exchange) (b : AnswerTo (Reclaim p)) → xs ≡ before ++ (Reclaim p answered b) ∷ after → b ≡ refused Relied tt

  some_stays : (b : Bool) (h : ℕ) (o : Option ℕ) → o ≢ none → cond b (some h) o ≢ none
  some_stays true h o n e = let z : ◌≡◌ {A = ℕ} 0 1 = cc in omega arith
  some_stays false h o n e = n e

  held_on : (c : Command) (a : AnswerTo c) (o : Option ℕ) → o ≢ none → ((q : PublicationId) (h : ℕ) → (c answered a) ≡ (Reclaim q answered done h) → is_publication p q ≡ false)
      → follow (holds p) o (events c a) ≢ none
  held_on c (refused r b) o n u = n
  held_on (Publish w g q v) (done id) o n u = some_stays (is_publication p id) v o n
  held_on (Adopt q w g) (done x) o n u = n
  held_on (Acquire q w g) (done i) o n u = n
  held_on (Release i) (done x) o n u = n
  held_on (Revoke q) (done x) o n u = n
  held_on (Replace q w g v) (done h) o n u = some_stays (is_publication p q) v o n
  held_on (Reclaim q) (done h) o n u = rw (u q h refl) n
  held_on (Read i) (done x) o n u = n
  held_on (Observe q) (done x) o n u = n
  held_on (Resolve q) (done x) o n u = n
  held_on Count (done x) o n u = n

  not_mine : (x : Exchange) (xs : List Exchange) → OnlyRelied (x ∷ xs) → (q : PublicationId) (h : ℕ) → x ≡ (Reclaim q answered done h) → is_publication p q ≡ false
  unfolding OnlyRelied
  not_mine x xs u q h e = go (is_publication p q) refl
    where
      go : (b : Bool) → is_publication p q ≡ b → is_publication p q ≡ false
      go false i = i
      go true i =
          let same : q.0 ≡ p.0 = eqb-true q.0 p.0 i in
          let mine : x ∷ xs ≡ (Reclaim p answered done h) ∷ xs = ap (λ (y : Exchange). y ∷ xs) e ∙ ap (λ (n : ℕ). (Reclaim (record { 0 = n }) answered done h) ∷ xs) same in
          let never : ◌≡◌ {A = Answer ℕ (Unit {0})} (done h) (refused Relied tt) = u [] xs (done h) mine in
          cc

  held_through : (xs : List Exchange) (o : Option ℕ) → o ≢ none → OnlyRelied xs → follow (holds p) o (happened xs) ≢ none
  unfolding OnlyRelied
  held_through [] o n u = n
  held_through (x ∷ xs) o n u =
      rw (follow_append (holds p) o (events x.command x.answer) (happened xs))
      (held_through xs (follow (holds p) o (events x.command x.answer))
      (held_on x.command x.answer o n (not_mine x xs u))
      (λ before after b e. u (x ∷ before) after b (ap (λ (ys : List Exchange). x ∷ ys) e)))

-- after the last release
module _ (p : PublicationId) (earlier between : List Exchange) (a : AnswerTo (Reclaim p)) (w : Wiping p earlier between a) (next : Next p earlier between) where
  -- an earlier reclaim is one of a wiping too, and was answered Relied
  only_relied : OnlyRelied p between
  unfolding OnlyRelied
  only_relied before after b e =
      is_relied p earlier before b
      (record {
        later = after ++ (Reclaim p answered a) ∷ w.later;
        store = w.store;
        session = subst (λ (zs : List Exchange). Session zs w.store) (rw e (simp append_assoc)) w.session;
        stands = w.stands;
      })
      (next before after b e)

  still_held : holding p (happened (earlier ++ between)) ≢ none
  still_held =
      rw (happened_append earlier between, follow_append (holds p) none (happened earlier) (happened between))
      (held_through p between (holding p (happened earlier)) w.stands only_relied)

  pub is_returned : left p earlier between ≡ [] → (h : ℕ) × (holding p (happened (earlier ++ between)) ≡ some h) × (a ≡ done h)
  is_returned e = go (holding p (happened (earlier ++ between))) refl
    where
      go : (o : Option ℕ) → holding p (happened (earlier ++ between)) ≡ o → (h : ℕ) × (holding p (happened (earlier ++ between)) ≡ some h) × (a ≡ done h)
      go none f = absurd (still_held f)
      go (some h) f = (
        h,
        f,
        answer p earlier between a w
            ∙ (third box w.session.domain).returned (commands earlier) (commands between) p h (revoking p earlier between a w)
            (sym (same_left p earlier between a w) ∙ e)
            (ap (holding p) (sym (told_up_to p earlier between a w)) ∙ f),
      )
