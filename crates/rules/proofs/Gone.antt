-- A publication that was revoked: what the rows answer to its reclaim, and that it stays hidden, with none but its old leases.
-- Assumes nothing.
use Prim.Native.Nat.{ℕ, ◌≤◌, ◌<◌}
use mathlib.Core.Path.{◌≡◌, refl, sym, ap, ◌∙◌}
use mathlib.Core.Bool.{Bool, true, false, not, cond, ◌||◌, true≢false, false≢true}
use mathlib.Core.List.{List, [], ◌∷◌, ◌++◌}
use native.Mathlib.Omega.{arith}
use lib.Dec.{eqb}
use lib.ListN.{length, get_or, length-append, length-set, get_or-eq_default}
use borrow.Author.Tests.{leb-true, leb-false, lt-leb, not-false, eqb-true, ne_eqb}
use Rattle.lists.specs.Search.{some_pass}
use Rattle.lists.specs.Every.{Every}
use Rattle.lists.proofs.Bools.{either}
use Rattle.lists.proofs.Place.{get_d_set, get_or-snoc, set_keeps, within}
use Rattle.rules.specs.Limits.{Limits}
use Rattle.rules.specs.Answers.{◌⇒◌, verdict, carry, refused, done}
use Rattle.rules.specs.Commands.{offered}
use Rattle.rules.specs.Table.{Store, at, blank_publication, publication_of, payload_of}
use Rattle.rules.specs.Conditions.{names, unknown}
use Rattle.rules.specs.Changes.{published, adopted, hidden, reclaimed}
use Rattle.rules.specs.Rows.{tests, result, effect, step}
use Rattle.rules.specs.Broker.{Event, tells}
use Rattle.rules.specs.History.{follow, frees, unreleased}
use Rattle.rules.specs.Demand3.{shown}
use Rattle.rules.specs.Sound.{StoreSound}
use Rattle.rules.specs.declared.PublicationId.{PublicationId}
use Rattle.rules.specs.declared.LeaseId.{LeaseId}
use Rattle.rules.specs.declared.Publication.{Publication}
use Rattle.rules.specs.declared.Lease.{Lease}
use Rattle.rules.specs.declared.Refusal.TheVariants.{Relied, Absent}
use Rattle.rules.specs.declared.Command.{Command}
use Rattle.rules.specs.declared.Command.TheVariants.{Publish, Adopt, Acquire, Release, Revoke, Replace, Reclaim, Read, Observe, Resolve, Count}
use Rattle.rules.proofs.Clear.{Clear}
use Rattle.rules.proofs.Along.{follow_append}
use Rattle.rules.proofs.Linked.{ids, ids_snoc, ids_without}

abbrev pub none_left : List LeaseId → Bool
none_left [] = true
none_left (i ∷ is) = false

pub leased_ids : (p : PublicationId) (ls : List Lease) → some_pass (names p) ls ≡ not (none_left (ids p ls))
leased_ids p [] = refl
leased_ids p (l ∷ ls) = go (names p l) (leased_ids p ls)
  where
    go : (a : Bool) → some_pass (names p) ls ≡ not (none_left (ids p ls)) → (a || some_pass (names p) ls) ≡ not (none_left (cond a (l.id ∷ ids p ls) (ids p ls)))
    go true r = refl
    go false r = r

pub known : (s : Store) (p : PublicationId) → (publication_of s p).retained ≡ true → p.0 < length s.registry.publications
known s p r = within (λ e. e.retained) s.registry.publications p.0 blank_publication refl r

-- whatever a lease names is retained
pub named_kept : (es : List Publication) (p : PublicationId) (ls : List Lease) → Every (λ l. (at es l.publication).retained ≡ true) ls → some_pass (names p) ls ≡ true
    → (at es p).retained ≡ true
named_kept es p [] a h = absurd (false≢true h)
named_kept es p (l ∷ ls) a h = go (names p l) refl (named_kept es p ls a.1) h
  where
    go : (b : Bool) → names p l ≡ b → (some_pass (names p) ls ≡ true → (at es p).retained ≡ true) → (b || some_pass (names p) ls) ≡ true → (at es p).retained ≡ true
    go true e r h = rw (eqb-true l.publication.0 p.0 e) at a.0
    go false e r h = r h

-- what the rows answer to reclaim of one that is retained and not visible, to revoke of a known one, and what observe shows

pub reclaim_answers : (L : Limits) (s : Store) (p : PublicationId) → (publication_of s p).retained ≡ true → (publication_of s p).visible ≡ false
    → (step L s (Reclaim p)).answer ≡ cond (none_left (ids p s.registry.leases)) (done (payload_of s p)) (refused Relied tt)
unfolding step
reclaim_answers L s p r v = go (effect s (Reclaim p))
  where
    go : (new : Store)
        → (carry (verdict (tests L s (Reclaim p))) s (offered (Reclaim p)) (payload_of s p) new).answer
        ≡ cond (none_left (ids p s.registry.leases)) (done (payload_of s p)) (refused Relied (offered (Reclaim p)))
    go new =
        rw (lt-leb (length s.registry.publications) p.0 (known s p r), v, r, leased_ids p s.registry.leases)
        (either
        (λ b. (carry (verdict ((not b ⇒ Relied) ∷ [])) s tt (payload_of s p) new).answer ≡ cond b (done (payload_of s p)) (refused Relied tt))
        refl
        refl
        (none_left (ids p s.registry.leases)))

pub revoke_step : (L : Limits) (s : Store) (p : PublicationId) → p.0 < length s.registry.publications
    → step L s (Revoke p) ≡ record { answer = done tt; table = effect s (Revoke p) }
unfolding step
revoke_step L s p h = rw (lt-leb (length s.registry.publications) p.0 h)

abbrev pub cell_list : Store → PublicationId → List ℕ
cell_list s p = cond (publication_of s p).retained (payload_of s p ∷ []) []

pub observe_shows : (L : Limits) (s : Store) (p : PublicationId) → shown p (step L s (Observe p)).answer ≡ cell_list s p
unfolding step
observe_shows L s p = go (unknown s.registry p) refl
  where
    go : (b : Bool) → unknown s.registry p ≡ b
        → shown p (carry (verdict ((b || not (publication_of s p).retained ⇒ Absent) ∷ [])) s tt (result s (Observe p)) s).answer ≡ cell_list s p
    go true e = rw (get_or-eq_default s.registry.publications blank_publication (leb-true (length s.registry.publications) p.0 e))
    go false e =
        either
        (λ r. shown p (carry (verdict ((not r ⇒ Absent) ∷ [])) s tt (result s (Observe p)) s).answer ≡ cond r (payload_of s p ∷ []) [])
        refl
        refl
        (publication_of s p).retained

-- revoked, with the leases is left
pub record Gone (p : PublicationId) (s : Store) (is : List LeaseId) : Type 0 where
  pub left : ids p s.registry.leases ≡ is
  pub hid : (publication_of s p).visible ≡ false
  pub there : p.0 < length s.registry.publications

grows : (s : Store) (c : Command) → length s.registry.publications ≤ length (effect s c).registry.publications
grows s (Publish o g q v) = simp length-append (omega arith)
grows s (Adopt q o g) = omega (arith, length-set s.registry.publications q.0 (adopted (publication_of s q)))
grows s (Acquire q o g) = omega arith
grows s (Release i) = omega arith
grows s (Revoke q) = omega (arith, length-set s.registry.publications q.0 (hidden (publication_of s q)))
grows s (Replace q o g v) = omega arith
grows s (Reclaim q) = omega (arith, length-set s.registry.publications q.0 (reclaimed (publication_of s q)))
grows s (Read i) = omega arith
grows s (Observe q) = omega arith
grows s (Resolve q) = omega arith
grows s Count = omega arith

module _ (L : Limits) (p : PublicationId) where
  -- a publication that is not visible never is again
  still_hidden : (s : Store) (c : Command) → Clear (tests L s c) → (publication_of s p).visible ≡ false → p.0 < length s.registry.publications
      → (publication_of (effect s c) p).visible ≡ false
  still_hidden s (Publish o g q v) k h b =
      rw (get_or-snoc s.registry.publications (published o g q (length s.registry.publications)) blank_publication p.0, ne_eqb (length s.registry.publications) p.0 (omega arith)) h
  still_hidden s (Adopt q o g) k h b =
      set_keeps (λ e. e.visible) s.registry.publications q.0 (adopted (publication_of s q)) blank_publication refl p.0 ∙ h
  still_hidden s (Acquire q o g) k h b = h
  still_hidden s (Release i) k h b = h
  still_hidden s (Revoke q) k h b =
      rw (get_d_set s.registry.publications q.0 (hidden (publication_of s q)) blank_publication p.0 (leb-false _ _ k.0))
      (either (λ b. (cond b (hidden (publication_of s q)) (publication_of s p)).visible ≡ false) refl h (eqb q.0 p.0))
  still_hidden s (Replace q o g v) k h b = h
  still_hidden s (Reclaim q) k h b =
      set_keeps (λ e. e.visible) s.registry.publications q.0 (reclaimed (publication_of s q)) blank_publication refl p.0 ∙ h
  still_hidden s (Read i) k h b = h
  still_hidden s (Observe q) k h b = h
  still_hidden s (Resolve q) k h b = h
  still_hidden s Count k h b = h

  -- and no lease of it is given out
  left_law : (s : Store) (c : Command) → Clear (tests L s c) → (publication_of s p).visible ≡ false
      → ids p (effect s c).registry.leases ≡ follow frees (ids p s.registry.leases) (tells c (result s c))
  left_law s (Publish o g q v) k h = refl
  left_law s (Adopt q o g) k h = refl
  left_law s (Acquire q o g) k h =
      ids_snoc p s.registry.leases _
      ∙ rw (ne_eqb q.0 p.0 (λ e. true≢false (sym (not-false _ k.1.0) ∙ ap (λ (n : ℕ). (get_or s.registry.publications n blank_publication).visible) e ∙ h)))
  left_law s (Release i) k h = ids_without p i s.registry.leases
  left_law s (Revoke q) k h = refl
  left_law s (Replace q o g v) k h = refl
  left_law s (Reclaim q) k h = refl
  left_law s (Read i) k h = refl
  left_law s (Observe q) k h = refl
  left_law s (Resolve q) k h = refl
  left_law s Count k h = refl

  pub stays_gone : (is : List LeaseId) (s : Store) (c : Command) (es : List Event) → StoreSound L s → Clear (tests L s c) → Gone p s (unreleased is es)
      → Gone p (effect s c) (unreleased is (es ++ tells c (result s c)))
  stays_gone is s c es k h g =
      record {
        left =
            left_law s c h g.hid
            ∙ ap (λ (js : List LeaseId). follow frees js (tells c (result s c))) g.left
            ∙ sym (follow_append frees is es (tells c (result s c)));
        hid = still_hidden s c h g.hid g.there;
        there = omega (arith, grows s c, g.there);
      }
