-- A table and the history that led to it: the handles held, the leases owed, the identifiers given out, and the ledger.
-- Assumes nothing.
use Prim.Native.Nat.{ℕ, zero, suc, ◌+◌, ◌≤◌, ◌<◌}
use mathlib.Core.Path.{◌≡◌, refl, sym, ap, ◌∙◌}
use mathlib.Core.Logic.{◌≢◌}
use mathlib.Core.Bool.{Bool, true, false, cond, ◌||◌}
use mathlib.Core.List.{List, [], ◌∷◌, ◌++◌}
use mathlib.Core.Option.{Option, none, some}
use native.Mathlib.Omega.{arith}
use lib.Dec.{eqb}
use lib.ListN.{length, get_or, set, length-append, length-set}
use borrow.Author.Tests.{leb-false, not-false, eqb-true, eqb-false, eq-eqb, ne_eqb}
use Rattle.lists.specs.Search.{leave_out}
use Rattle.lists.proofs.Bools.{either, or_left, or_right}
use Rattle.lists.proofs.Place.{get_d_set, get_or-snoc, set_keeps}
use Rattle.lists.proofs.Search.{some_snoc}
use Rattle.lists.proofs.Total.{total, total-same, total-change, tally, tally-append}
use Rattle.rules.specs.Limits.{Limits}
use Rattle.rules.specs.Table.{Store, blank_publication, publication_of, payload_of}
use Rattle.rules.specs.Conditions.{names, is_lease, unknown}
use Rattle.rules.specs.Changes.{published, adopted, hidden, reclaimed}
use Rattle.rules.specs.Rows.{tests, result, effect}
use Rattle.rules.specs.Broker.{Event, tells}
use Rattle.rules.specs.History.{gather, follow, takes, gives, accepted, handed_back, among, is_publication, notes, given_out, holds, holding, without, owes, outstanding}
use Rattle.rules.specs.Sound.{StoreSound}
use Rattle.rules.specs.declared.PublicationId.{PublicationId}
use Rattle.rules.specs.declared.LeaseId.{LeaseId}
use Rattle.rules.specs.declared.Publication.{Publication}
use Rattle.rules.specs.declared.Lease.{Lease}
use Rattle.rules.specs.declared.Command.{Command}
use Rattle.rules.specs.declared.Command.TheVariants.{Publish, Adopt, Acquire, Release, Revoke, Replace, Reclaim, Read, Observe, Resolve, Count}
use Rattle.rules.proofs.Clear.{Clear}
use Rattle.rules.proofs.Along.{gather_append, follow_append}

-- the handle in a cell, if it is retained

abbrev pub kept_in : Publication → ℕ → Option ℕ
kept_in e h = cond e.retained (some h) none

abbrev pub cell : Store → PublicationId → Option ℕ
cell s p = kept_in (publication_of s p) (payload_of s p)

-- the same by a weight: weight 1 counts it, and a weight that is 1 at one handle alone counts that

abbrev pub weight : (ℕ → ℕ) → Publication → ℕ → ℕ
weight w e h = cond e.retained (w h) 0

abbrev pub kept : (ℕ → ℕ) → Store → ℕ
kept w s = total (length s.registry.publications) (λ n. weight w (publication_of s (record { 0 = n })) (payload_of s (record { 0 = n })))

-- the identifiers of the active leases of p
abbrev pub ids : PublicationId → List Lease → List LeaseId
ids p [] = []
ids p (l ∷ ls) = cond (names p l) (l.id ∷ ids p ls) (ids p ls)

-- the first n identifiers
abbrev pub upto : ℕ → List PublicationId
upto zero = []
upto (suc n) = upto n ++ (record { 0 = n } ∷ [])

pub record Linked (s : Store) (es : List Event) : Type 0 where
  pub cells : (p : PublicationId) → holding p es ≡ cell s p
  pub owed : (p : PublicationId) → outstanding p es ≡ ids p s.registry.leases
  pub given : given_out es ≡ upto (length s.registry.publications)
  pub balance : (w : ℕ → ℕ) → tally w (accepted es) ≡ tally w (handed_back es) + kept w s

-- the leases of p, with one more, and with one out

pub ids_snoc : (p : PublicationId) (ls : List Lease) (l : Lease) → ids p (ls ++ (l ∷ [])) ≡ cond (names p l) (ids p ls ++ (l.id ∷ [])) (ids p ls)
ids_snoc p [] l = refl
ids_snoc p (m ∷ ls) l = rw (ids_snoc p ls l) (go (names p m) (names p l))
  where
    go : (a b : Bool)
        → cond a (m.id ∷ cond b (ids p ls ++ (l.id ∷ [])) (ids p ls)) (cond b (ids p ls ++ (l.id ∷ [])) (ids p ls))
        ≡ cond b (cond a (m.id ∷ ids p ls) (ids p ls) ++ (l.id ∷ [])) (cond a (m.id ∷ ids p ls) (ids p ls))
    go true true = refl
    go true false = refl
    go false true = refl
    go false false = refl

pub ids_without : (p : PublicationId) (i : LeaseId) (ls : List Lease) → ids p (leave_out (is_lease i) ls) ≡ without i (ids p ls)
ids_without p i [] = refl
ids_without p i (l ∷ ls) = go (names p l) (is_lease i l) refl refl (ids_without p i ls)
  where
    go : (a b : Bool) → names p l ≡ a → is_lease i l ≡ b → ids p (leave_out (is_lease i) ls) ≡ without i (ids p ls)
        → ids p (cond b (leave_out (is_lease i) ls) (l ∷ leave_out (is_lease i) ls)) ≡ without i (cond a (l.id ∷ ids p ls) (ids p ls))
    go true true e f r = rw f r
    go true false e f r = rw (e, f) (ap (λ (x : List LeaseId). l.id ∷ x) r)
    go false true e f r = r
    go false false e f r = rw e r

-- the identifiers given out are the first ones

pub above_upto : (n : ℕ) (p : PublicationId) → n ≤ p.0 → among p (upto n) ≡ false
above_upto zero p h = refl
above_upto (suc n) p h = rw (some_snoc (is_publication p) (upto n) (record { 0 = n }), above_upto n p (omega arith)) (ne_eqb n p.0 (omega arith))

pub not_among : (n : ℕ) (p : PublicationId) → among p (upto n) ≡ false → n ≤ p.0
not_among zero p h = omega arith
not_among (suc n) p h = omega (arith, not_among n p (or_left (among p (upto n)) (eqb n p.0) both), eqb-false n p.0 (or_right (among p (upto n)) (eqb n p.0) both))
  where
    both : (among p (upto n) || eqb n p.0) ≡ false
    both = sym (some_snoc (is_publication p) (upto n) (record { 0 = n })) ∙ h

-- a change of one publication's record that keeps it retained or not
kept_retained : (s : Store) (q : PublicationId) (e : Publication) → e.retained ≡ (publication_of s q).retained → (n : ℕ)
    → (get_or (set s.registry.publications q.0 e) n blank_publication).retained ≡ (get_or s.registry.publications n blank_publication).retained
kept_retained s q e = set_keeps (λ e. e.retained) s.registry.publications q.0 e blank_publication

weights_retained : (w : ℕ → ℕ) (s : Store) (q : PublicationId) (e : Publication) → e.retained ≡ (publication_of s q).retained
    → total (length s.registry.publications) (λ n. weight w (publication_of s (record { 0 = n })) (payload_of s (record { 0 = n })))
    ≡ total (length (set s.registry.publications q.0 e)) (λ n. weight w (get_or (set s.registry.publications q.0 e) n blank_publication) (payload_of s (record { 0 = n })))
weights_retained w s q e r =
    rw (length-set s.registry.publications q.0 e)
    (total-same (length s.registry.publications) _ _
    (λ n h. ap (λ (b : Bool). cond b (w (payload_of s (record { 0 = n }))) 0) (sym (kept_retained s q e r n))))

module _ (L : Limits) (s : Store) (k : StoreSound L s) where
  abbrev es : List Publication
  es = s.registry.publications

  -- the identifier of a publication that is known is below the length of each column
  pub in_payloads : (p : PublicationId) → unknown s.registry p ≡ false → p.0 < length s.payloads
  in_payloads p u = rw k.s5.payload_each (leb-false (length es) p.0 u)

  cell_law : (p : PublicationId) (c : Command) → Clear (tests L s c) → cell (effect s c) p ≡ follow (holds p) (cell s p) (tells c (result s c))
  cell_law p (Publish o g q v) c =
      rw (get_or-snoc es (published o g q (length es)) blank_publication p.0, get_or-snoc s.payloads v 0 p.0, k.s5.payload_each)
      (either (λ b. kept_in (cond b (published o g q (length es)) (publication_of s p)) (cond b v (payload_of s p)) ≡ cond b (some v) (cell s p)) refl refl (eqb (length es) p.0))
  cell_law p (Adopt q o g) c = ap (λ (b : Bool). cond b (some (payload_of s p)) none) (kept_retained s q (adopted (publication_of s q)) refl p.0)
  cell_law p (Acquire q o g) c = refl
  cell_law p (Release i) c = refl
  cell_law p (Revoke q) c = ap (λ (b : Bool). cond b (some (payload_of s p)) none) (kept_retained s q (hidden (publication_of s q)) refl p.0)
  cell_law p (Replace q o g v) c = rw (get_d_set s.payloads q.0 v 0 p.0 (in_payloads q c.0)) (go (eqb q.0 p.0) refl)
    where
      go : (b : Bool) → eqb q.0 p.0 ≡ b → kept_in (publication_of s p) (cond b v (payload_of s p)) ≡ cond b (some v) (cell s p)
      go true e = rw (← eqb-true q.0 p.0 e, k.registry.s2 q (not-false _ c.1.1.0))
      go false e = refl
  cell_law p (Reclaim q) c =
      rw (get_d_set es q.0 (reclaimed (publication_of s q)) blank_publication p.0 (leb-false (length es) q.0 c.0), get_d_set s.payloads q.0 0 0 p.0 (in_payloads q c.0))
      (either (λ b. kept_in (cond b (reclaimed (publication_of s q)) (publication_of s p)) (cond b 0 (payload_of s p)) ≡ cond b none (cell s p)) refl refl (eqb q.0 p.0))
  cell_law p (Read i) c = refl
  cell_law p (Observe q) c = refl
  cell_law p (Resolve q) c = refl
  cell_law p Count c = refl

  owed_law : (p : PublicationId) (c : Command) → ids p (effect s c).registry.leases ≡ follow (owes p) (ids p s.registry.leases) (tells c (result s c))
  owed_law p (Publish o g q v) = refl
  owed_law p (Adopt q o g) = refl
  owed_law p (Acquire q o g) = ids_snoc p s.registry.leases _
  owed_law p (Release i) = ids_without p i s.registry.leases
  owed_law p (Revoke q) = refl
  owed_law p (Replace q o g v) = refl
  owed_law p (Reclaim q) = refl
  owed_law p (Read i) = refl
  owed_law p (Observe q) = refl
  owed_law p (Resolve q) = refl
  owed_law p Count = refl

  given_law : (c : Command) → upto (length (effect s c).registry.publications) ≡ follow notes (upto (length es)) (tells c (result s c))
  given_law (Publish o g q v) = rw (above_upto (length es) (record { 0 = length es }) (omega arith)) (ap upto longer)
    where
      longer : length (es ++ (published o g q (length es) ∷ [])) ≡ suc (length es)
      longer = simp length-append (omega arith)
  given_law (Adopt q o g) = ap upto (length-set es q.0 (adopted (publication_of s q)))
  given_law (Acquire q o g) = refl
  given_law (Release i) = refl
  given_law (Revoke q) = ap upto (length-set es q.0 (hidden (publication_of s q)))
  given_law (Replace q o g v) = refl
  given_law (Reclaim q) = ap upto (length-set es q.0 (reclaimed (publication_of s q)))
  given_law (Read i) = refl
  given_law (Observe q) = refl
  given_law (Resolve q) = refl
  given_law Count = refl

  module _ (w : ℕ → ℕ) where
    abbrev old : ℕ → ℕ
    old n = weight w (publication_of s (record { 0 = n })) (payload_of s (record { 0 = n }))

    weighs : (p : PublicationId) (h : ℕ) → (publication_of s p).retained ≡ true → weight w (publication_of s p) h ≡ w h
    weighs p h r = rw r

    publish_adds : (e : Publication) (v : ℕ) → e.retained ≡ true
        → total (length (es ++ (e ∷ []))) (λ n. weight w (get_or (es ++ (e ∷ [])) n blank_publication) (get_or (s.payloads ++ (v ∷ [])) n 0)) ≡ total (length es) old + w v
    publish_adds e v r = rw longer (omega (arith, total-same (length es) new old (λ n h. earlier n h), last))
      where
        longer : length (es ++ (e ∷ [])) ≡ suc (length es)
        longer = simp length-append (omega arith)

        new : ℕ → ℕ
        new n = weight w (get_or (es ++ (e ∷ [])) n blank_publication) (get_or (s.payloads ++ (v ∷ [])) n 0)

        earlier : (n : ℕ) → n < length es → new n ≡ old n
        earlier n h = rw (get_or-snoc es e blank_publication n, get_or-snoc s.payloads v 0 n, k.s5.payload_each, ne_eqb (length es) n (omega arith))

        last : new (length es) ≡ w v
        last = rw (get_or-snoc es e blank_publication (length es), get_or-snoc s.payloads v 0 (length es), k.s5.payload_each, eq-eqb (length es) (length es) refl, r)

    replace_swaps : (p : PublicationId) (v : ℕ) → unknown s.registry p ≡ false → (publication_of s p).retained ≡ true
        → w v + total (length es) old ≡ w (payload_of s p) + total (length es) (λ n. weight w (publication_of s (record { 0 = n })) (get_or (set s.payloads p.0 v) n 0))
    replace_swaps p v u r =
        omega (
          arith,
          total-change (length es) old new p.0 (leb-false (length es) p.0 u) other,
          weighs p (payload_of s p) r,
          here,
        )
      where
        new : ℕ → ℕ
        new n = weight w (publication_of s (record { 0 = n })) (get_or (set s.payloads p.0 v) n 0)

        other : (n : ℕ) → n ≢ p.0 → old n ≡ new n
        other n h = rw (get_d_set s.payloads p.0 v 0 n (in_payloads p u), ne_eqb p.0 n (λ e. h (sym e)))

        here : new p.0 ≡ w v
        here = rw (get_d_set s.payloads p.0 v 0 p.0 (in_payloads p u), eq-eqb p.0 p.0 refl, r)

    reclaim_takes : (p : PublicationId) → unknown s.registry p ≡ false → (publication_of s p).retained ≡ true
        → total (length es) old
        ≡ w (payload_of s p)
        + total (length (set es p.0 (reclaimed (publication_of s p))))
        (λ n. weight w (get_or (set es p.0 (reclaimed (publication_of s p))) n blank_publication) (get_or (set s.payloads p.0 0) n 0))
    reclaim_takes p u r =
        rw (length-set es p.0 (reclaimed (publication_of s p)))
        (omega (arith, total-change (length es) old new p.0 known other, weighs p (payload_of s p) r, here))
      where
        known : p.0 < length es
        known = leb-false (length es) p.0 u

        new : ℕ → ℕ
        new n = weight w (get_or (set es p.0 (reclaimed (publication_of s p))) n blank_publication) (get_or (set s.payloads p.0 0) n 0)

        other : (n : ℕ) → n ≢ p.0 → old n ≡ new n
        other n h =
            rw (get_d_set es p.0 (reclaimed (publication_of s p)) blank_publication n known, get_d_set s.payloads p.0 0 0 n (in_payloads p u), ne_eqb p.0 n (λ e. h (sym e)))

        here : new p.0 ≡ 0
        here =
            rw (get_d_set es p.0 (reclaimed (publication_of s p)) blank_publication p.0 known, eq-eqb p.0 p.0 refl)

    balance_law : (c : Command) → Clear (tests L s c)
        → tally w (accepted (tells c (result s c))) + kept w s ≡ tally w (handed_back (tells c (result s c))) + kept w (effect s c)
    balance_law (Publish o g q v) c = omega (arith, publish_adds (published o g q (length es)) v refl)
    balance_law (Adopt p o g) c = omega (arith, weights_retained w s p (adopted (publication_of s p)) refl)
    balance_law (Acquire p o g) c = refl
    balance_law (Release i) c = refl
    balance_law (Revoke p) c = omega (arith, weights_retained w s p (hidden (publication_of s p)) refl)
    balance_law (Replace p o g v) c = omega (arith, replace_swaps p v c.0 (k.registry.s2 p (not-false _ c.1.1.0)))
    balance_law (Reclaim p) c = omega (arith, reclaim_takes p c.0 (not-false _ c.1.1.0))
    balance_law (Read i) c = refl
    balance_law (Observe p) c = refl
    balance_law (Resolve q) c = refl
    balance_law Count c = refl

  pub stays_linked : (c : Command) (fs : List Event) → Clear (tests L s c) → Linked s fs → Linked (effect s c) (fs ++ tells c (result s c))
  stays_linked c fs h r =
      record {
        cells = λ p. follow_append (holds p) none fs _ ∙ ap (λ (o : Option ℕ). follow (holds p) o (tells c (result s c))) (r.cells p) ∙ sym (cell_law p c h);
        owed = λ p. follow_append (owes p) [] fs _ ∙ ap (λ (is : List LeaseId). follow (owes p) is (tells c (result s c))) (r.owed p) ∙ sym (owed_law p c);
        given = follow_append notes [] fs _ ∙ ap (λ (ps : List PublicationId). follow notes ps (tells c (result s c))) r.given ∙ sym (given_law c);
        balance = λ w.
            rw (gather_append takes fs, gather_append gives fs, tally-append w (gather takes fs), tally-append w (gather gives fs))
            (omega (arith, r.balance w, balance_law w c h));
      }
