-- What each command makes of the visible table.
-- Assumes nothing.
use Prim.Native.Nat.{ℕ}
use mathlib.Core.Path.{◌≡◌, refl, sym, ap, ◌∙◌}
use mathlib.Core.Bool.{Bool, true, false, cond, true≢false, false≢true}
use mathlib.Core.List.{List, [], ◌∷◌}
use mathlib.Core.Option.{Option, none, some}
use native.Mathlib.Omega.{arith}
use lib.Dec.{eqb}
use lib.ListN.{length, get_or-append, get_or-eq_default}
use lib.Seq.{get_or-set_same, get_or-set_other, get_or-append_seam, get_or_at}
use borrow.Author.Tests.{leb-false, not-false}
use Rattle.lists.proofs.Bools.{either, and_left, and_right}
use Rattle.lists.proofs.Place.{set_rel, set_keeps, snoc_at, within}
use Rattle.lists.proofs.Search.{first_passes, none_passes}
use Rattle.rules.specs.Limits.{Limits}
use Rattle.rules.specs.Answers.{pass, verdict}
use Rattle.rules.specs.Table.{Store, blank_publication, at, publication_of, payload_of}
use Rattle.rules.specs.Conditions.{visible_on, port_held, resolved}
use Rattle.rules.specs.Changes.{published, adopted, hidden, reclaimed}
use Rattle.rules.specs.Rows.{publish_row, revoke_row, replace_row, reclaim_row, tests, effect, step}
use Rattle.rules.specs.Sound.{StoreSound}
use Rattle.rules.specs.VisibleTable.{visible_table, lookup, put, removed, shown_after}
use Rattle.rules.specs.declared.PublicationId.{PublicationId}
use Rattle.rules.specs.declared.Owner.{Owner}
use Rattle.rules.specs.declared.Port.{Port}
use Rattle.rules.specs.declared.Publication.{Publication}
use Rattle.rules.specs.declared.Command.{Command}
use Rattle.rules.specs.declared.Command.TheVariants.{Publish, Adopt, Acquire, Release, Revoke, Replace, Reclaim, Read, Observe, Resolve, Count}
use Rattle.rules.proofs.Clear.{clear}
use Rattle.rules.proofs.Refusals.{step_keeps}
use Rattle.rules.proofs.KeepsStore.{store_keeps}
use Rattle.rules.proofs.VisibleTable.{one_visible, shown, none_shown, visible_shown}

-- a map with another value at one port: here, and elsewhere
put_is : (x : Option ℕ) (m : Port → Option ℕ) (q r : Port) (v : Option ℕ)
    → (eqb q.0 r.0 ≡ true → x ≡ v)
    → (eqb q.0 r.0 ≡ false → x ≡ m r)
    → x ≡ put m q v r
put_is x m q r v here elsewhere =
    either (λ b. (b ≡ true → x ≡ v) → (b ≡ false → x ≡ m r) → x ≡ cond b v (m r)) (λ f g. f refl) (λ f g. g refl) (eqb q.0 r.0) here elsewhere

-- after a command that is carried out, on a port r

module _ (L : Limits) (s : Store) (k : StoreSound L s) (c : Command) (e : verdict (tests L s c) ≡ pass) (r : Port) where
  abbrev after : Store
  after = effect s c

  sound : StoreSound L after
  sound = store_keeps L s c k e

  -- where the same publications are visible, with the same handles, the same is shown
  same_shown : ((p : PublicationId) → visible_on r (publication_of after p) ≡ visible_on r (publication_of s p))
      → ((p : PublicationId) → visible_on r (publication_of s p) ≡ true → payload_of after p ≡ payload_of s p)
      → visible_table after r ≡ visible_table s r
  same_shown same handle = go (port_held s.registry r) refl
    where
      one : PublicationId
      one = resolved s.registry r

      go : (b : Bool) → port_held s.registry r ≡ b → visible_table after r ≡ visible_table s r
      go true h =
          let v = first_passes (visible_on r) s.registry.publications blank_publication h in
          shown L after sound r one (same one ∙ v) ∙ ap (λ (n : ℕ). some n) (handle one v) ∙ sym (shown L s k r one v)
      go false h =
          let f = none_passes (visible_on r) s.registry.publications blank_publication refl h in
          none_shown L after sound r (λ p v. true≢false (sym v ∙ same p ∙ f p.0))
          ∙ sym (none_shown L s k r (λ p v. true≢false (sym v ∙ f p.0)))

  now_shown : (p : PublicationId) (h : ℕ) → visible_on r (publication_of after p) ≡ true → payload_of after p ≡ h → visible_table after r ≡ some h
  now_shown p h v m = shown L after sound r p v ∙ ap (λ (n : ℕ). some n) m

module _ (L : Limits) (s : Store) (k : StoreSound L s) where
  abbrev es : List Publication
  es = s.registry.publications

  -- publish: nothing was shown on the port, and now the handle is

  module _ (o : Owner) (g : ℕ) (q : Port) (v : ℕ) (e : verdict (tests L s (Publish o g q v)) ≡ pass) where
    pub publish_finds : lookup s q ≡ none
    publish_finds = rw (clear (publish_row L s.registry q) e).1.0

    pub publish_shows : (r : Port) → visible_table (effect s (Publish o g q v)) r ≡ put (visible_table s) q (some v) r
    publish_shows r =
        put_is (visible_table (effect s (Publish o g q v)) r) (visible_table s) q r (some v)
        (λ h.
        now_shown L s k (Publish o g q v) e r (record { 0 = length es }) v
        (rw (get_or-append_seam es new [] blank_publication) h)
        (get_or_at s.payloads v [] 0 (length es) k.s5.payload_each))
        (λ h.
        same_shown L s k (Publish o g q v) e r
        (λ p. snoc_at (λ i x. visible_on r x ≡ visible_on r (at es (record { 0 = i }))) es new blank_publication (λ i n. refl) (rw past h) p.0)
        (λ p w.
        get_or-append s.payloads (v ∷ []) 0 p.0
        (rw k.s5.payload_each (within (visible_on r) es p.0 blank_publication refl w))))
      where
        new : Publication
        new = published o g q (length es)

        past : at es (record { 0 = length es }) ≡ blank_publication
        past = get_or-eq_default es blank_publication {n = length es} (omega arith)

  -- replace: the earlier handle was shown on the publication's port, and now the offered one is

  module _ (p : PublicationId) (o : Owner) (g v : ℕ) (e : verdict (tests L s (Replace p o g v)) ≡ pass) where
    abbrev replaced : Publication
    replaced = publication_of s p

    seen : replaced.visible ≡ true
    seen = not-false replaced.visible (clear (replace_row L s p o g) e).1.1.0

    pub replace_finds : lookup s replaced.port ≡ some (payload_of s p)
    replace_finds = visible_shown L s k p seen

    pub replace_shows : (r : Port) → visible_table (effect s (Replace p o g v)) r ≡ put (visible_table s) replaced.port (some v) r
    replace_shows r =
        put_is (visible_table (effect s (Replace p o g v)) r) (visible_table s) replaced.port r (some v)
        (λ h.
        now_shown L s k (Replace p o g v) e r p v (rw (seen, h))
        (get_or-set_same s.payloads p.0 v 0
        (rw k.s5.payload_each (leb-false (length es) p.0 (clear (replace_row L s p o g) e).0))))
        (λ h.
        same_shown L s k (Replace p o g v) e r (λ q. refl)
        (λ q w.
        get_or-set_other s.payloads p.0 q.0 v 0
        (λ m. true≢false (sym (and_right replaced.visible (eqb replaced.port.0 r.0) (rw m at w)) ∙ h))))

  -- revoke: a visible one's port shows nothing any more

  module _ (p : PublicationId) (e : verdict (tests L s (Revoke p)) ≡ pass) (r : Port) where
    abbrev revoked : Publication
    revoked = publication_of s p

    -- on a port where it was not visible
    elsewhere : visible_on r revoked ≡ false → visible_table (effect s (Revoke p)) r ≡ visible_table s r
    elsewhere h =
        same_shown L s k (Revoke p) e r
        (λ q. set_keeps (visible_on r) es p.0 (hidden revoked) blank_publication (sym h) q.0)
        (λ q w. refl)

    gone : visible_on r revoked ≡ true → (q : PublicationId) → visible_on r (publication_of (effect s (Revoke p)) q) ≡ true → ⊥
    gone v q w = false≢true (sym (ap (visible_on r) now_hidden) ∙ (rw same at w))
      where
        same : q ≡ p
        same =
            one_visible L s k r q p
            (set_rel (λ x y. visible_on r y ≡ true → visible_on r x ≡ true) es p.0 (hidden revoked) blank_publication (λ j u. u)
            (λ u. absurd (false≢true u))
            q.0
            w)
            v

        now_hidden : publication_of (effect s (Revoke p)) p ≡ hidden revoked
        now_hidden =
            get_or-set_same es p.0 (hidden revoked) blank_publication
            (leb-false (length es) p.0 (clear (revoke_row L s.registry p) e).0)

    pub revoke_hides : revoked.visible ≡ true → visible_table (effect s (Revoke p)) r ≡ removed (visible_table s) revoked.port r
    revoke_hides v =
        put_is (visible_table (effect s (Revoke p)) r) (visible_table s) revoked.port r none
        (λ h. none_shown L (effect s (Revoke p)) (store_keeps L s (Revoke p) k e) r (gone (rw (v, h))))
        (λ h. elsewhere (rw (v, h)))

    pub revoke_again : revoked.visible ≡ false → visible_table (effect s (Revoke p)) r ≡ visible_table s r
    revoke_again v = elsewhere (rw v)

  -- adopt and reclaim show what was shown

  pub adopt_shows : (p : PublicationId) (o : Owner) (g : ℕ) → verdict (tests L s (Adopt p o g)) ≡ pass → (r : Port)
      → visible_table (effect s (Adopt p o g)) r ≡ visible_table s r
  adopt_shows p o g e r =
      same_shown L s k (Adopt p o g) e r
      (λ q. set_keeps (visible_on r) es p.0 (adopted (publication_of s p)) blank_publication refl q.0)
      (λ q w. refl)

  pub reclaim_shows : (p : PublicationId) → verdict (tests L s (Reclaim p)) ≡ pass → (r : Port)
      → visible_table (effect s (Reclaim p)) r ≡ visible_table s r
  reclaim_shows p e r =
      same_shown L s k (Reclaim p) e r
      (λ q. set_keeps (visible_on r) es p.0 (reclaimed (publication_of s p)) blank_publication refl q.0)
      (λ q w.
      get_or-set_other s.payloads p.0 q.0 0 0
      (λ m.
      true≢false
      (sym (and_left (publication_of s p).visible (eqb (publication_of s p).port.0 r.0) (rw m at w))
      ∙ (clear (reclaim_row L s.registry p) e).1.0)))

-- all commands
pub visible_table_after : (L : Limits) (s : Store) → StoreSound L s → (c : Command) → verdict (tests L s c) ≡ pass → (r : Port)
    → visible_table (effect s c) r ≡ shown_after s c r
visible_table_after L s k (Publish o g q v) e r = publish_shows L s k o g q v e r
visible_table_after L s k (Adopt p o g) e r = adopt_shows L s k p o g e r
visible_table_after L s k (Acquire p o g) e r = refl
visible_table_after L s k (Release i) e r = refl
visible_table_after L s k (Revoke p) e r = go (publication_of s p).visible refl
  where
    go : (b : Bool) → (publication_of s p).visible ≡ b
        → visible_table (effect s (Revoke p)) r ≡ cond b (removed (visible_table s) (publication_of s p).port) (visible_table s) r
    go true v = revoke_hides L s k p e r v
    go false v = revoke_again L s k p e r v
visible_table_after L s k (Replace p o g v) e r = replace_shows L s k p o g v e r
visible_table_after L s k (Reclaim p) e r = reclaim_shows L s k p e r
visible_table_after L s k (Read i) e r = refl
visible_table_after L s k (Observe p) e r = refl
visible_table_after L s k (Resolve q) e r = refl
visible_table_after L s k Count e r = refl

-- a command that leaves the visible table does so whether it is carried out or refused
pub visible_table_kept : (L : Limits) (s : Store) → StoreSound L s → (c : Command) (r : Port) → shown_after s c r ≡ visible_table s r
    → visible_table (step L s c).table r ≡ visible_table s r
visible_table_kept L s k c r same =
    step_keeps L s c (λ t. visible_table t r ≡ visible_table s r) refl (λ e. visible_table_after L s k c e r ∙ same)
