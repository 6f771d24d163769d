-- Every command keeps a sound store sound, and an empty one is sound.
-- Assumes nothing.
use Rattle.std.specs.Prelude.{Option}
use Prim.Native.Nat.{ℕ, suc, ◌<◌}
use mathlib.Core.Path.{◌≡◌, refl, sym, ap, ◌∙◌}
use mathlib.Core.Bool.{true, false, cond, true≢false}
use mathlib.Core.List.{List, [], ◌∷◌, ◌++◌}
use native.Mathlib.Omega.{arith}
use lib.Dec.{eqb}
use lib.ListN.{length, length-append, length-set}
use lib.Seq.{get_or-set_other}
use borrow.Author.Tests.{leb-false, not-false}
use Rattle.lists.proofs.Bools.{either}
use Rattle.lists.proofs.Place.{get_d_set, get_or-snoc, set_keeps, snoc_at}
use Rattle.rules.specs.Limits.{Limits}
use Rattle.rules.specs.Answers.{pass, verdict}
use Rattle.rules.specs.Table.{Registry, Store, empty_store, blank_publication, at, publication_of, payload_of, revision_of, taken_by}
use Rattle.rules.specs.Changes.{published, adopted, hidden, reclaimed, change, with_registry}
use Rattle.rules.specs.Rows.{publish_row, acquire_row, reclaim_row, replace_row, tests, effect, step}
use Rattle.rules.specs.Sound.{S5, StoreSound}
use Rattle.rules.specs.declared.PublicationId.{PublicationId}
use Rattle.rules.specs.declared.Owner.{Owner}
use Rattle.rules.specs.declared.Port.{Port}
use Rattle.rules.specs.declared.Publication.{Publication}
use Rattle.rules.specs.declared.Command.{Command}
use Rattle.rules.specs.declared.Command.TheVariants.{Publish, Adopt, Acquire, Release, Revoke, Replace, Reclaim, Read, Observe, Resolve, Count}
use Rattle.rules.proofs.Clear.{clear}
use Rattle.rules.proofs.Refusals.{step_keeps}
use Rattle.rules.proofs.KeepsPublications.{and_publication_keeps}
use Rattle.rules.proofs.KeepsLeases.{without_lease_keeps}
use Rattle.rules.proofs.KeepsRegistry.{adopt_keeps, revoke_keeps, reclaim_keeps, acquire_keeps, empty_registry_sound}
use Rattle.rules.proofs.Slots.{slot_free}

module _ (L : Limits) (s : Store) (k : StoreSound L s) where
  abbrev es : List Publication
  es = s.registry.publications

  -- a registry whose publications have the slots that they had, and of which the same are retained
  same_s5 : (t : Registry)
      → length t.publications ≡ length es
      → ((p : PublicationId) → (at t.publications p).slot ≡ (publication_of s p).slot)
      → ((p : PublicationId) → (at t.publications p).retained ≡ (publication_of s p).retained)
      → S5 (with_registry s t)
  same_s5 t n slot kept =
      record {
        slots = λ p h. slot p ∙ k.s5.slots p (rw n at h);
        payloads = λ p h. k.s5.payloads p (sym (kept p) ∙ h);
        payload_each = k.s5.payload_each ∙ sym n;
        revision_each = k.s5.revision_each ∙ sym n;
      }

  -- a publication changed in neither
  change_s5 : (p : PublicationId) (f : Publication → Publication)
      → (f (publication_of s p)).slot ≡ (publication_of s p).slot
      → (f (publication_of s p)).retained ≡ (publication_of s p).retained
      → S5 (with_registry s (change s.registry p f))
  change_s5 p f slot kept =
      same_s5 (change s.registry p f) (length-set es p.0 (f (publication_of s p)))
      (λ q. set_keeps (λ x. x.slot) es p.0 (f (publication_of s p)) blank_publication slot q.0)
      (λ q. set_keeps (λ x. x.retained) es p.0 (f (publication_of s p)) blank_publication kept q.0)

  publish_s5 : (o : Owner) (g : ℕ) (q : Port) (v : ℕ) → S5 (effect s (Publish o g q v))
  publish_s5 o g q v =
      record {
        slots =
            λ p.
            snoc_at (λ i x. i < length (es ++ (e ∷ [])) → x.slot ≡ i) es e blank_publication
            (λ i n h. k.s5.slots (record { 0 = i }) (omega (arith, simp length-append at h)))
            (λ h. refl)
            p.0;
        payloads =
            λ p.
            rw (get_or-snoc es e blank_publication p.0, get_or-snoc s.payloads v 0 p.0, k.s5.payload_each)
            (either (λ b. (cond b e (publication_of s p)).retained ≡ false → cond b v (payload_of s p) ≡ 0)
            (λ h. absurd (true≢false h))
            (k.s5.payloads p)
            (eqb (length es) p.0));
        payload_each = simp length-append (omega (arith, k.s5.payload_each));
        revision_each = simp length-append (omega (arith, k.s5.revision_each));
      }
    where
      e : Publication
      e = published o g q (length es)

  replace_s5 : (p : PublicationId) (o : Owner) (g v : ℕ) → (publication_of s p).retained ≡ true → S5 (effect s (Replace p o g v))
  replace_s5 p o g v kept =
      record {
        slots = k.s5.slots;
        payloads =
            λ q h.
            get_or-set_other s.payloads p.0 q.0 v 0
            (λ e. true≢false (sym kept ∙ sym (ap (λ (i : ℕ). (publication_of s (record { 0 = i })).retained) e) ∙ h))
            ∙ k.s5.payloads q h;
        payload_each = length-set s.payloads p.0 v ∙ k.s5.payload_each;
        revision_each = length-set s.revisions p.0 (suc (revision_of s p)) ∙ k.s5.revision_each;
      }

  reclaim_s5 : (p : PublicationId) → p.0 < length es → S5 (effect s (Reclaim p))
  reclaim_s5 p known =
      record {
        slots = λ q h. set_keeps (λ x. x.slot) es p.0 e blank_publication refl q.0 ∙ k.s5.slots q (rw (length-set es p.0 e) at h);
        payloads =
            λ q.
            rw (get_d_set es p.0 e blank_publication q.0 known, get_d_set s.payloads p.0 0 0 q.0 (rw k.s5.payload_each known))
            (either (λ b. (cond b e (publication_of s q)).retained ≡ false → cond b 0 (payload_of s q) ≡ 0)
            (λ h. refl)
            (k.s5.payloads q)
            (eqb p.0 q.0));
        payload_each = length-set s.payloads p.0 0 ∙ k.s5.payload_each ∙ sym (length-set es p.0 e);
        revision_each = k.s5.revision_each ∙ sym (length-set es p.0 e);
      }
    where
      e : Publication
      e = reclaimed (publication_of s p)

pub store_keeps : (L : Limits) (s : Store) (c : Command) → StoreSound L s → verdict (tests L s c) ≡ pass → StoreSound L (effect s c)
store_keeps L s (Publish o g q v) k e =
    let c = clear (publish_row L s.registry q) e in
    record {
      registry =
          and_publication_keeps L s.registry k.registry (published o g q (length s.registry.publications))
          c.1.0
          (slot_free L s k)
          (leb-false L.publications (length s.registry.publications) c.0)
          (λ h. refl);
      s5 = publish_s5 L s k o g q v;
    }
store_keeps L s (Adopt p o g) k e =
    record { registry = adopt_keeps L s.registry k.registry p; s5 = change_s5 L s k p adopted refl refl }
store_keeps L s (Acquire p o g) k e =
    record {
      registry = acquire_keeps L s.registry k.registry p (taken_by o g) (clear (acquire_row L s.registry p) e);
      s5 = same_s5 L s k (effect s (Acquire p o g)).registry refl (λ p. refl) (λ p. refl);
    }
store_keeps L s (Release i) k e =
    record {
      registry = without_lease_keeps L s.registry k.registry i;
      s5 = same_s5 L s k (effect s (Release i)).registry refl (λ p. refl) (λ p. refl);
    }
store_keeps L s (Revoke p) k e =
    record { registry = revoke_keeps L s.registry k.registry p; s5 = change_s5 L s k p hidden refl refl }
store_keeps L s (Replace p o g v) k e =
    let c = clear (replace_row L s p o g) e in
    record { registry = k.registry; s5 = replace_s5 L s k p o g v (k.registry.s2 p (not-false _ c.1.1.0)) }
store_keeps L s (Reclaim p) k e =
    let c = clear (reclaim_row L s.registry p) e in
    record {
      registry = reclaim_keeps L s.registry k.registry p c;
      s5 = reclaim_s5 L s k p (leb-false (length s.registry.publications) p.0 c.0);
    }
store_keeps L s (Read i) k e = k
store_keeps L s (Observe p) k e = k
store_keeps L s (Resolve q) k e = k
store_keeps L s Count k e = k

pub step_sound : (L : Limits) (s : Store) (c : Command) → StoreSound L s → StoreSound L (step L s c).table
step_sound L s c k = step_keeps L s c (StoreSound L) k (store_keeps L s c k)

pub empty_sound : (L : Limits) (d : Option ℕ) → StoreSound L (empty_store d)
empty_sound L d =
    record {
      registry = empty_registry_sound L d;
      s5 = record { slots = λ p h. omega arith; payloads = λ p h. refl; payload_each = refl; revision_each = refl };
    }
