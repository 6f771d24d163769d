-- A registry stays sound when one publication is changed, or one added.
-- Assumes nothing.
use Prim.Native.Nat.{ℕ, ◌<◌}
use mathlib.Core.Path.{◌≡◌, refl, sym, ap, ◌∙◌}
use mathlib.Core.Bool.{true, false, true≢false}
use mathlib.Core.List.{List, [], ◌∷◌, ◌++◌}
use native.Mathlib.Omega.{arith}
use lib.ListN.{length, length-append, length-set, get_or-append}
use lib.Seq.{get_or-set_other}
use borrow.Author.Tests.{eqb-false, eq-eqb}
use Rattle.lists.specs.Every.{Every}
use Rattle.lists.proofs.Place.{set_rel, set_keeps, snoc_at, within, snoc_apart}
use Rattle.lists.proofs.Search.{none_passes, none_of}
use Rattle.lists.proofs.Every.{every_map, every_both}
use Rattle.rules.specs.Limits.{Limits}
use Rattle.rules.specs.Table.{Registry, blank_publication, at}
use Rattle.rules.specs.Conditions.{visible_on, retained_in, names, port_held, slot_held, leased}
use Rattle.rules.specs.Changes.{and_publication, change}
use Rattle.rules.specs.Sound.{RegistrySound}
use Rattle.rules.specs.declared.PublicationId.{PublicationId}
use Rattle.rules.specs.declared.Port.{Port}
use Rattle.rules.specs.declared.Publication.{Publication}

abbrev numbered : ℕ → PublicationId
numbered i = record { 0 = i }

-- a record may become another: port and slot stay, it is visible or retained only if it was, and visible implies retained
pub record Becomes (e f : Publication) : Type 0 where
  pub port : f.port ≡ e.port
  pub slot : f.slot ≡ e.slot
  pub was_visible : f.visible ≡ true → e.visible ≡ true
  pub was_retained : f.retained ≡ true → e.retained ≡ true
  pub visible_retained : f.visible ≡ true → f.retained ≡ true

module _ (L : Limits) (t : Registry) (s : RegistrySound L t) where
  abbrev es : List Publication
  es = t.publications

  -- one publication changed

  module _ (p : PublicationId) (f : Publication → Publication) where
    abbrev changed : List Publication
    changed = (change t p f).publications

    -- each lease names a retained publication: where the change keeps whether this one is retained, or where no lease names it

    abbrev Named : Type 0
    Named = Every (λ l. (at changed l.publication).retained ≡ true) t.leases

    pub named_kept : (f (at es p)).retained ≡ (at es p).retained → Named
    named_kept e =
        every_map (λ l. (at es l.publication).retained ≡ true) (λ l. (at changed l.publication).retained ≡ true)
        (λ l h. set_keeps (λ x. x.retained) es p.0 (f (at es p)) blank_publication e l.publication.0 ∙ h)
        t.leases
        s.s4.named

    pub named_unleased : leased t p ≡ false → Named
    named_unleased e =
        every_both (λ l. (at es l.publication).retained ≡ true) (λ l. names p l ≡ false) (λ l. (at changed l.publication).retained ≡ true)
        (λ l h n.
        ap (λ (x : Publication). x.retained)
        (get_or-set_other es p.0 l.publication.0 (f (at es p)) blank_publication (eqb-false l.publication.0 p.0 n))
        ∙ h)
        t.leases
        s.s4.named
        (none_of (names p) t.leases e)

    pub change_keeps : Becomes (at es p) (f (at es p)) → Named → RegistrySound L (change t p f)
    change_keeps b n =
        record {
          s1 =
              record {
                publication_room = rw (length-set es p.0 (f (at es p))) s.s1.publication_room;
                lease_room = s.s1.lease_room;
                given_out = s.s1.given_out;
              };
          s2 = λ q. (to q).visible_retained;
          s3 =
              record {
                ports = λ q r v w e. s.s3.ports q r ((to q).was_visible v) ((to r).was_visible w) (sym (to q).port ∙ e ∙ (to r).port);
                slots = λ q r v w e. s.s3.slots q r ((to q).was_retained v) ((to r).was_retained w) (sym (to q).slot ∙ e ∙ (to r).slot);
              };
          s4 = record { rising = s.s4.rising; below = s.s4.below; named = n };
        }
      where
        stays : (i : ℕ) → Becomes (at es (numbered i)) (at es (numbered i))
        stays i = record { port = refl; slot = refl; was_visible = λ h. h; was_retained = λ h. h; visible_retained = s.s2 (numbered i) }

        to : (q : PublicationId) → Becomes (at es q) (at changed q)
        to q = set_rel Becomes es p.0 (f (at es p)) blank_publication stays b q.0

  -- one publication added, on a port that no visible one holds and in a slot that no retained one holds

  module _ (e : Publication) (port_free : port_held t e.port ≡ false) (slot_free : slot_held t e.slot ≡ false) where
    abbrev added : List Publication
    added = es ++ (e ∷ [])

    other_port : (i : ℕ) → (at es (numbered i)).visible ≡ true → (at es (numbered i)).port ≡ e.port → ⊥
    other_port i v k = true≢false (sym on ∙ none_passes (visible_on e.port) es blank_publication refl port_free i)
      where
        on : visible_on e.port (at es (numbered i)) ≡ true
        on = rw (v, eq-eqb (at es (numbered i)).port.0 e.port.0 (ap (λ (q : Port). q.0) k))

    other_slot : (i : ℕ) → (at es (numbered i)).retained ≡ true → (at es (numbered i)).slot ≡ e.slot → ⊥
    other_slot i v k = true≢false (sym inside ∙ none_passes (retained_in e.slot) es blank_publication refl slot_free i)
      where
        inside : retained_in e.slot (at es (numbered i)) ≡ true
        inside = rw (v, eq-eqb (at es (numbered i)).slot e.slot k)

    still_retained : (p : PublicationId) → (at es p).retained ≡ true → (at added p).retained ≡ true
    still_retained p h =
        ap (λ (x : Publication). x.retained)
        (get_or-append es (e ∷ []) blank_publication p.0 (within (λ x. x.retained) es p.0 blank_publication refl h))
        ∙ h

    pub and_publication_keeps : length es < L.publications → (e.visible ≡ true → e.retained ≡ true) → RegistrySound L (and_publication t e)
    and_publication_keeps room kept =
        record {
          s1 =
              record {
                publication_room = simp length-append (omega arith);
                lease_room = s.s1.lease_room;
                given_out = s.s1.given_out;
              };
          s2 =
              λ p. snoc_at (λ i x. x.visible ≡ true → x.retained ≡ true) es e blank_publication (λ i n. s.s2 (numbered i)) kept p.0;
          s3 =
              record {
                ports =
                    λ p q u v k.
                    ap numbered
                    (snoc_apart (λ x. x.visible) (λ x. x.port) es e blank_publication
                    (λ i j u v k. ap (λ (p : PublicationId). p.0) (s.s3.ports (numbered i) (numbered j) u v k))
                    other_port
                    p.0
                    q.0
                    u
                    v
                    k);
                slots =
                    λ p q u v k.
                    ap numbered
                    (snoc_apart (λ x. x.retained) (λ x. x.slot) es e blank_publication
                    (λ i j u v k. ap (λ (p : PublicationId). p.0) (s.s3.slots (numbered i) (numbered j) u v k))
                    other_slot
                    p.0
                    q.0
                    u
                    v
                    k);
              };
          s4 =
              record {
                rising = s.s4.rising;
                below = s.s4.below;
                named =
                    every_map (λ l. (at es l.publication).retained ≡ true) (λ l. (at added l.publication).retained ≡ true)
                    (λ l. still_retained l.publication)
                    t.leases
                    s.s4.named;
              };
        }
