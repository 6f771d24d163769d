-- The visible table shows the handle of the one visible publication on each port.
-- Assumes nothing.
use Prim.Native.Nat.{ℕ}
use mathlib.Core.Path.{◌≡◌, refl, sym, ap, ◌∙◌}
use mathlib.Core.Bool.{Bool, true, false, cond}
use mathlib.Core.Logic.{◌↔◌}
use mathlib.Core.Option.{none, some}
use native.Mathlib.Omega.{arith}
use lib.Dec.{eqb}
use borrow.Author.Tests.{eqb-true, eq-eqb}
use Rattle.lists.proofs.Bools.{and_left, and_right}
use Rattle.lists.proofs.Search.{found, first_passes, not_found}
use Rattle.rules.specs.Limits.{Limits}
use Rattle.rules.specs.Table.{Store, blank_publication, publication_of, payload_of}
use Rattle.rules.specs.Conditions.{visible_on, port_held, resolved}
use Rattle.rules.specs.Sound.{StoreSound}
use Rattle.rules.specs.VisibleTable.{visible_table}
use Rattle.rules.specs.declared.PublicationId.{PublicationId}
use Rattle.rules.specs.declared.Port.{Port}

module _ (L : Limits) (s : Store) (k : StoreSound L s) (r : Port) where
  -- two that are visible on one port are one
  pub one_visible : (p q : PublicationId) → visible_on r (publication_of s p) ≡ true → visible_on r (publication_of s q) ≡ true → p ≡ q
  one_visible p q v w =
      k.registry.s3.ports p q (and_left (publication_of s p).visible (on p) v) (and_left (publication_of s q).visible (on q) w)
      (ap (λ (n : ℕ). port n)
      (eqb-true (publication_of s p).port.0 r.0 (and_right (publication_of s p).visible (on p) v)
      ∙ sym (eqb-true (publication_of s q).port.0 r.0 (and_right (publication_of s q).visible (on q) w))))
    where
      on : PublicationId → Bool
      on p = eqb (publication_of s p).port.0 r.0

      port : ℕ → Port
      port n = record { 0 = n }

  -- the handle of the one that is visible there is shown; where none is, nothing
  pub shown : (p : PublicationId) → visible_on r (publication_of s p) ≡ true → visible_table s r ≡ some (payload_of s p)
  shown p v =
      rw held
      (ap (λ (q : PublicationId). some (payload_of s q))
      (one_visible (resolved s.registry r) p (first_passes (visible_on r) s.registry.publications blank_publication held) v))
    where
      held : port_held s.registry r ≡ true
      held = found (visible_on r) s.registry.publications blank_publication refl p.0 v

  pub none_shown : ((p : PublicationId) → visible_on r (publication_of s p) ≡ true → ⊥) → visible_table s r ≡ none
  none_shown f = rw (not_found (visible_on r) s.registry.publications blank_publication (λ i. f (record { 0 = i })))

  -- a handle is shown exactly where a publication that holds it is visible
  pub shown_exactly : (h : ℕ)
      → (visible_table s r ≡ some h) ↔ ((p : PublicationId) × (visible_on r (publication_of s p) ≡ true) × (payload_of s p ≡ h))
  shown_exactly h = (go (port_held s.registry r) refl, λ p. shown p.0 p.1 ∙ ap (λ (n : ℕ). some n) p.2)
    where
      one : PublicationId
      one = resolved s.registry r

      go : (b : Bool) → port_held s.registry r ≡ b → cond b (some (payload_of s one)) none ≡ some h
          → (p : PublicationId) × (visible_on r (publication_of s p) ≡ true) × (payload_of s p ≡ h)
      go true e m = (one, first_passes (visible_on r) s.registry.publications blank_publication e, (cc))
      go false e m = let z : ◌≡◌ {A = ℕ} 0 1 = cc in absurd (omega arith)

-- on a visible publication's port its handle is shown
pub visible_shown : (L : Limits) (s : Store) → StoreSound L s → (p : PublicationId) → (publication_of s p).visible ≡ true
    → visible_table s (publication_of s p).port ≡ some (payload_of s p)
visible_shown L s k p v =
    shown L s k (publication_of s p).port p (rw (v, eq-eqb (publication_of s p).port.0 (publication_of s p).port.0 refl))
