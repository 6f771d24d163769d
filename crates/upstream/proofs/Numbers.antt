-- Identifiers, leases, owners and ports are equal where their numbers are; so who owns a record.
-- Assumes nothing.
use Prim.Native.Nat.{ℕ}
use mathlib.Core.Path.{◌≡◌, ap}
use mathlib.Core.Bool.{true}
use mathlib.Core.Logic.{◌↔◌}
use lib.Dec.{eqb}
use borrow.Author.Tests.{eqb-true, eq-eqb}
use Rattle.lists.proofs.Bools.{and_left, and_right}
use Rattle.rules.specs.Conditions.{owned_by}
use Rattle.rules.specs.declared.PublicationId.{PublicationId}
use Rattle.rules.specs.declared.LeaseId.{LeaseId}
use Rattle.rules.specs.declared.Owner.{Owner}
use Rattle.rules.specs.declared.Port.{Port}
use Rattle.rules.specs.declared.Publication.{Publication}

pub same_id : (a b : PublicationId) → a.0 ≡ b.0 → a ≡ b
same_id a b e = ap (λ (n : ℕ). of n) e
  where
    of : ℕ → PublicationId
    of n = record { 0 = n }

pub same_lease : (a b : LeaseId) → a.0 ≡ b.0 → a ≡ b
same_lease a b e = ap (λ (n : ℕ). of n) e
  where
    of : ℕ → LeaseId
    of n = record { 0 = n }

pub same_owner : (a b : Owner) → a.0 ≡ b.0 → a ≡ b
same_owner a b e = ap (λ (n : ℕ). of n) e
  where
    of : ℕ → Owner
    of n = record { 0 = n }

pub same_port : (a b : Port) → a.0 ≡ b.0 → a ≡ b
same_port a b e = ap (λ (n : ℕ). of n) e
  where
    of : ℕ → Port
    of n = record { 0 = n }

pub owned_exactly : (o : Owner) (g : ℕ) (e : Publication) → (owned_by o g e ≡ true) ↔ ((e.owner ≡ o) × (e.generation ≡ g))
owned_exactly o g e = (
  λ h. (
    same_owner e.owner o (eqb-true e.owner.0 o.0 (and_left (eqb e.owner.0 o.0) (eqb e.generation g) h)),
    eqb-true e.generation g (and_right (eqb e.owner.0 o.0) (eqb e.generation g) h),
  ),
  λ h. rw (eq-eqb e.owner.0 o.0 (ap (λ (n : Owner). n.0) h.0), eq-eqb e.generation g h.1),
)
