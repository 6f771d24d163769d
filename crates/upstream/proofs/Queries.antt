-- The registry's queries: `domain`, `entry`, `lease`, `resolve` and `leased_slot`. R2, R8 to R10, R17.
-- Assumes nothing.
use Prim.Native.Nat.{ℕ}
use mathlib.Core.Path.{◌≡◌, refl}
use mathlib.Core.Bool.{Bool, true, false, not, cond}
use mathlib.Core.List.{[], ◌∷◌}
use mathlib.Core.Option.{Option, none, some}
use lib.Dec.{leb, ltb}
use lib.ListN.{length}
use borrow.Author.Tests.{leb-true, leb-false, lt-ltb, le-ltb}
use Rattle.rules.specs.Limits.{Limits}
use Rattle.rules.specs.Answers.{Answer, ◌⇒◌, refused, done, verdict, carry}
use Rattle.rules.specs.Table.{Registry, at}
use Rattle.rules.specs.Conditions.{unknown, never_lent, active, lease_of}
use Rattle.rules.specs.RegistryRows.{CallAnswer, leased_slot, entry, lease, domain, registry_step}
use Rattle.rules.specs.declared.PublicationId.{PublicationId}
use Rattle.rules.specs.declared.LeaseId.{LeaseId}
use Rattle.rules.specs.declared.Publication.{Publication}
use Rattle.rules.specs.declared.Lease.{Lease}
use Rattle.rules.specs.declared.Refusal.TheVariants.{Unknown, Released, Absent}
use Rattle.upstream.specs.Answers.{optional}
use Rattle.upstream.specs.Registry.{domain_id, publications, lease_allocations, active_lease}
use Rattle.upstream.proofs.Leases.{active_is, inactive_is}

pub record DomainClauses (self : Registry) (out : CallAnswer domain) : Type 0 where
  pub R2_1 : out ≡ done (domain_id self)

pub record EntryClauses (id : PublicationId) (self : Registry) (out : CallAnswer (entry id)) : Type 0 where
  pub R8_1 : out ≡ cond (ltb id.0 (length (publications self))) (done (at (publications self) id)) (refused Absent tt)

pub record LeaseClauses (id : LeaseId) (self : Registry) (out : CallAnswer (lease id)) : Type 0 where
  pub R9_2 : out ≡ optional (active_lease self id)

-- the slot of the publication that an active lease names
abbrev pub slot_named : Registry → Option Lease → Answer ℕ (Unit {0})
slot_named self none = refused Released tt
slot_named self (some l) = done (at (publications self) l.publication).slot

pub record LeasedSlotClauses (token : LeaseId) (self : Registry) (out : CallAnswer (leased_slot token)) : Type 0 where
  pub R17_2 : out ≡ cond (leb (lease_allocations self) token.0) (refused Unknown tt) (slot_named self (active_lease self token))

module _ (L : Limits) (t : Registry) where
  pub domain_R2 : DomainClauses t (registry_step L t domain).answer
  unfolding registry_step
  domain_R2 = record { R2_1 = refl }

  pub entry_R8 : (p : PublicationId) → EntryClauses p t (registry_step L t (entry p)).answer
  unfolding registry_step
  entry_R8 p = record { R8_1 = go (unknown t p) refl }
    where
      e : Publication
      e = at (publications t) p

      n : ℕ
      n = length (publications t)

      go : (b : Bool) → unknown t p ≡ b
          → (carry (verdict ((b ⇒ Absent) ∷ [])) t (tt {0}) e t).answer ≡ cond (ltb p.0 n) (done e) (refused Absent (tt {0}))
      go true h = rw (le-ltb p.0 n (leb-true n p.0 h))
      go false h = rw (lt-ltb p.0 n (leb-false n p.0 h))

  pub lease_R9 : (i : LeaseId) → LeaseClauses i t (registry_step L t (lease i)).answer
  unfolding registry_step
  lease_R9 i = record { R9_2 = go (active t i) refl }
    where
      go : (b : Bool) → active t i ≡ b
          → (carry (verdict ((not b ⇒ Absent) ∷ [])) t (tt {0}) (lease_of t i) t).answer ≡ optional (active_lease t i)
      go true e = rw (active_is t i e)
      go false e = rw (inactive_is t i e)

  pub leased_slot_R17 : (i : LeaseId) → LeasedSlotClauses i t (registry_step L t (leased_slot i)).answer
  unfolding registry_step
  leased_slot_R17 i = record { R17_2 = go (never_lent t i) (active t i) refl }
    where
      slot : ℕ
      slot = (at (publications t) (lease_of t i).publication).slot

      go : (a b : Bool) → active t i ≡ b
          → (carry (verdict ((a ⇒ Unknown) ∷ (not b ⇒ Released) ∷ [])) t (tt {0}) slot t).answer ≡ cond a (refused Unknown (tt {0})) (slot_named t (active_lease t i))
      go true b e = refl
      go false true e = rw (active_is t i e)
      go false false e = rw (inactive_is t i e)
