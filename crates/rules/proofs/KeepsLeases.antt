-- A registry stays sound when one lease is added, or one left out.
-- Assumes nothing.
use Rattle.std.specs.Prelude.{Option}
use Prim.Native.Nat.{suc, ◌<◌}
use mathlib.Core.Path.{◌≡◌}
use mathlib.Core.Bool.{Bool, true, false, cond}
use mathlib.Core.List.{List, [], ◌∷◌, ◌++◌}
use native.Mathlib.Omega.{arith}
use lib.ListN.{length, length-append}
use Rattle.lists.specs.Search.{leave_out}
use Rattle.lists.specs.Every.{Every}
use Rattle.lists.proofs.Search.{every_left, length-left}
use Rattle.lists.proofs.Every.{every_map, every_snoc}
use Rattle.rules.specs.Limits.{Limits}
use Rattle.rules.specs.Table.{Registry, at}
use Rattle.rules.specs.Conditions.{is_lease}
use Rattle.rules.specs.Changes.{and_lease, without_lease}
use Rattle.rules.specs.Sound.{Rising, RegistrySound}
use Rattle.rules.specs.declared.PublicationId.{PublicationId}
use Rattle.rules.specs.declared.LeaseId.{LeaseId}
use Rattle.rules.specs.declared.Lease.{Lease}
use Rattle.rules.specs.declared.Consumer.{Consumer}

-- identifiers rise still

pub rising_snoc : (ls : List Lease) (l : Lease) → Rising ls → Every (λ m. m.id.0 < l.id.0) ls → Rising (ls ++ (l ∷ []))
rising_snoc [] l r a = (tt, tt)
rising_snoc (m ∷ ls) l r a = (every_snoc (λ k. m.id.0 < k.id.0) ls l r.0 a.0, rising_snoc ls l r.1 a.1)

pub rising_left : (out : Lease → Bool) (ls : List Lease) → Rising ls → Rising (leave_out out ls)
rising_left out [] r = tt
rising_left out (l ∷ ls) r = go (out l) (every_left out (λ m. l.id.0 < m.id.0) ls r.0) (rising_left out ls r.1)
  where
    go : (b : Bool) → Every (λ m. l.id.0 < m.id.0) (leave_out out ls) → Rising (leave_out out ls)
        → Rising (cond b (leave_out out ls) (l ∷ leave_out out ls))
    go true a k = k
    go false a k = (a, k)

module _ (L : Limits) (t : Registry) (s : RegistrySound L t) where
  -- a lease of a retained publication
  pub and_lease_keeps : (p : PublicationId) (k : Option Consumer)
      → length t.leases < L.leases
      → (at t.publications p).retained ≡ true
      → RegistrySound L (and_lease t p k)
  and_lease_keeps p k room kept =
      record {
        s1 =
            record {
              publication_room = s.s1.publication_room;
              lease_room = simp length-append (omega arith);
              given_out = simp length-append (omega arith);
            };
        s2 = s.s2;
        s3 = record { ports = s.s3.ports; slots = s.s3.slots };
        s4 =
            record {
              rising = rising_snoc t.leases new s.s4.rising s.s4.below;
              below =
                  every_snoc (λ l. l.id.0 < suc t.counter) t.leases new
                  (every_map (λ l. l.id.0 < t.counter) (λ l. l.id.0 < suc t.counter) (λ l h. omega arith) t.leases s.s4.below)
                  (omega arith);
              named = every_snoc (λ l. (at t.publications l.publication).retained ≡ true) t.leases new s.s4.named kept;
            };
      }
    where
      new : Lease
      new = record { id = record { 0 = t.counter }; publication = p; consumer = k }

  pub without_lease_keeps : (i : LeaseId) → RegistrySound L (without_lease t i)
  without_lease_keeps i =
      record {
        s1 =
            record {
              publication_room = s.s1.publication_room;
              lease_room = omega (arith, length-left (is_lease i) t.leases, s);
              given_out = omega (arith, length-left (is_lease i) t.leases, s);
            };
        s2 = s.s2;
        s3 = record { ports = s.s3.ports; slots = s.s3.slots };
        s4 =
            record {
              rising = rising_left (is_lease i) t.leases s.s4.rising;
              below = every_left (is_lease i) (λ l. l.id.0 < t.counter) t.leases s.s4.below;
              named = every_left (is_lease i) (λ l. (at t.publications l.publication).retained ≡ true) t.leases s.s4.named;
            };
      }
