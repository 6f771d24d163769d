-- Identifiers and leases are given out once: their counts never fall, and each goes up by one where one is given out.
-- Assumes nothing.
use Prim.Native.Nat.{ℕ, suc, ◌≤◌, ◌<◌}
use mathlib.Core.Path.{◌≡◌, ap}
use mathlib.Core.List.{List, [], ◌∷◌}
use native.Mathlib.Omega.{arith}
use lib.ListN.{length, length-append, length-set}
use Rattle.rules.specs.Limits.{Limits}
use Rattle.rules.specs.Answers.{done}
use Rattle.rules.specs.Table.{Registry, Store}
use Rattle.rules.specs.Rows.{effect, step}
use Rattle.rules.specs.RegistryRows.{Call, publish, can_adopt, adopt, check_lease_capacity, acquire, leased_slot, release, revoke, reclaim, resolve, entry, lease, domain, publication_records, lease_record_count, lease_allocation_count, call_effect, registry_step}
use Rattle.rules.specs.Broker.{run}
use Rattle.rules.specs.Demand2.{by_the_rows}
use Rattle.rules.specs.declared.PublicationId.{PublicationId}
use Rattle.rules.specs.declared.LeaseId.{LeaseId}
use Rattle.rules.specs.declared.Owner.{Owner}
use Rattle.rules.specs.declared.Port.{Port}
use Rattle.rules.specs.declared.Command.{Command}
use Rattle.rules.specs.declared.Command.TheVariants.{Publish, Adopt, Acquire, Release, Revoke, Replace, Reclaim, Read, Observe, Resolve, Count}
use Rattle.rules.proofs.Refusals.{call_step_keeps, step_keeps, done_leaves}

-- from one table to a later one
pub record Rises (old final : Registry) : Type 0 where
  pub publications : length old.publications ≤ length final.publications
  pub counter : old.counter ≤ final.counter

stays : (t : Registry) → Rises t t
stays t = record { publications = omega arith; counter = omega arith }

-- every call of the registry

call_raises : (t : Registry) (k : Call) → Rises t (call_effect t k)
call_raises t (publish o g q n) = record { publications = simp length-append (omega arith); counter = omega arith }
call_raises t (can_adopt p o g) = stays t
call_raises t (adopt p o g) = record { publications = simp length-set (omega arith); counter = omega arith }
call_raises t (check_lease_capacity n) = stays t
call_raises t (acquire p c) = record { publications = omega arith; counter = omega arith }
call_raises t (leased_slot i) = stays t
call_raises t (release i) = record { publications = omega arith; counter = omega arith }
call_raises t (revoke p) = record { publications = simp length-set (omega arith); counter = omega arith }
call_raises t (reclaim p) = record { publications = simp length-set (omega arith); counter = omega arith }
call_raises t (resolve q) = stays t
call_raises t (entry p) = stays t
call_raises t (lease i) = stays t
call_raises t domain = stays t
call_raises t publication_records = stays t
call_raises t lease_record_count = stays t
call_raises t lease_allocation_count = stays t

pub call_rises : (L : Limits) (t : Registry) (k : Call) → Rises t (registry_step L t k).table
call_rises L t k = call_step_keeps L t k (Rises t) (stays t) (λ e. call_raises t k)

-- every command of the store

command_raises : (s : Store) (c : Command) → Rises s.registry (effect s c).registry
command_raises s (Publish o g q v) = call_raises s.registry (publish o g q (length s.registry.publications))
command_raises s (Adopt p o g) = call_raises s.registry (adopt p o g)
command_raises s (Acquire p o g) = record { publications = omega arith; counter = omega arith }
command_raises s (Release i) = call_raises s.registry (release i)
command_raises s (Revoke p) = call_raises s.registry (revoke p)
command_raises s (Replace p o g v) = stays s.registry
command_raises s (Reclaim p) = call_raises s.registry (reclaim p)
command_raises s (Read i) = stays s.registry
command_raises s (Observe p) = stays s.registry
command_raises s (Resolve q) = stays s.registry
command_raises s Count = stays s.registry

module _ (L : Limits) where
  pub command_rises : (s : Store) (c : Command) → Rises s.registry (step L s c).table.registry
  command_rises s c = step_keeps L s c (λ u. Rises s.registry u.registry) (stays s.registry) (λ e. command_raises s c)

  -- and so every run

  abbrev pub after : Store → List Command → Store
  after s cs = run (by_the_rows L s) s cs

  run_from : (first s : Store) (cs : List Command) → Rises s.registry (run (by_the_rows L first) s cs).registry
  unfolding run
  run_from first s [] = stays s.registry
  run_from first s (c ∷ cs) =
      let one = command_rises s c in
      let rest = run_from first (step L s c).table cs in
      record { publications = omega arith; counter = omega arith }

  pub run_rises : (s : Store) (cs : List Command) → Rises s.registry (after s cs).registry
  run_rises s cs = run_from s s cs

  -- a later publish answers a larger identifier, a later acquire a larger lease, whatever stands between

  pub identifier_once : (s : Store) (o n : Owner) (g h : ℕ) (q r : Port) (v w : ℕ) (cs : List Command) (i j : PublicationId)
      → (step L s (Publish o g q v)).answer ≡ done i
      → (step L (after (step L s (Publish o g q v)).table cs) (Publish n h r w)).answer ≡ done j
      → i.0 < j.0
  identifier_once s o n g h q r v w cs i j e f =
      let first = done_leaves L s (Publish o g q v) i e in
      let then = (step L s (Publish o g q v)).table in
      let last = done_leaves L (after then cs) (Publish n h r w) j f in
      let a : i.0 ≡ length s.registry.publications = ap (λ (p : PublicationId). p.0) first.1 in
      let b : j.0 ≡ length (after then cs).registry.publications = ap (λ (p : PublicationId). p.0) last.1 in
      let c = simp length-append at (ap (λ (u : Store). length u.registry.publications) first.0) in
      let d = (run_rises then cs).publications in
      omega arith

  pub lease_once : (s : Store) (p q : PublicationId) (o n : Owner) (g h : ℕ) (cs : List Command) (i j : LeaseId)
      → (step L s (Acquire p o g)).answer ≡ done i
      → (step L (after (step L s (Acquire p o g)).table cs) (Acquire q n h)).answer ≡ done j
      → i.0 < j.0
  lease_once s p q o n g h cs i j e f =
      let first = done_leaves L s (Acquire p o g) i e in
      let then = (step L s (Acquire p o g)).table in
      let last = done_leaves L (after then cs) (Acquire q n h) j f in
      let a : i.0 ≡ s.registry.counter = ap (λ (l : LeaseId). l.0) first.1 in
      let b : j.0 ≡ (after then cs).registry.counter = ap (λ (l : LeaseId). l.0) last.1 in
      let c : then.registry.counter ≡ suc s.registry.counter = ap (λ (u : Store). u.registry.counter) first.0 in
      let d = (run_rises then cs).counter in
      omega arith
