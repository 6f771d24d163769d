-- The visible table: each port to the handle of the one visible publication on it. Lookup reads that map.
-- Assumes nothing.
use Rattle.std.specs.Prelude.{ℕ, cond, eqb}
use Rattle.std.proofs.Math.Option.{Option, none, some}
use Rattle.rules.specs.Table.{Store, publication_of, payload_of}
use Rattle.rules.specs.Conditions.{port_held, resolved}
use Rattle.rules.specs.declared.Port.{Port}
use Rattle.rules.specs.declared.Command.{Command}
use Rattle.rules.specs.declared.Command.TheVariants.{Publish, Adopt, Acquire, Release, Revoke, Replace, Reclaim, Read, Observe, Resolve, Count}

abbrev pub visible_table : Store → Port → Option ℕ
visible_table s q = cond (port_held s.registry q) (some (payload_of s (resolved s.registry q))) none

abbrev pub lookup : Store → Port → Option ℕ
lookup s q = visible_table s q

-- a map with another value at one port, or with none
abbrev pub put : (Port → Option ℕ) → Port → Option ℕ → Port → Option ℕ
put m q v r = cond (eqb q.0 r.0) v (m r)

abbrev pub removed : (Port → Option ℕ) → Port → Port → Option ℕ
removed m q = put m q none

-- what each command makes of the visible table when it is carried out: publish and replace put, revoke removes what was visible, the
-- others keep it
abbrev pub shown_after : Store → Command → Port → Option ℕ
shown_after s (Publish o g q v) = put (visible_table s) q (some v)
shown_after s (Adopt p o g) = visible_table s
shown_after s (Acquire p o g) = visible_table s
shown_after s (Release i) = visible_table s
shown_after s (Revoke p) = cond (publication_of s p).visible (removed (visible_table s) (publication_of s p).port) (visible_table s)
shown_after s (Replace p o g v) = put (visible_table s) (publication_of s p).port (some v)
shown_after s (Reclaim p) = visible_table s
shown_after s (Read i) = visible_table s
shown_after s (Observe p) = visible_table s
shown_after s (Resolve q) = visible_table s
shown_after s Count = visible_table s
