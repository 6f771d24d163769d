-- What each loop of `is_sound` keeps.
use Prim.Native.Nat.{ℕ, ◌<◌}
use mathlib.Core.Path.{◌≡◌}
use mathlib.Core.Bool.{true}
use lib.ListN.{get_or}
use Rattle.rules.specs.Limits.{box}
use Rattle.rules.specs.Table.{blank_publication, blank_lease}
use Rattle.rules.specs.SoundTest.{is_blank, is_blank_lease}
use Rattle.columns.specs.Columns.{columns_of}
use Rattle.columns.proofs.Walk.{Walk}
use Rattle.columns.proofs.Rise.{Rise}
use Rattle.columns.proofs.is_sound.Given as goal

abbrev pub invariant-loop-i : goal.invariant-loop-i
invariant-loop-i l = Walk l.publications l.count l.ports l.slots l.i

abbrev pub invariant-loop-l : goal.invariant-loop-l
invariant-loop-l l = Rise box (columns_of l.publications l.count l.fn.leases l.active l.counter) l.least l.l-index

abbrev pub invariant-loop-e : goal.invariant-loop-e
invariant-loop-e l = (j : ℕ) → j < l.e-index → is_blank (get_or l.e-items j blank_publication) ≡ true

abbrev pub invariant-loop-l-2 : goal.invariant-loop-l-2
invariant-loop-l-2 l = (j : ℕ) → j < l.l-index → is_blank_lease (get_or l.l-items j blank_lease) ≡ true
