-- What each loop of `is_store_sound` keeps.
use Prim.Native.Nat.{ℕ, ◌≤◌, ◌<◌}
use Rattle.columns.proofs.StoreFindings.{Own, BlankCell}
use Rattle.columns.proofs.is_store_sound.Given as goal

abbrev pub invariant-loop-i : goal.invariant-loop-i
invariant-loop-i l = (l.count ≤ 96) × ((j : ℕ) → j < l.i → Own l.publications l.payloads j)

abbrev pub invariant-loop-b : goal.invariant-loop-b
invariant-loop-b l = (j : ℕ) → l.count ≤ j → j < l.b → BlankCell l.payloads l.revisions j
