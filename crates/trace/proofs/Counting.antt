-- A text written at the start of an output counts bytes of it.
-- Assumes nothing.
use Prim.Native.Nat.{ℕ, ◌≤◌}
use mathlib.Core.Path.{◌≡◌, sym, ap, ◌∙◌}
use mathlib.Core.List.{List}
use native.Mathlib.Omega.{arith}
use lib.ListN.{length}
use lib.Seq.{length-take-le}
use Rattle.writing.specs.Written.{over}
use Rattle.writing.proofs.Written.{over_length}
use Rattle.trace.specs.Embedding.{Counts}

pub over_counts : (w out xs : List ℕ) → xs ≡ over w out → length w ≤ length out → Counts (length w) xs
over_counts w out xs e f =
    let l = ap length e ∙ over_length w out f in
    let h : length w ≤ length xs = omega arith in
    (h, sym (length-take-le (length w) xs h))
