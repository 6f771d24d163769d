-- What the loop of `put` keeps: the first bytes of the word stand at the start of the output.
use Rattle.std.proofs.Common.{◌≡◌, length, take}
use Rattle.writing.specs.Written.{over}
use Rattle.writing.proofs.inner.put.Given as goal

abbrev pub invariant-loop-j : goal.invariant-loop-j
invariant-loop-j l = (l.out ≡ over (take l.j l.w) l.initial.out) × (length l.out ≡ length l.initial.out)
