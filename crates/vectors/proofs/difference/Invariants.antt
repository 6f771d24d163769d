-- What the loop of `difference` keeps: the bytes before this turn's are the same in both.
use Rattle.std.proofs.Common.{◌≡◌, take}
use Rattle.vectors.proofs.difference.Given as goal

abbrev pub invariant-loop-i : goal.invariant-loop-i
invariant-loop-i l = take l.i l.a ≡ take l.i l.b
