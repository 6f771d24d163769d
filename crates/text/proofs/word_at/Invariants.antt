-- What the loop of `word_at` keeps.
use Rattle.text.proofs.WordTurns.{Compared}
use Rattle.text.proofs.word_at.Given as goal

abbrev pub invariant-loop-j : goal.invariant-loop-j
invariant-loop-j l = Compared l.w l.s l.at l.j
