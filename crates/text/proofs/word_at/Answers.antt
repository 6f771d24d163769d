-- `word_at` meets its contract: at each turn the rest of the word and of the input decide.
-- Assumes nothing.
use native.Mathlib.Omega.{arith}
use Rattle.text.proofs.WordTurns.{compare_starts, compare_is, compare_ends, compare_stops, compare_goes_on}
use Rattle.text.proofs.word_at.Goals as goal

pub loop-j-init : goal.loop-j-init
loop-j-init c =
    compare_starts _ _ _

pub overflow_add-at : goal.overflow_add-at
overflow_add-at c =
    omega arith

pub returns-then-s-at : goal.returns-then-s-at
returns-then-s-at c =
    compare_ends c.loop-j.invariant (omega arith) (omega arith)

pub returns-then-s-at-2 : goal.returns-then-s-at-2
returns-then-s-at-2 c =
    compare_stops c.loop-j.invariant (omega arith) (omega arith) (λ z. omega arith)

pub loop-j-preserved : goal.loop-j-preserved
loop-j-preserved c =
    compare_goes_on c.loop-j.invariant (omega arith) (omega arith) (omega arith)

pub returns : goal.returns
returns c =
    compare_is c.loop-j.invariant (omega arith)
