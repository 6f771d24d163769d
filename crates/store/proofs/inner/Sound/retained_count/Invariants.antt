-- What the loop of `retained_count` keeps.
use Rattle.store.proofs.Counting.{Counting}
use Rattle.store.proofs.inner.Sound.retained_count.Given as goal

abbrev pub invariant-loop-e : goal.invariant-loop-e
invariant-loop-e l =
    Counting (λ e. e.retained) l.e-items l.e-index l.n
