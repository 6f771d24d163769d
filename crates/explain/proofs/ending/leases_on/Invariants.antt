-- What the loop of `leases_on` keeps: so many of the leases before this turn's name the publication.
use Rattle.rules.specs.Conditions.{names}
use Rattle.store.proofs.Counting.{Counting}
use Rattle.explain.proofs.ending.leases_on.Given as goal

abbrev pub invariant-loop-lease : goal.invariant-loop-lease
invariant-loop-lease l = Counting (names l.id) l.leases l.lease-index l.n
