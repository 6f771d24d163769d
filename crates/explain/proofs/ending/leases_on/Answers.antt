-- Each turn counts one record.
use Rattle.std.proofs.Common.{sym, ◌∙◌, inl, inr}
use Rattle.store.proofs.Counting.{count_on}
use Rattle.explain.proofs.ending.leases_on.Goals as goal
use Rattle.explain.proofs.ending.leases_on.Goals.{then-names_publication, else-names_publication}

pub loop-lease-preserved : goal.loop-lease-preserved
loop-lease-preserved c =
    let e = sym c.names_publication.ensures in
    count_on c.loop-lease.invariant _ c.loop-lease-test.true
    (elim c.if-names_publication.branch [
      | then-names_publication w ↦ inl (e ∙ w.if-names_publication.true, w.n-is)
      | else-names_publication w ↦ inr (e ∙ w.if-names_publication.false, w.n-is)
    ])
