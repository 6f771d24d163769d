-- The calls for C: each contract lets one outcome through, the number answered, every byte of the output, and the counts.
-- Assumes nothing.
use Prim.Native.Nat.{ℕ}
use mathlib.Core.Path.{sym, ap, ◌∙◌}
use mathlib.Core.List.{List}
use Rattle.embed.proofs as embed
use Rattle.unique.specs.OneOutcome.{OneOutcomeLent}

pub lease_broker_run_one : OneOutcomeLent 3 embed.lease_broker_run.Kinds.ps embed.lease_broker_run.Kinds.r embed.lease_broker_run.Reads.Post
lease_broker_run_one κs a x y v w p q =
    (p.0 ∙ sym q.0, λ i. (tt, ((p.1 ∙ sym q.1) i, ((p.2 ∙ sym q.2) i, tt))))

pub lease_broker_report_one : OneOutcomeLent 3 embed.lease_broker_report.Kinds.ps embed.lease_broker_report.Kinds.r embed.lease_broker_report.Reads.Post
lease_broker_report_one κs a x y v w p q =
    (p.0 ∙ sym q.0, λ i. (tt, ((p.1 ∙ sym q.1) i, ((p.2 ∙ sym q.2) i, tt))))

pub lease_broker_name_one : OneOutcomeLent 1 embed.lease_broker_name.Kinds.ps embed.lease_broker_name.Kinds.r embed.lease_broker_name.Reads.Post
lease_broker_name_one κs a x y v w p q = (p.0 ∙ sym q.0, ap (λ (out : List ℕ). (tt, (out, tt))) (p.1 ∙ sym q.1))
