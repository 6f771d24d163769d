-- The run and the report: each contract lets one outcome through, the result and every byte of the output.
-- Assumes nothing.
use Prim.Native.Nat.{ℕ}
use mathlib.Core.Path.{sym, ap, ◌∙◌}
use mathlib.Core.List.{List}
use Rattle.trace.proofs as trace
use Rattle.trace.proofs.StopNumbers.{stopped_one, reported_one}
use Rattle.unique.specs.OneOutcome.{OneOutcomeLent}

pub run_one : OneOutcomeLent 2 trace.run.Kinds.ps trace.run.Kinds.r trace.run.Reads.Post
run_one κs a x y v w p q =
    (stopped_one _ x y p.0.0 q.0.0, ap (λ (out : List ℕ). (tt, (tt, (out, tt)))) (p.0.1 ∙ sym q.0.1))

pub report_one : OneOutcomeLent 2 trace.report.Kinds.ps trace.report.Kinds.r trace.report.Reads.Post
report_one κs a x y v w p q =
    (reported_one _ x y p.0.0 q.0.0, ap (λ (out : List ℕ). (tt, (out, tt))) (p.0.1 ∙ sym q.0.1))
