-- `report` meets its contract: an output that is too short is left, a trace that is too long is told, and any other is run and told.
-- Assumes nothing.
use mathlib.Core.Path.{sym}
use native.Mathlib.Omega.{arith}
use lib.Seq.{length-take-le}
use Rattle.trace.specs.Report.{report_room}
use Rattle.trace.proofs.Reports.{refuses, tells_long, line_has_room, tells_run}
use Rattle.trace.proofs.report.Goals as goal

pub returns-then-out-lt65600 : goal.returns-then-out-lt65600
returns-then-out-lt65600 c =
    let p = refuses c.args.trace.now c.args.out.now (omega arith) in record { tells = p.0; counts = p.1 }

pub returns-then-trace-gt65536 : goal.returns-then-trace-gt65536
returns-then-trace-gt65536 c =
    let p = tells_long c.args.trace.now c.args.out.now (omega arith) (omega arith) c.from.result c.from.ensures c.put_stop_line.result c.put_stop_line.new.out c.put_stop_line.ensures in record { tells = p.0; counts = p.1 }

pub slice_bounds-run-end-2 : goal.slice_bounds-run-end-2
slice_bounds-run-end-2 c =
    sym (length-take-le report_room c.args.out.now (omega arith))

pub put_stop_line_at-requires : goal.put_stop_line_at-requires
put_stop_line_at-requires c =
    line_has_room c.args.trace.now c.args.out.now c.if-out-lt65600.false c.empty.result.store c.empty.ensures c.run-r.result c.run-r.new.out c.run-r.ensures

pub returns : goal.returns
returns c =
    let p = tells_run c.args.trace.now c.args.out.now c.if-out-lt65600.false c.empty.result.store c.empty.ensures c.run-r.result c.run-r.new.out c.run-r.ensures c.if-trace-gt65536.false c.from-2.result c.from-2.ensures c.put_stop_line_at.result c.put_stop_line_at.new.out c.put_stop_line_at.ensures in record { tells = p.0; counts = p.1 }
