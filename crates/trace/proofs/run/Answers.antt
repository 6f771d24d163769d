-- `run` meets its contract: the inner run on a sound store, 9 on any other.
-- Assumes nothing.
use Rattle.std.specs.Prelude.{is_some}
use mathlib.Core.Path.{ap}
use lib.ListN.{length}
use borrow.Author.Rules.{rules}
use Rattle.trace.proofs.Running.{told_when, told_unless}
use Rattle.trace.proofs.run.Goals as goal

pub returns-in_default : goal.returns-in_default
returns-in_default c =
    let p = told_unless (length c.args.out.now) c.args.trace.now c.args.out.now c.args.store c.tested.ensures.test (search rules) (ap is_some c.in_default.is) in record { comes_to = p.0; counts = p.1 }

pub returns : goal.returns
returns c =
    let e = rw c.in-Some.is at c.tested.ensures.same in
    let p = told_when (length c.args.out.now) c.args.trace.now c.args.out.now c.args.store c.tested.ensures.test (search rules) (ap is_some c.in-Some.is) c.run.result c.run.new.out (rw e at c.run.ensures) in record { comes_to = p.0; counts = p.1 }
