-- `close_up` meets its contract: what is left to remove moves up with the place, and the last place becomes blank.
-- Assumes nothing.
use Prim.Native.Nat.{◌-◌}
use mathlib.Core.Path.{◌≡◌, ◌∙◌}
use native.Mathlib.Omega.{arith}
use borrow.Author.Rules.{rules}
use lib.ListN.{length, take}
use Rattle.lists.proofs.Column.{length-used}
use Rattle.lists.proofs.Removal.{shift, closed}
use Rattle.rules.specs.Table.{blank_lease}
use Rattle.columns.proofs.inner.close_up.Goals as goal

pub loop-i-preserved : goal.loop-i-preserved
loop-i-preserved c =
    (omega arith, omega arith, search rules, shift _ _ _ (omega arith) ∙ c.loop-i.invariant.3)

pub returns : goal.returns
returns c =
    let e : c.loop-i.i ≡ c.args.n - 1 = omega arith in
    let k : length (take c.args.n c.args.leases) ≡ c.args.n = length-used 128 blank_lease c.args.n c.args.leases c.requires.2 c.requires.1 in
    rw c.blank_lease.ensures
    (closed 128 blank_lease (take c.args.n c.args.leases) c.loop-i.leases c.args.at (c.args.n - 1) (omega arith) (omega arith) (omega arith) (omega arith) (rw (c.requires.2, ← e) c.loop-i.invariant.3))
