-- `lease_broker_name` meets its contract: a name where there is room for any, and nothing where there is not.
-- Assumes nothing.
use mathlib.Core.Path.{refl}
use native.Mathlib.Omega.{arith}
use lib.ListN.{length}
use Rattle.embed.proofs.Handed.{name_fits, name_kept_out}
use Rattle.embed.proofs.lease_broker_name.Goals as goal

pub returns-then-out-lt12 : goal.returns-then-out-lt12
returns-then-out-lt12 c =
    rw (name_kept_out (length c.args.out.now) c.args.number (omega arith)) (refl, refl)

pub returns : goal.returns
returns c =
    rw (name_fits (length c.args.out.now) c.args.number (omega arith)) c.put_name.ensures
