-- The third demand at an example: its premises can be met, and both its sides are reached.
-- Assumes nothing.
use Rattle.std.specs.Prelude.{None}
use mathlib.Core.Path.{◌≡◌, refl}
use mathlib.Core.List.{List, [], ◌∷◌, ◌++◌}
use Rattle.rules.specs.Limits.{box}
use Rattle.rules.specs.Answers.{refused, done}
use Rattle.rules.specs.Table.{empty_store}
use Rattle.rules.specs.Rows.{step}
use Rattle.rules.specs.Probes.{publish, acquire, release, revoke, replace, reclaim}
use Rattle.rules.specs.Broker.{Broker, run, told}
use Rattle.rules.specs.Demand2.{by_the_rows}
use Rattle.rules.specs.Demand3.{Revoking, asked}
use Rattle.rules.specs.declared.Refusal.TheVariants.{Relied}
use Rattle.rules.specs.declared.Command.{Command}
use Rattle.rules.proofs.Past.{third}
use Rattle.rules.proofs.Refuted.{zeroth, some_handle, some_lease}

abbrev ours : Broker
ours = by_the_rows box (empty_store None)

-- two leases of publication 0 are out, one of publication 1, and 0 has a second handle
abbrev earlier : List Command
earlier = publish 4 0 7 900 ∷ acquire 0 5 1 ∷ publish 4 0 8 800 ∷ acquire 0 6 1 ∷ acquire 1 6 1 ∷ replace 0 4 0 901 ∷ []

is_revoked : Revoking [] ours earlier zeroth
unfolding run told step
is_revoked = record { stands = some_handle; carried_out = refl }

-- one of the two is released, and a lease that is refused stands between
pub one_left : asked [] ours (earlier ++ revoke 0 ∷ release 1 ∷ acquire 0 5 1 ∷ []) (reclaim 0) ≡ refused Relied tt
unfolding run told step
one_left = (third box None).relied earlier (release 1 ∷ acquire 0 5 1 ∷ []) zeroth is_revoked some_lease

-- both are released, after a reclaim that came too early, and a replace that is refused stands between
pub comes_back : asked [] ours (earlier ++ revoke 0 ∷ release 1 ∷ reclaim 0 ∷ release 0 ∷ replace 0 4 0 77 ∷ []) (reclaim 0) ≡ done 901
unfolding run told step
comes_back = (third box None).returned earlier (release 1 ∷ reclaim 0 ∷ release 0 ∷ replace 0 4 0 77 ∷ []) zeroth 901 is_revoked refl refl
