-- `command_of` meets its contract: a port's value fits.
-- Assumes nothing.
use mathlib.Core.Path.{refl, ap}
use native.Mathlib.Omega.{arith}
use Rattle.text.specs.Ops.{row_of_op}
use Rattle.blocks.proofs.CommandTurns.{port_fits}
use Rattle.blocks.proofs.command_of.Goals as goal

pub overflow_cast-result : goal.overflow_cast-result
overflow_cast-result c =
    let p = port_fits _ 0 _ 2 (ap row_of_op c.in-Publish.is) c.requires (omega arith) refl in omega arith

pub overflow_cast-result-in-Resolve : goal.overflow_cast-result-in-Resolve
overflow_cast-result-in-Resolve c =
    let p = port_fits _ 9 _ 0 (ap row_of_op c.in-Resolve.is) c.requires (omega arith) refl in omega arith
