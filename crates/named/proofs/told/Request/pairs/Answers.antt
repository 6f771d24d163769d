-- `Request::pairs` takes the keys of the op's row.
use mathlib.Core.Path.{refl}
use Rattle.named.proofs.KeyRows.{codes_of_op}
use Rattle.named.proofs.told.Request.pairs.Goals as goal

pub returns : goal.returns
returns c =
    (rw (c.key_code.ensures, c.key_code-2.ensures, c.key_code-3.ensures, c.key_code-4.ensures, c.key_code-5.ensures) (codes_of_op c.args.self.op), refl, refl, refl)
