-- `InWords::fmt` writes the op, filled up, and the pairs of its row.
use mathlib.Core.Path.{◌∙◌}
use Rattle.std.proofs.Output.{has_written_of_eq}
use Rattle.named.proofs.Filling.{told-words}
use Rattle.named.proofs.told.InWordsDisplay.fmt.Goals as goal

pub returns-clause-writes : goal.returns-clause-writes
returns-clause-writes g c p ok =
    has_written_of_eq _ _ _ _ _ (rw (c.laid_out.ensures, c.pairs.ensures.2, c.pairs.ensures.3) (told-words _ _ _ _ _ c.asked-request.result.op _ _ c.word.ensures.word c.pairs.ensures.0 (c.pairs.ensures.1 ∙ c.asked-request.ensures.1) c.asked-request.ensures.0)) (c.write.ensures.writes p ok)
