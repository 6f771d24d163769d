-- `put_response` meets its contract: the answers of more than one value, line by line.
-- Assumes nothing.
use mathlib.Core.List.{[], ◌∷◌}
use native.Mathlib.Omega.{arith}
use Rattle.text.specs.Keys.{answer, id, revision, payload}
use Rattle.blocks.specs.Answers.{◌is◌}
use Rattle.blocks.proofs.Answers.{id_most, revision_most, payload_most}
use Rattle.blocks.proofs.AnswerTurns.{next_line, value_length, answered}
use Rattle.blocks.proofs.inner.put_response.Goals as goal

pub put_line_at-b-requires : goal.put_line_at-b-requires
put_line_at-b-requires c =
    omega (arith, c.requires, c.put_value-a.auto.out, c.put_value-a.ensures.0, value_length id c.in-Read.x.id.0, id_most c.in-Read.x.id.0, revision_most c.in-Read.x.revision)

pub put_line_at-requires : goal.put_line_at-requires
put_line_at-requires c =
    omega (arith, c.requires, c.put_value-a.auto.out, c.put_line_at-b.auto.out, c.put_value-a.ensures.0, c.put_line_at-b.ensures.0, value_length id c.in-Read.x.id.0, id_most c.in-Read.x.id.0, revision_most c.in-Read.x.revision, payload_most c.in-Read.x.handle)

pub put_line_at-requires-in-Observed : goal.put_line_at-requires-in-Observed
put_line_at-requires-in-Observed c =
    omega (arith, c.requires, c.put_value-a-in-Observed.auto.out, c.put_value-a-in-Observed.ensures.0, value_length revision c.in-Observed.x.revision, revision_most c.in-Observed.x.revision, payload_most c.in-Observed.x.handle)

pub returns-in-Read : goal.returns-in-Read
returns-in-Read c =
    answered _ _ c.in-Read.is _ _ _
    (next_line ((answer is 0) ∷ (id is c.in-Read.x.id.0) ∷ (revision is c.in-Read.x.revision) ∷ []) payload c.in-Read.x.handle c.put_line_at-b.result c.put_line_at.result c.args.out.now c.put_line_at-b.new.out c.put_line_at.new.out
    (next_line ((answer is 0) ∷ (id is c.in-Read.x.id.0) ∷ []) revision c.in-Read.x.revision c.put_value-a.result c.put_line_at-b.result c.args.out.now c.put_value-a.new.out c.put_line_at-b.new.out c.put_value-a.ensures c.put_line_at-b.ensures) c.put_line_at.ensures)
