-- The readers of text and of blocks: each contract lets one outcome through.
-- Assumes nothing.
use mathlib.Core.Path.{sym, ◌∙◌}
use Rattle.text.proofs as text
use Rattle.text.proofs.OpRows.{by_row_fixed}
use Rattle.blocks.proofs as blocks
use Rattle.unique.specs.OneOutcome.{OneOutcome}

pub read_value_one : OneOutcome 1 text.read_value.Kinds.ps text.read_value.Kinds.r text.read_value.Reads.Post
read_value_one κs a x y s p q = p ∙ sym q

pub word_at_one : OneOutcome 2 text.word_at.Kinds.ps text.word_at.Kinds.r text.word_at.Reads.Post
word_at_one κs a x y s p q = p ∙ sym q

pub op_at_one : OneOutcome 1 text.op_at.Kinds.ps text.op_at.Kinds.r text.op_at.Reads.Post
op_at_one κs a x y s p q = by_row_fixed x y (p ∙ sym q)

pub key_line_at_one : OneOutcome 1 text.key_line_at.Kinds.ps text.key_line_at.Kinds.r text.key_line_at.Reads.Post
key_line_at_one κs a x y s p q = p ∙ sym q

pub key_code_one : OneOutcome 0 text.key_code.Kinds.ps text.key_code.Kinds.r text.key_code.Reads.Post
key_code_one κs a x y s p q = p ∙ sym q

pub block_at_one : OneOutcome 1 blocks.block_at.Kinds.ps blocks.block_at.Kinds.r blocks.block_at.Reads.Post
block_at_one κs a x y s p q = p ∙ sym q
