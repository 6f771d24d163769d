-- The value cell's public calls: each contract lets one outcome through.
-- Assumes nothing.
use mathlib.Core.Path.{sym, ◌∙◌}
use Rattle.unique.specs.OneOutcome.{OneOutcome}
use Rattle.store.proofs.ValueCell.new.Kinds as new-kinds
use Rattle.store.proofs.ValueCell.new.Reads as new
use Rattle.store.proofs.ValueCell.get.Kinds as get-kinds
use Rattle.store.proofs.ValueCell.get.Reads as get
use Rattle.store.proofs.ValueCell.replace.Kinds as replace-kinds
use Rattle.store.proofs.ValueCell.replace.Reads as replace

pub new_one : OneOutcome 0 new-kinds.ps new-kinds.r new.Post
new_one κs a x y s p q = p ∙ sym q

pub get_one : OneOutcome 0 get-kinds.ps get-kinds.r get.Post
get_one κs a x y s p q = p ∙ sym q

pub replace_one : OneOutcome 0 replace-kinds.ps replace-kinds.r replace.Post
replace_one κs a x y s p q = p ∙ sym q
