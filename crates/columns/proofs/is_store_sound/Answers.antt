-- `is_store_sound` meets its contract: each finding refutes a clause, and a walk without one shows all of them.
-- Assumes nothing.
use mathlib.Core.Path.{sym, ◌∙◌}
use borrow.Author.Count.{below_none}
use borrow.Author.Rules.{rules}
use Rattle.lists.proofs.Scan.{length-of_map}
use Rattle.columns.proofs.StoreFindings.{Own, damaged_registry, room_of, not_own, not_blank_cell, store_right}
use Rattle.columns.proofs.is_store_sound.Goals as goal

pub returns-then-not-is_sound : goal.returns-then-not-is_sound
returns-then-not-is_sound c =
    damaged_registry _ _ (sym c.is_sound.ensures ∙ c.if-not-is_sound.true)

pub loop-i-init : goal.loop-i-init
loop-i-init c =
    (room_of _ _ (sym c.is_sound.ensures ∙ c.if-not-is_sound.false), below_none (Own c.args.publications c.args.payloads))

pub returns-then-not-is_own_cell : goal.returns-then-not-is_own_cell
returns-then-not-is_own_cell c =
    not_own _ _ _ c.loop-i-test.true (sym c.is_own_cell.ensures ∙ c.if-not-is_own_cell.true)

pub returns-then-not-is_blank_cell : goal.returns-then-not-is_blank_cell
returns-then-not-is_blank_cell c =
    not_blank_cell _ _ _ c.loop-b.auto.b c.loop-b-test.true (sym c.is_blank_cell.ensures ∙ c.if-not-is_blank_cell.true)

pub returns : goal.returns
returns c =
    store_right _ _ (sym c.is_sound.ensures ∙ c.if-not-is_sound.false) (search (rules, length-of_map)) (search (rules, length-of_map)) c.loop-i.invariant.1 c.loop-i-test.false c.loop-b.invariant c.loop-b-test.false
