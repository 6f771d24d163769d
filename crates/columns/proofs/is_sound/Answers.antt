-- `is_sound` meets its contract: each finding refutes a clause, and a walk without one shows all of them.
-- Assumes nothing.
use mathlib.Core.Path.{refl, sym, ◌∙◌}
use mathlib.Core.Bool.{false}
use borrow.Author.Rules.{rules}
use lib.ListN.{get_or}
use Rattle.lists.proofs.Bools.{and_right}
use Rattle.lists.proofs.Marks.{mark_clear}
use Rattle.lists.proofs.Scan.{length-of_map}
use Rattle.rules.specs.Limits.{box}
use Rattle.rules.specs.Table.{blank_publication}
use Rattle.columns.proofs.Searches.{none_before, found_below, found_passes}
use Rattle.columns.proofs.Walk.{walk_on}
use Rattle.columns.proofs.Findings.{too_many, too_many_leases, not_given_out, not_kept, port_twice, slot_twice, disordered, stray, lost, not_blank, not_blank_lease, all_right}
use Rattle.columns.proofs.is_sound.Goals as goal
use Rattle.columns.proofs.is_sound.Goals.{then-is_both+in_default, else-is_both, then-is_both-2+in_default-slot_place, else-is_both-2}

pub returns-then-count-gt96 : goal.returns-then-count-gt96
returns-then-count-gt96 c =
    too_many box _ c.if-count-gt96.true

pub returns-then-active-gt128 : goal.returns-then-active-gt128
returns-then-active-gt128 c =
    too_many_leases box _ c.if-active-gt128.true

pub returns-then-counter-active : goal.returns-then-counter-active
returns-then-counter-active c =
    not_given_out box _ c.if-counter-active.true

pub returns-then-not-is_kept : goal.returns-then-not-is_kept
returns-then-not-is_kept c =
    not_kept box _ _ c.loop-i-test.true (sym c.is_kept.ensures ∙ c.if-not-is_kept.true)

pub returns-in-Some : goal.returns-in-Some
returns-in-Some c =
    port_twice box _ _ c.loop-i-test.true _ (found_below _ blank_publication _ _ c.port_place.ensures c.in-Some.is) (and_right (get_or c.loop-i.ports c.mark_of-at_port.result false) _ (sym c.is_both.ensures ∙ c.if-is_both.true)) (found_passes _ blank_publication c.args.publications c.loop-i.i c.port_place.ensures c.in-Some.is)

pub returns-in-Some-slot_place : goal.returns-in-Some-slot_place
returns-in-Some-slot_place c =
    slot_twice box _ _ c.loop-i-test.true _ (found_below _ blank_publication _ _ c.slot_place.ensures c.in-Some-slot_place.is) (and_right (get_or c.loop-i.slots c.mark_of-at_slot.result false) _ (sym c.is_both-in-loop-i.ensures ∙ c.if-is_both-2.true)) (found_passes _ blank_publication c.args.publications c.loop-i.i c.slot_place.ensures c.in-Some-slot_place.is)

pub loop-i-preserved : goal.loop-i-preserved
loop-i-preserved c =
    walk_on _ c.loop-i.invariant c.loop-i-test.true (sym c.is_kept.ensures ∙ c.if-not-is_kept.false) (elim c.if-is_both.branch [ then-is_both+in_default w ↦ λ v. none_before _ blank_publication _ _ w.port_place.ensures refl w.in_default.is | else-is_both w ↦ mark_clear 1024 _ _ c.loop-i.invariant.port_marks c.mark_of-at_port.ensures (sym c.is_both.ensures ∙ w.if-is_both.false) ]) (elim c.if-is_both-2.branch [ then-is_both-2+in_default-slot_place w ↦ λ v. none_before _ blank_publication _ _ w.slot_place.ensures refl w.in_default-slot_place.is | else-is_both-2 w ↦ mark_clear 1024 _ _ c.loop-i.invariant.slot_marks c.mark_of-at_slot.ensures (sym c.is_both-in-loop-i.ensures ∙ w.if-is_both-2.false) ]) c.mark_of-at_port.ensures c.is_either.ensures c.mark_of-at_slot.ensures c.is_either-in-loop-i.ensures

pub returns-then-not-is_in_order : goal.returns-then-not-is_in_order
returns-then-not-is_in_order c =
    disordered box _ c.loop-l.invariant c.loop-l-test.true (sym c.is_in_order.ensures ∙ c.if-not-is_in_order.true)

pub returns-then-p-ge96 : goal.returns-then-p-ge96
returns-then-p-ge96 c =
    stray box _ c.loop-l.invariant c.loop-l-test.true c.if-p-ge96.true

pub returns-then-not-publications-p : goal.returns-then-not-publications-p
returns-then-not-publications-p c =
    lost box _ c.loop-l.invariant c.loop-l-test.true c.if-not-publications-p.true

pub returns-then-not-is_blank_record : goal.returns-then-not-is_blank_record
returns-then-not-is_blank_record c =
    not_blank box _ _ c.loop-e-test.true (sym c.is_blank_record.ensures ∙ c.if-not-is_blank_record.true)

pub returns-then-not-is_blank_lease : goal.returns-then-not-is_blank_lease
returns-then-not-is_blank_lease c =
    not_blank_lease box _ _ c.loop-l-2-test.true (sym c.is_blank_lease.ensures ∙ c.if-not-is_blank_lease.true)

pub returns : goal.returns
returns c =
    all_right box _ c.if-count-gt96.false c.if-active-gt128.false c.if-counter-active.false (search (rules, length-of_map)) (search (rules, length-of_map)) c.loop-i.invariant c.loop-i-test.false c.loop-l.invariant c.loop-l-test.false c.loop-e.invariant c.loop-e-test.false c.loop-l-2.invariant c.loop-l-2-test.false
