-- The tests of soundness, and the decisions on one record: each contract lets one outcome through.
-- Assumes nothing.
use Prim.Native.Nat.{ℕ}
use mathlib.Core.Path.{sym, ◌∙◌}
use mathlib.Core.List.{List}
use lib.ListN.{replicate, length-replicate}
use Rattle.rules.specs.Table.{blank_lease}
use Rattle.rules.specs.declared.Lease.{Lease}
use Rattle.columns.proofs as columns
use Rattle.columns.proofs.records as records
use Rattle.unique.specs.OneOutcome.{OneOutcome}

-- n blank leases
abbrev blanks : ℕ → List Lease
blanks n = replicate n blank_lease

pub is_sound_one : OneOutcome 0 columns.is_sound.Kinds.ps columns.is_sound.Kinds.r columns.is_sound.Reads.Post
is_sound_one κs a x y s p q = p ∙ sym q

pub is_store_sound_one : OneOutcome 0 columns.is_store_sound.Kinds.ps columns.is_store_sound.Kinds.r columns.is_store_sound.Reads.Post
is_store_sound_one κs a x y s p q = p ∙ sym q

pub holds_port_one : OneOutcome 0 records.holds_port.Kinds.ps records.holds_port.Kinds.r records.holds_port.Reads.Post
holds_port_one κs a x y s p q = p ∙ sym q

pub holds_slot_one : OneOutcome 0 records.holds_slot.Kinds.ps records.holds_slot.Kinds.r records.holds_slot.Reads.Post
holds_slot_one κs a x y s p q = p ∙ sym q

pub is_owned_by_one : OneOutcome 0 records.is_owned_by.Kinds.ps records.is_owned_by.Kinds.r records.is_owned_by.Reads.Post
is_owned_by_one κs a x y s p q = p ∙ sym q

pub may_adopt_one : OneOutcome 0 records.may_adopt.Kinds.ps records.may_adopt.Kinds.r records.may_adopt.Reads.Post
may_adopt_one κs a x y s p q = p ∙ sym q

pub adopt_verdict_one : OneOutcome 0 records.adopt_verdict.Kinds.ps records.adopt_verdict.Kinds.r records.adopt_verdict.Reads.Post
adopt_verdict_one κs a x y s p q = p ∙ sym q

-- its contract speaks of any list of that many leases: there is one
pub acquire_verdict_one : OneOutcome 0 records.acquire_verdict.Kinds.ps records.acquire_verdict.Kinds.r records.acquire_verdict.Reads.Post
acquire_verdict_one κs a x y s p q =
    let l = length-replicate a.1.0 blank_lease in
    p (blanks a.1.0) l ∙ sym (q (blanks a.1.0) l)

pub reclaim_verdict_one : OneOutcome 0 records.reclaim_verdict.Kinds.ps records.reclaim_verdict.Kinds.r records.reclaim_verdict.Reads.Post
reclaim_verdict_one κs a x y s p q = p ∙ sym q

pub replace_verdict_one : OneOutcome 0 records.replace_verdict.Kinds.ps records.replace_verdict.Kinds.r records.replace_verdict.Reads.Post
replace_verdict_one κs a x y s p q = p ∙ sym q

pub has_id_one : OneOutcome 0 records.has_id.Kinds.ps records.has_id.Kinds.r records.has_id.Reads.Post
has_id_one κs a x y s p q = p ∙ sym q

pub names_publication_one : OneOutcome 0 records.names_publication.Kinds.ps records.names_publication.Kinds.r records.names_publication.Reads.Post
names_publication_one κs a x y s p q = p ∙ sym q

pub blank_publication_one : OneOutcome 0 records.blank_publication.Kinds.ps records.blank_publication.Kinds.r records.blank_publication.Reads.Post
blank_publication_one κs a x y s p q = p ∙ sym q

pub blank_lease_one : OneOutcome 0 records.blank_lease.Kinds.ps records.blank_lease.Kinds.r records.blank_lease.Reads.Post
blank_lease_one κs a x y s p q = p ∙ sym q

pub is_kept_one : OneOutcome 0 records.is_kept.Kinds.ps records.is_kept.Kinds.r records.is_kept.Reads.Post
is_kept_one κs a x y s p q = p ∙ sym q

pub mark_of_one : OneOutcome 0 records.mark_of.Kinds.ps records.mark_of.Kinds.r records.mark_of.Reads.Post
mark_of_one κs a x y s p q = p ∙ sym q

pub is_both_one : OneOutcome 0 records.is_both.Kinds.ps records.is_both.Kinds.r records.is_both.Reads.Post
is_both_one κs a x y s p q = p ∙ sym q

pub is_either_one : OneOutcome 0 records.is_either.Kinds.ps records.is_either.Kinds.r records.is_either.Reads.Post
is_either_one κs a x y s p q = p ∙ sym q

pub is_in_order_one : OneOutcome 0 records.is_in_order.Kinds.ps records.is_in_order.Kinds.r records.is_in_order.Reads.Post
is_in_order_one κs a x y s p q = p ∙ sym q

pub is_nobody_one : OneOutcome 0 records.is_nobody.Kinds.ps records.is_nobody.Kinds.r records.is_nobody.Reads.Post
is_nobody_one κs a x y s p q = p ∙ sym q

pub is_blank_record_one : OneOutcome 0 records.is_blank_record.Kinds.ps records.is_blank_record.Kinds.r records.is_blank_record.Reads.Post
is_blank_record_one κs a x y s p q = p ∙ sym q

pub is_blank_lease_one : OneOutcome 0 records.is_blank_lease.Kinds.ps records.is_blank_lease.Kinds.r records.is_blank_lease.Reads.Post
is_blank_lease_one κs a x y s p q = p ∙ sym q

pub is_own_cell_one : OneOutcome 0 records.is_own_cell.Kinds.ps records.is_own_cell.Kinds.r records.is_own_cell.Reads.Post
is_own_cell_one κs a x y s p q = p ∙ sym q

pub is_blank_cell_one : OneOutcome 0 records.is_blank_cell.Kinds.ps records.is_blank_cell.Kinds.r records.is_blank_cell.Reads.Post
is_blank_cell_one κs a x y s p q = p ∙ sym q
