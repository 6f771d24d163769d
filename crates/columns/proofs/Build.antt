-- The crate in a build: its functions with their code, and that each function which other crates call or name stands there, with all that it calls.
-- Assumes nothing.
use mathlib.Core.Bool.{true}
use prog.Linked.{World, Tree, Holds, in_world}
use prog.LinkedThreads.{HasT}
use prog.Wired.{Code}
use Rattle.columns.proofs.TheLink as link
use Rattle.columns.proofs.inner.close_up.Symbol as inner-close_up
use Rattle.columns.proofs.inner.rows.acquire_verdict.Symbol as inner-rows-acquire_verdict
use Rattle.columns.proofs.inner.rows.adopt_verdict.Symbol as inner-rows-adopt_verdict
use Rattle.columns.proofs.inner.rows.capacity_verdict.Symbol as inner-rows-capacity_verdict
use Rattle.columns.proofs.inner.rows.lease_lookup.Symbol as inner-rows-lease_lookup
use Rattle.columns.proofs.inner.rows.reclaim_verdict.Symbol as inner-rows-reclaim_verdict
use Rattle.columns.proofs.inner.rows.revoke_verdict.Symbol as inner-rows-revoke_verdict
use Rattle.columns.proofs.inner.rows.slot_publish_verdict.Symbol as inner-rows-slot_publish_verdict
use Rattle.columns.proofs.inner.search.known.Symbol as inner-search-known
use Rattle.columns.proofs.inner.search.lease_place.Symbol as inner-search-lease_place
use Rattle.columns.proofs.inner.search.port_place.Symbol as inner-search-port_place
use Rattle.columns.proofs.is_sound.Symbol as is_sound
use Rattle.columns.proofs.records.blank_lease.Symbol as records-blank_lease
use Rattle.columns.proofs.records.blank_publication.Symbol as records-blank_publication
use Rattle.columns.proofs.inner.rows.publish_verdict.Symbol as inner-rows-publish_verdict
use Rattle.columns.proofs.is_store_sound.Symbol as is_store_sound
use Rattle.columns.proofs.records.replace_verdict.Symbol as records-replace_verdict
use Rattle.columns.proofs.records.holds_port.Symbol as records-holds_port
use Rattle.columns.proofs.records.holds_slot.Symbol as records-holds_slot
use Rattle.columns.proofs.records.is_owned_by.Symbol as records-is_owned_by
use Rattle.columns.proofs.records.may_adopt.Symbol as records-may_adopt
use Rattle.columns.proofs.records.adopt_verdict.Symbol as records-adopt_verdict
use Rattle.columns.proofs.records.acquire_verdict.Symbol as records-acquire_verdict
use Rattle.columns.proofs.records.reclaim_verdict.Symbol as records-reclaim_verdict
use Rattle.columns.proofs.records.has_id.Symbol as records-has_id
use Rattle.columns.proofs.records.names_publication.Symbol as records-names_publication
use Rattle.columns.proofs.records.is_kept.Symbol as records-is_kept
use Rattle.columns.proofs.records.mark_of.Symbol as records-mark_of
use Rattle.columns.proofs.records.is_in_order.Symbol as records-is_in_order
use Rattle.columns.proofs.records.is_both.Symbol as records-is_both
use Rattle.columns.proofs.records.is_either.Symbol as records-is_either
use Rattle.columns.proofs.records.is_nobody.Symbol as records-is_nobody
use Rattle.columns.proofs.records.is_blank_record.Symbol as records-is_blank_record
use Rattle.columns.proofs.records.is_blank_lease.Symbol as records-is_blank_lease
use Rattle.columns.proofs.records.is_own_cell.Symbol as records-is_own_cell
use Rattle.columns.proofs.records.is_blank_cell.Symbol as records-is_blank_cell

-- its functions, and what it needs of the crates below

abbrev pub table : Tree
table = link.table

abbrev pub Below : World → Type 0
Below = link.Below

-- in every build in which the crate stands on those below, that code is there
abbrev pub Stands : Code → Type 0
Stands c = (W : World) → Holds W "columns" table → Below W → HasT (in_world W) true c

pub inner-close_up-stands : Stands inner-close_up.code
inner-close_up-stands = link.linked-columns::inner::close_up

pub inner-rows-acquire_verdict-stands : Stands inner-rows-acquire_verdict.code
inner-rows-acquire_verdict-stands = link.linked-columns::inner::rows::acquire_verdict

pub inner-rows-adopt_verdict-stands : Stands inner-rows-adopt_verdict.code
inner-rows-adopt_verdict-stands = link.linked-columns::inner::rows::adopt_verdict

pub inner-rows-capacity_verdict-stands : Stands inner-rows-capacity_verdict.code
inner-rows-capacity_verdict-stands = link.linked-columns::inner::rows::capacity_verdict

pub inner-rows-lease_lookup-stands : Stands inner-rows-lease_lookup.code
inner-rows-lease_lookup-stands = link.linked-columns::inner::rows::lease_lookup

pub inner-rows-reclaim_verdict-stands : Stands inner-rows-reclaim_verdict.code
inner-rows-reclaim_verdict-stands = link.linked-columns::inner::rows::reclaim_verdict

pub inner-rows-revoke_verdict-stands : Stands inner-rows-revoke_verdict.code
inner-rows-revoke_verdict-stands = link.linked-columns::inner::rows::revoke_verdict

pub inner-rows-slot_publish_verdict-stands : Stands inner-rows-slot_publish_verdict.code
inner-rows-slot_publish_verdict-stands = link.linked-columns::inner::rows::slot_publish_verdict

pub inner-search-known-stands : Stands inner-search-known.code
inner-search-known-stands = link.linked-columns::inner::search::known

pub inner-search-lease_place-stands : Stands inner-search-lease_place.code
inner-search-lease_place-stands = link.linked-columns::inner::search::lease_place

pub inner-search-port_place-stands : Stands inner-search-port_place.code
inner-search-port_place-stands = link.linked-columns::inner::search::port_place

pub is_sound-stands : Stands is_sound.code
is_sound-stands = link.linked-columns::is_sound

pub records-blank_lease-stands : Stands records-blank_lease.code
records-blank_lease-stands = link.linked-columns::records::blank_lease

pub records-blank_publication-stands : Stands records-blank_publication.code
records-blank_publication-stands = link.linked-columns::records::blank_publication

pub inner-rows-publish_verdict-stands : Stands inner-rows-publish_verdict.code
inner-rows-publish_verdict-stands = link.linked-columns::inner::rows::publish_verdict

pub is_store_sound-stands : Stands is_store_sound.code
is_store_sound-stands = link.linked-columns::is_store_sound

pub records-replace_verdict-stands : Stands records-replace_verdict.code
records-replace_verdict-stands = link.linked-columns::records::replace_verdict

pub records-holds_port-stands : Stands records-holds_port.code
records-holds_port-stands = link.linked-columns::records::holds_port

pub records-holds_slot-stands : Stands records-holds_slot.code
records-holds_slot-stands = link.linked-columns::records::holds_slot

pub records-is_owned_by-stands : Stands records-is_owned_by.code
records-is_owned_by-stands = link.linked-columns::records::is_owned_by

pub records-may_adopt-stands : Stands records-may_adopt.code
records-may_adopt-stands = link.linked-columns::records::may_adopt

pub records-adopt_verdict-stands : Stands records-adopt_verdict.code
records-adopt_verdict-stands = link.linked-columns::records::adopt_verdict

pub records-acquire_verdict-stands : Stands records-acquire_verdict.code
records-acquire_verdict-stands = link.linked-columns::records::acquire_verdict

pub records-reclaim_verdict-stands : Stands records-reclaim_verdict.code
records-reclaim_verdict-stands = link.linked-columns::records::reclaim_verdict

pub records-has_id-stands : Stands records-has_id.code
records-has_id-stands = link.linked-columns::records::has_id

pub records-names_publication-stands : Stands records-names_publication.code
records-names_publication-stands = link.linked-columns::records::names_publication

pub records-is_kept-stands : Stands records-is_kept.code
records-is_kept-stands = link.linked-columns::records::is_kept

pub records-mark_of-stands : Stands records-mark_of.code
records-mark_of-stands = link.linked-columns::records::mark_of

pub records-is_in_order-stands : Stands records-is_in_order.code
records-is_in_order-stands = link.linked-columns::records::is_in_order

pub records-is_blank_record-stands : Stands records-is_blank_record.code
records-is_blank_record-stands = link.linked-columns::records::is_blank_record

pub records-is_blank_lease-stands : Stands records-is_blank_lease.code
records-is_blank_lease-stands = link.linked-columns::records::is_blank_lease

pub records-is_own_cell-stands : Stands records-is_own_cell.code
records-is_own_cell-stands = link.linked-columns::records::is_own_cell

pub records-is_blank_cell-stands : Stands records-is_blank_cell.code
records-is_blank_cell-stands = link.linked-columns::records::is_blank_cell

pub records-is_both-stands : Stands records-is_both.code
records-is_both-stands = link.linked-columns::records::is_both

pub records-is_either-stands : Stands records-is_either.code
records-is_either-stands = link.linked-columns::records::is_either

pub records-is_nobody-stands : Stands records-is_nobody.code
records-is_nobody-stands = link.linked-columns::records::is_nobody
