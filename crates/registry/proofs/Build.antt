-- The crate in a build: its functions with their code, and that each function which other crates call or name stands there, with all that it calls.
-- Assumes nothing.
use mathlib.Core.Bool.{true}
use prog.Linked.{World, Tree, Holds, in_world}
use prog.LinkedThreads.{HasT}
use prog.Wired.{Code}
use Rattle.registry.proofs.TheLink as link
use Rattle.registry.proofs.PublicationRegistry.new.Symbol as PublicationRegistry-new
use Rattle.registry.proofs.PublicationRegistry.default.Symbol as PublicationRegistry-default
use Rattle.registry.proofs.PublicationRegistry.for_domain.Symbol as PublicationRegistry-for_domain
use Rattle.registry.proofs.PublicationRegistry.domain.Symbol as PublicationRegistry-domain
use Rattle.registry.proofs.PublicationRegistry.publication_records.Symbol as PublicationRegistry-publication_records
use Rattle.registry.proofs.PublicationRegistry.lease_record_count.Symbol as PublicationRegistry-lease_record_count
use Rattle.registry.proofs.PublicationRegistry.lease_allocation_count.Symbol as PublicationRegistry-lease_allocation_count
use Rattle.registry.proofs.PublicationRegistry.entry.Symbol as PublicationRegistry-entry
use Rattle.registry.proofs.PublicationRegistry.lease.Symbol as PublicationRegistry-lease
use Rattle.registry.proofs.PublicationRegistry.resolve.Symbol as PublicationRegistry-resolve
use Rattle.registry.proofs.PublicationRegistry.publish.Symbol as PublicationRegistry-publish
use Rattle.registry.proofs.PublicationRegistry.can_adopt.Symbol as PublicationRegistry-can_adopt
use Rattle.registry.proofs.PublicationRegistry.adopt.Symbol as PublicationRegistry-adopt
use Rattle.registry.proofs.PublicationRegistry.check_lease_capacity.Symbol as PublicationRegistry-check_lease_capacity
use Rattle.registry.proofs.PublicationRegistry.acquire.Symbol as PublicationRegistry-acquire
use Rattle.registry.proofs.PublicationRegistry.acquire_for.Symbol as PublicationRegistry-acquire_for
use Rattle.registry.proofs.PublicationRegistry.leased_slot.Symbol as PublicationRegistry-leased_slot
use Rattle.registry.proofs.PublicationRegistry.release.Symbol as PublicationRegistry-release
use Rattle.registry.proofs.PublicationRegistry.revoke.Symbol as PublicationRegistry-revoke
use Rattle.registry.proofs.PublicationRegistry.reclaim.Symbol as PublicationRegistry-reclaim
use Rattle.registry.proofs.inner.empty.Symbol as inner-empty
use Rattle.registry.proofs.inner.refused.Symbol as inner-refused
use Rattle.registry.proofs.inner.Sound.publications.Symbol as inner-Sound-publications
use Rattle.registry.proofs.inner.Sound.leases.Symbol as inner-Sound-leases
use Rattle.registry.proofs.inner.Sound.resolve.Symbol as inner-Sound-resolve
use Rattle.registry.proofs.inner.Sound.adopt.Symbol as inner-Sound-adopt
use Rattle.registry.proofs.inner.Sound.acquire.Symbol as inner-Sound-acquire
use Rattle.registry.proofs.inner.Sound.release.Symbol as inner-Sound-release
use Rattle.registry.proofs.inner.Sound.revoke.Symbol as inner-Sound-revoke

-- its functions, and what it needs of the crates below

abbrev pub table : Tree
table = link.table

abbrev pub Below : World → Type 0
Below = link.Below

-- in every build in which the crate stands on those below, that code is there
abbrev pub Stands : Code → Type 0
Stands c = (W : World) → Holds W "registry" table → Below W → HasT (in_world W) true c

pub PublicationRegistry-new-stands : Stands PublicationRegistry-new.code
PublicationRegistry-new-stands = link.linked-registry::PublicationRegistry::new

pub PublicationRegistry-default-stands : Stands PublicationRegistry-default.code
PublicationRegistry-default-stands = link.linked-registry::PublicationRegistry::default

pub PublicationRegistry-for_domain-stands : Stands PublicationRegistry-for_domain.code
PublicationRegistry-for_domain-stands = link.linked-registry::PublicationRegistry::for_domain

pub PublicationRegistry-domain-stands : Stands PublicationRegistry-domain.code
PublicationRegistry-domain-stands = link.linked-registry::PublicationRegistry::domain

pub PublicationRegistry-publication_records-stands : Stands PublicationRegistry-publication_records.code
PublicationRegistry-publication_records-stands = link.linked-registry::PublicationRegistry::publication_records

pub PublicationRegistry-lease_record_count-stands : Stands PublicationRegistry-lease_record_count.code
PublicationRegistry-lease_record_count-stands = link.linked-registry::PublicationRegistry::lease_record_count

pub PublicationRegistry-lease_allocation_count-stands : Stands PublicationRegistry-lease_allocation_count.code
PublicationRegistry-lease_allocation_count-stands = link.linked-registry::PublicationRegistry::lease_allocation_count

pub PublicationRegistry-entry-stands : Stands PublicationRegistry-entry.code
PublicationRegistry-entry-stands = link.linked-registry::PublicationRegistry::entry

pub PublicationRegistry-lease-stands : Stands PublicationRegistry-lease.code
PublicationRegistry-lease-stands = link.linked-registry::PublicationRegistry::lease

pub PublicationRegistry-resolve-stands : Stands PublicationRegistry-resolve.code
PublicationRegistry-resolve-stands = link.linked-registry::PublicationRegistry::resolve

pub PublicationRegistry-publish-stands : Stands PublicationRegistry-publish.code
PublicationRegistry-publish-stands = link.linked-registry::PublicationRegistry::publish

pub PublicationRegistry-can_adopt-stands : Stands PublicationRegistry-can_adopt.code
PublicationRegistry-can_adopt-stands = link.linked-registry::PublicationRegistry::can_adopt

pub PublicationRegistry-adopt-stands : Stands PublicationRegistry-adopt.code
PublicationRegistry-adopt-stands = link.linked-registry::PublicationRegistry::adopt

pub PublicationRegistry-check_lease_capacity-stands : Stands PublicationRegistry-check_lease_capacity.code
PublicationRegistry-check_lease_capacity-stands = link.linked-registry::PublicationRegistry::check_lease_capacity

pub PublicationRegistry-acquire-stands : Stands PublicationRegistry-acquire.code
PublicationRegistry-acquire-stands = link.linked-registry::PublicationRegistry::acquire

pub PublicationRegistry-acquire_for-stands : Stands PublicationRegistry-acquire_for.code
PublicationRegistry-acquire_for-stands = link.linked-registry::PublicationRegistry::acquire_for

pub PublicationRegistry-leased_slot-stands : Stands PublicationRegistry-leased_slot.code
PublicationRegistry-leased_slot-stands = link.linked-registry::PublicationRegistry::leased_slot

pub PublicationRegistry-release-stands : Stands PublicationRegistry-release.code
PublicationRegistry-release-stands = link.linked-registry::PublicationRegistry::release

pub PublicationRegistry-revoke-stands : Stands PublicationRegistry-revoke.code
PublicationRegistry-revoke-stands = link.linked-registry::PublicationRegistry::revoke

pub PublicationRegistry-reclaim-stands : Stands PublicationRegistry-reclaim.code
PublicationRegistry-reclaim-stands = link.linked-registry::PublicationRegistry::reclaim

pub inner-empty-stands : Stands inner-empty.code
inner-empty-stands = link.linked-registry::inner::empty

pub inner-refused-stands : Stands inner-refused.code
inner-refused-stands = link.linked-registry::inner::refused

pub inner-Sound-publications-stands : Stands inner-Sound-publications.code
inner-Sound-publications-stands = link.linked-registry::inner::Sound::publications

pub inner-Sound-leases-stands : Stands inner-Sound-leases.code
inner-Sound-leases-stands = link.linked-registry::inner::Sound::leases

pub inner-Sound-resolve-stands : Stands inner-Sound-resolve.code
inner-Sound-resolve-stands = link.linked-registry::inner::Sound::resolve

pub inner-Sound-adopt-stands : Stands inner-Sound-adopt.code
inner-Sound-adopt-stands = link.linked-registry::inner::Sound::adopt

pub inner-Sound-acquire-stands : Stands inner-Sound-acquire.code
inner-Sound-acquire-stands = link.linked-registry::inner::Sound::acquire

pub inner-Sound-release-stands : Stands inner-Sound-release.code
inner-Sound-release-stands = link.linked-registry::inner::Sound::release

pub inner-Sound-revoke-stands : Stands inner-Sound-revoke.code
inner-Sound-revoke-stands = link.linked-registry::inner::Sound::revoke
