-- The registry's public calls: each contract lets one outcome through.
-- Assumes nothing.
use mathlib.Core.Path.{sym, ◌∙◌}
use Rattle.unique.specs.OneOutcome.{OneOutcome}
use Rattle.registry.proofs.PublicationRegistry.new.Kinds as new-kinds
use Rattle.registry.proofs.PublicationRegistry.new.Reads as new
use Rattle.registry.proofs.PublicationRegistry.for_domain.Kinds as for-domain-kinds
use Rattle.registry.proofs.PublicationRegistry.for_domain.Reads as for-domain
use Rattle.registry.proofs.PublicationRegistry.default.Kinds as default-kinds
use Rattle.registry.proofs.PublicationRegistry.default.Reads as default
use Rattle.registry.proofs.PublicationRegistry.domain.Kinds as domain-kinds
use Rattle.registry.proofs.PublicationRegistry.domain.Reads as domain
use Rattle.registry.proofs.PublicationRegistry.publication_records.Kinds as publication-records-kinds
use Rattle.registry.proofs.PublicationRegistry.publication_records.Reads as publication_records
use Rattle.registry.proofs.PublicationRegistry.lease_record_count.Kinds as lease-record-count-kinds
use Rattle.registry.proofs.PublicationRegistry.lease_record_count.Reads as lease_record_count
use Rattle.registry.proofs.PublicationRegistry.lease_allocation_count.Kinds as lease-allocation-count-kinds
use Rattle.registry.proofs.PublicationRegistry.lease_allocation_count.Reads as lease_allocation_count
use Rattle.registry.proofs.PublicationRegistry.entry.Kinds as entry-kinds
use Rattle.registry.proofs.PublicationRegistry.entry.Reads as entry
use Rattle.registry.proofs.PublicationRegistry.lease.Kinds as lease-kinds
use Rattle.registry.proofs.PublicationRegistry.lease.Reads as lease
use Rattle.registry.proofs.PublicationRegistry.resolve.Kinds as resolve-kinds
use Rattle.registry.proofs.PublicationRegistry.resolve.Reads as resolve
use Rattle.registry.proofs.PublicationRegistry.publish.Kinds as publish-kinds
use Rattle.registry.proofs.PublicationRegistry.publish.Reads as publish
use Rattle.registry.proofs.PublicationRegistry.can_adopt.Kinds as can-adopt-kinds
use Rattle.registry.proofs.PublicationRegistry.can_adopt.Reads as can_adopt
use Rattle.registry.proofs.PublicationRegistry.adopt.Kinds as adopt-kinds
use Rattle.registry.proofs.PublicationRegistry.adopt.Reads as adopt
use Rattle.registry.proofs.PublicationRegistry.check_lease_capacity.Kinds as check-lease-capacity-kinds
use Rattle.registry.proofs.PublicationRegistry.check_lease_capacity.Reads as check_lease_capacity
use Rattle.registry.proofs.PublicationRegistry.acquire.Kinds as acquire-kinds
use Rattle.registry.proofs.PublicationRegistry.acquire.Reads as acquire
use Rattle.registry.proofs.PublicationRegistry.acquire_for.Kinds as acquire-for-kinds
use Rattle.registry.proofs.PublicationRegistry.acquire_for.Reads as acquire_for
use Rattle.registry.proofs.PublicationRegistry.leased_slot.Kinds as leased-slot-kinds
use Rattle.registry.proofs.PublicationRegistry.leased_slot.Reads as leased_slot
use Rattle.registry.proofs.PublicationRegistry.release.Kinds as release-kinds
use Rattle.registry.proofs.PublicationRegistry.release.Reads as release
use Rattle.registry.proofs.PublicationRegistry.revoke.Kinds as revoke-kinds
use Rattle.registry.proofs.PublicationRegistry.revoke.Reads as revoke
use Rattle.registry.proofs.PublicationRegistry.reclaim.Kinds as reclaim-kinds
use Rattle.registry.proofs.PublicationRegistry.reclaim.Reads as reclaim

pub new_one : OneOutcome 0 new-kinds.ps new-kinds.r new.Post
new_one κs a x y s p q = p ∙ sym q

pub for_domain_one : OneOutcome 0 for-domain-kinds.ps for-domain-kinds.r for-domain.Post
for_domain_one κs a x y s p q = p ∙ sym q

pub default_one : OneOutcome 0 default-kinds.ps default-kinds.r default.Post
default_one κs a x y s p q = p ∙ sym q

pub domain_one : OneOutcome 0 domain-kinds.ps domain-kinds.r domain.Post
domain_one κs a x y s p q = p ∙ sym q

pub publication_records_one : OneOutcome 0 publication-records-kinds.ps publication-records-kinds.r publication_records.Post
publication_records_one κs a x y s p q = p ∙ sym q

pub lease_record_count_one : OneOutcome 0 lease-record-count-kinds.ps lease-record-count-kinds.r lease_record_count.Post
lease_record_count_one κs a x y s p q = p ∙ sym q

pub lease_allocation_count_one : OneOutcome 0 lease-allocation-count-kinds.ps lease-allocation-count-kinds.r lease_allocation_count.Post
lease_allocation_count_one κs a x y s p q = p ∙ sym q

pub entry_one : OneOutcome 0 entry-kinds.ps entry-kinds.r entry.Post
entry_one κs a x y s p q = p ∙ sym q

pub lease_one : OneOutcome 0 lease-kinds.ps lease-kinds.r lease.Post
lease_one κs a x y s p q = p ∙ sym q

pub resolve_one : OneOutcome 0 resolve-kinds.ps resolve-kinds.r resolve.Post
resolve_one κs a x y s p q = p ∙ sym q

pub publish_one : OneOutcome 0 publish-kinds.ps publish-kinds.r publish.Post
publish_one κs a x y s p q = p ∙ sym q

pub can_adopt_one : OneOutcome 0 can-adopt-kinds.ps can-adopt-kinds.r can_adopt.Post
can_adopt_one κs a x y s p q = p ∙ sym q

pub adopt_one : OneOutcome 0 adopt-kinds.ps adopt-kinds.r adopt.Post
adopt_one κs a x y s p q = p ∙ sym q

pub check_lease_capacity_one : OneOutcome 0 check-lease-capacity-kinds.ps check-lease-capacity-kinds.r check_lease_capacity.Post
check_lease_capacity_one κs a x y s p q = p ∙ sym q

pub acquire_one : OneOutcome 0 acquire-kinds.ps acquire-kinds.r acquire.Post
acquire_one κs a x y s p q = p ∙ sym q

pub acquire_for_one : OneOutcome 0 acquire-for-kinds.ps acquire-for-kinds.r acquire_for.Post
acquire_for_one κs a x y s p q = p ∙ sym q

pub leased_slot_one : OneOutcome 0 leased-slot-kinds.ps leased-slot-kinds.r leased_slot.Post
leased_slot_one κs a x y s p q = p ∙ sym q

pub release_one : OneOutcome 0 release-kinds.ps release-kinds.r release.Post
release_one κs a x y s p q = p ∙ sym q

pub revoke_one : OneOutcome 0 revoke-kinds.ps revoke-kinds.r revoke.Post
revoke_one κs a x y s p q = p ∙ sym q

pub reclaim_one : OneOutcome 0 reclaim-kinds.ps reclaim-kinds.r reclaim.Post
reclaim_one κs a x y s p q = p ∙ sym q
