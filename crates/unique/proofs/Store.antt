-- The store's public calls: each contract lets one outcome through.
-- Assumes nothing.
use mathlib.Core.Path.{sym, ◌∙◌}
use Rattle.unique.specs.OneOutcome.{OneOutcome}
use Rattle.store.proofs.PublicationStore.new.Kinds as new-kinds
use Rattle.store.proofs.PublicationStore.new.Reads as new
use Rattle.store.proofs.PublicationStore.for_domain.Kinds as for-domain-kinds
use Rattle.store.proofs.PublicationStore.for_domain.Reads as for-domain
use Rattle.store.proofs.PublicationStore.registry.Kinds as registry-kinds
use Rattle.store.proofs.PublicationStore.registry.Reads as registry
use Rattle.store.proofs.PublicationStore.value.Kinds as value-kinds
use Rattle.store.proofs.PublicationStore.value.Reads as value
use Rattle.store.proofs.PublicationStore.observation.Kinds as observation-kinds
use Rattle.store.proofs.PublicationStore.observation.Reads as observation
use Rattle.store.proofs.PublicationStore.leased_value.Kinds as leased-value-kinds
use Rattle.store.proofs.PublicationStore.leased_value.Reads as leased_value
use Rattle.store.proofs.PublicationStore.leased_observation.Kinds as leased-observation-kinds
use Rattle.store.proofs.PublicationStore.leased_observation.Reads as leased-observation
use Rattle.store.proofs.PublicationStore.resolve.Kinds as resolve-kinds
use Rattle.store.proofs.PublicationStore.resolve.Reads as resolve
use Rattle.store.proofs.PublicationStore.retained_count.Kinds as retained-count-kinds
use Rattle.store.proofs.PublicationStore.retained_count.Reads as retained_count
use Rattle.store.proofs.PublicationStore.contains_handle.Kinds as contains-handle-kinds
use Rattle.store.proofs.PublicationStore.contains_handle.Reads as contains_handle
use Rattle.store.proofs.PublicationStore.publish.Kinds as publish-kinds
use Rattle.store.proofs.PublicationStore.publish.Reads as publish
use Rattle.store.proofs.PublicationStore.replace.Kinds as replace-kinds
use Rattle.store.proofs.PublicationStore.replace.Reads as replace
use Rattle.store.proofs.PublicationStore.revoke.Kinds as revoke-kinds
use Rattle.store.proofs.PublicationStore.revoke.Reads as revoke
use Rattle.store.proofs.PublicationStore.acquire_for.Kinds as acquire-for-kinds
use Rattle.store.proofs.PublicationStore.acquire_for.Reads as acquire_for
use Rattle.store.proofs.PublicationStore.release.Kinds as release-kinds
use Rattle.store.proofs.PublicationStore.release.Reads as release
use Rattle.store.proofs.PublicationStore.adopt.Kinds as adopt-kinds
use Rattle.store.proofs.PublicationStore.adopt.Reads as adopt
use Rattle.store.proofs.PublicationStore.reclaim.Kinds as reclaim-kinds
use Rattle.store.proofs.PublicationStore.reclaim.Reads as reclaim
use Rattle.store.proofs.PublicationStore.apply.Kinds as apply-kinds
use Rattle.store.proofs.PublicationStore.apply.Reads as apply

pub new_one : OneOutcome 0 new-kinds.ps new-kinds.r new.Post
new_one κs a x y s p q = p ∙ sym q

pub for_domain_one : OneOutcome 0 for-domain-kinds.ps for-domain-kinds.r for-domain.Post
for_domain_one κs a x y s p q = p ∙ sym q

pub registry_one : OneOutcome 0 registry-kinds.ps registry-kinds.r registry.Post
registry_one κs a x y s p q = p ∙ sym q

pub value_one : OneOutcome 0 value-kinds.ps value-kinds.r value.Post
value_one κs a x y s p q = p ∙ sym q

pub observation_one : OneOutcome 0 observation-kinds.ps observation-kinds.r observation.Post
observation_one κs a x y s p q = p ∙ sym q

pub leased_value_one : OneOutcome 0 leased-value-kinds.ps leased-value-kinds.r leased_value.Post
leased_value_one κs a x y s p q = p ∙ sym q

pub leased_observation_one : OneOutcome 0 leased-observation-kinds.ps leased-observation-kinds.r leased-observation.Post
leased_observation_one κs a x y s p q = p ∙ sym q

pub resolve_one : OneOutcome 0 resolve-kinds.ps resolve-kinds.r resolve.Post
resolve_one κs a x y s p q = p ∙ sym q

pub retained_count_one : OneOutcome 0 retained-count-kinds.ps retained-count-kinds.r retained_count.Post
retained_count_one κs a x y s p q = p ∙ sym q

pub contains_handle_one : OneOutcome 0 contains-handle-kinds.ps contains-handle-kinds.r contains_handle.Post
contains_handle_one κs a x y s p q = p ∙ sym q

pub publish_one : OneOutcome 0 publish-kinds.ps publish-kinds.r publish.Post
publish_one κs a x y s p q = p ∙ sym q

pub replace_one : OneOutcome 0 replace-kinds.ps replace-kinds.r replace.Post
replace_one κs a x y s p q = p ∙ sym q

pub revoke_one : OneOutcome 0 revoke-kinds.ps revoke-kinds.r revoke.Post
revoke_one κs a x y s p q = p ∙ sym q

pub acquire_for_one : OneOutcome 0 acquire-for-kinds.ps acquire-for-kinds.r acquire_for.Post
acquire_for_one κs a x y s p q = p ∙ sym q

pub release_one : OneOutcome 0 release-kinds.ps release-kinds.r release.Post
release_one κs a x y s p q = p ∙ sym q

pub adopt_one : OneOutcome 0 adopt-kinds.ps adopt-kinds.r adopt.Post
adopt_one κs a x y s p q = p ∙ sym q

pub reclaim_one : OneOutcome 0 reclaim-kinds.ps reclaim-kinds.r reclaim.Post
reclaim_one κs a x y s p q = p ∙ sym q

pub apply_one : OneOutcome 0 apply-kinds.ps apply-kinds.r apply.Post
apply_one κs a x y s p q = p ∙ sym q
