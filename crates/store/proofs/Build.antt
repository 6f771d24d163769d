-- The crate in a build: its functions with their code, and that each function which other crates call or name stands there, with all that it calls.
-- Assumes nothing.
use mathlib.Core.Bool.{true}
use prog.Linked.{World, Tree, Holds, in_world}
use prog.LinkedThreads.{HasT}
use prog.Wired.{Code}
use Rattle.store.proofs.TheLink as link
use Rattle.store.proofs.PublicationStore.new.Symbol as PublicationStore-new
use Rattle.store.proofs.inner.any.apply.Symbol as inner-any-apply
use Rattle.store.proofs.inner.Sound.empty.Symbol as inner-Sound-empty
use Rattle.store.proofs.inner.Sound.tested.Symbol as inner-Sound-tested
use Rattle.store.proofs.PublicationStore.for_domain.Symbol as PublicationStore-for_domain
use Rattle.store.proofs.PublicationStore.registry.Symbol as PublicationStore-registry
use Rattle.store.proofs.PublicationStore.value.Symbol as PublicationStore-value
use Rattle.store.proofs.PublicationStore.observation.Symbol as PublicationStore-observation
use Rattle.store.proofs.PublicationStore.leased_value.Symbol as PublicationStore-leased_value
use Rattle.store.proofs.PublicationStore.leased_observation.Symbol as PublicationStore-leased_observation
use Rattle.store.proofs.PublicationStore.resolve.Symbol as PublicationStore-resolve
use Rattle.store.proofs.PublicationStore.retained_count.Symbol as PublicationStore-retained_count
use Rattle.store.proofs.PublicationStore.contains_handle.Symbol as PublicationStore-contains_handle
use Rattle.store.proofs.PublicationStore.publish.Symbol as PublicationStore-publish
use Rattle.store.proofs.PublicationStore.replace.Symbol as PublicationStore-replace
use Rattle.store.proofs.PublicationStore.revoke.Symbol as PublicationStore-revoke
use Rattle.store.proofs.PublicationStore.acquire_for.Symbol as PublicationStore-acquire_for
use Rattle.store.proofs.PublicationStore.release.Symbol as PublicationStore-release
use Rattle.store.proofs.PublicationStore.adopt.Symbol as PublicationStore-adopt
use Rattle.store.proofs.PublicationStore.reclaim.Symbol as PublicationStore-reclaim
use Rattle.store.proofs.PublicationStore.apply.Symbol as PublicationStore-apply
use Rattle.store.proofs.ValueCell.new.Symbol as ValueCell-new
use Rattle.store.proofs.ValueCell.get.Symbol as ValueCell-get
use Rattle.store.proofs.ValueCell.replace.Symbol as ValueCell-replace

-- its functions, and what it needs of the crates below

abbrev pub table : Tree
table = link.table

abbrev pub Below : World → Type 0
Below = link.Below

-- in every build in which the crate stands on those below, that code is there
abbrev pub Stands : Code → Type 0
Stands c = (W : World) → Holds W "store" table → Below W → HasT (in_world W) true c

pub PublicationStore-new-stands : Stands PublicationStore-new.code
PublicationStore-new-stands = link.linked-store::PublicationStore::new

pub inner-any-apply-stands : Stands inner-any-apply.code
inner-any-apply-stands = link.linked-store::inner::any::apply

pub inner-Sound-empty-stands : Stands inner-Sound-empty.code
inner-Sound-empty-stands = link.linked-store::inner::Sound::empty

pub inner-Sound-tested-stands : Stands inner-Sound-tested.code
inner-Sound-tested-stands = link.linked-store::inner::Sound::tested

pub PublicationStore-for_domain-stands : Stands PublicationStore-for_domain.code
PublicationStore-for_domain-stands = link.linked-store::PublicationStore::for_domain

pub PublicationStore-registry-stands : Stands PublicationStore-registry.code
PublicationStore-registry-stands = link.linked-store::PublicationStore::registry

pub PublicationStore-value-stands : Stands PublicationStore-value.code
PublicationStore-value-stands = link.linked-store::PublicationStore::value

pub PublicationStore-observation-stands : Stands PublicationStore-observation.code
PublicationStore-observation-stands = link.linked-store::PublicationStore::observation

pub PublicationStore-leased_value-stands : Stands PublicationStore-leased_value.code
PublicationStore-leased_value-stands = link.linked-store::PublicationStore::leased_value

pub PublicationStore-leased_observation-stands : Stands PublicationStore-leased_observation.code
PublicationStore-leased_observation-stands = link.linked-store::PublicationStore::leased_observation

pub PublicationStore-resolve-stands : Stands PublicationStore-resolve.code
PublicationStore-resolve-stands = link.linked-store::PublicationStore::resolve

pub PublicationStore-retained_count-stands : Stands PublicationStore-retained_count.code
PublicationStore-retained_count-stands = link.linked-store::PublicationStore::retained_count

pub PublicationStore-contains_handle-stands : Stands PublicationStore-contains_handle.code
PublicationStore-contains_handle-stands = link.linked-store::PublicationStore::contains_handle

pub PublicationStore-publish-stands : Stands PublicationStore-publish.code
PublicationStore-publish-stands = link.linked-store::PublicationStore::publish

pub PublicationStore-replace-stands : Stands PublicationStore-replace.code
PublicationStore-replace-stands = link.linked-store::PublicationStore::replace

pub PublicationStore-revoke-stands : Stands PublicationStore-revoke.code
PublicationStore-revoke-stands = link.linked-store::PublicationStore::revoke

pub PublicationStore-acquire_for-stands : Stands PublicationStore-acquire_for.code
PublicationStore-acquire_for-stands = link.linked-store::PublicationStore::acquire_for

pub PublicationStore-release-stands : Stands PublicationStore-release.code
PublicationStore-release-stands = link.linked-store::PublicationStore::release

pub PublicationStore-adopt-stands : Stands PublicationStore-adopt.code
PublicationStore-adopt-stands = link.linked-store::PublicationStore::adopt

pub PublicationStore-reclaim-stands : Stands PublicationStore-reclaim.code
PublicationStore-reclaim-stands = link.linked-store::PublicationStore::reclaim

pub PublicationStore-apply-stands : Stands PublicationStore-apply.code
PublicationStore-apply-stands = link.linked-store::PublicationStore::apply

pub ValueCell-new-stands : Stands ValueCell-new.code
ValueCell-new-stands = link.linked-store::ValueCell::new

pub ValueCell-get-stands : Stands ValueCell-get.code
ValueCell-get-stands = link.linked-store::ValueCell::get

pub ValueCell-replace-stands : Stands ValueCell-replace.code
ValueCell-replace-stands = link.linked-store::ValueCell::replace
