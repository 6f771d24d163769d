-- `apply` meets its contract: each command's own call, and its answer as a response.
-- Assumes nothing.
use Rattle.std.proofs.Common.{rules}
use mathlib.Core.Path.{refl, ◌∙◌}
use Rattle.rules.specs.declared.Response.TheVariants as R
use Rattle.store.proofs.Applying.{applied, looked}
use Rattle.store.proofs.inner.any.apply.Goals as goal

pub returns-in-Publish : goal.returns-in-Publish
returns-in-Publish c =
    c.told.ensures R.Id (λ x r e. e) ∙ rw c.publish.ensures (applied _ c.in-Publish.is)

pub returns-in-Adopt : goal.returns-in-Adopt
returns-in-Adopt c =
    c.told-in-Adopt.ensures (λ u. R.Done) (λ x r e. search rules) ∙ rw c.adopt.ensures (applied _ c.in-Adopt.is)

pub returns-in-Acquire : goal.returns-in-Acquire
returns-in-Acquire c =
    c.told-in-Acquire.ensures R.Lease (λ x r e. e) ∙ rw c.acquire_for.ensures (applied _ c.in-Acquire.is)

pub returns-in-Release : goal.returns-in-Release
returns-in-Release c =
    c.told-in-Release.ensures (λ u. R.Done) (λ x r e. search rules) ∙ rw c.release.ensures (applied _ c.in-Release.is)

pub returns-in-Revoke : goal.returns-in-Revoke
returns-in-Revoke c =
    c.told-in-Revoke.ensures (λ u. R.Done) (λ x r e. search rules) ∙ rw c.revoke.ensures (applied _ c.in-Revoke.is)

pub returns-in-Replace : goal.returns-in-Replace
returns-in-Replace c =
    c.told-in-Replace.ensures R.Handle (λ x r e. e) ∙ rw c.replace.ensures (applied _ c.in-Replace.is)

pub returns-in-Reclaim : goal.returns-in-Reclaim
returns-in-Reclaim c =
    c.told-in-Reclaim.ensures R.Handle (λ x r e. e) ∙ rw c.reclaim.ensures (applied _ c.in-Reclaim.is)

pub returns-in-Read : goal.returns-in-Read
returns-in-Read c =
    c.told-in-Read.ensures R.Read (λ x r e. e) ∙ rw (c.unchanged.ensures, c.leased_observation.ensures) (looked _ c.in-Read.is c.args.sound.is refl)

pub returns-in-Observe : goal.returns-in-Observe
returns-in-Observe c =
    c.told-in-Observe.ensures R.Observed (λ x r e. e) ∙ rw (c.unchanged-in-Observe.ensures, c.observation.ensures) (looked _ c.in-Observe.is c.args.sound.is refl)

pub returns-in-Resolve : goal.returns-in-Resolve
returns-in-Resolve c =
    c.told-in-Resolve.ensures R.Id (λ x r e. e) ∙ rw (c.unchanged-in-Resolve.ensures, c.resolve.ensures) (looked _ c.in-Resolve.is c.args.sound.is refl)

pub returns-in-Count : goal.returns-in-Count
returns-in-Count c =
    c.told-in-Count.ensures R.Count (λ x r e. e) ∙ rw (c.unchanged-in-Count.ensures, c.retained_count.ensures) (looked _ c.in-Count.is c.args.sound.is refl)
