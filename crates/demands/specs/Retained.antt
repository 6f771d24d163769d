-- The handles that a store still retains, by the flags of its records.
-- Assumes nothing.
use Rattle.std.specs.Prelude.{ℕ, zero, suc, cond, List, [], ◌∷◌, ◌++◌, get_or}
use Rattle.rules.specs.Limits.{box}
use Rattle.rules.specs.Table.{at}
use Rattle.rules.specs.declared.PublicationId.{PublicationId}
use Rattle.store.specs.declared.PublicationStore.{PublicationStore}

module _ (t : PublicationStore) where
  -- at one place: the payload, if the record there is retained
  abbrev pub retained_at : PublicationId → List ℕ
  retained_at p = cond (at t.registry.publications p).retained (get_or t.payloads p.0 0 ∷ []) []

  unfoldable pub retained_below : ℕ → List ℕ
  retained_below zero = []
  retained_below (suc n) = retained_below n ++ retained_at (record { 0 = n })

  -- at all places, those not in use included
  abbrev pub retained : List ℕ
  retained = retained_below box.publications
