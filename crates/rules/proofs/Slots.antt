-- In a sound store the next slot is free, so that publishing can't meet a slot conflict.
-- Assumes nothing.
use Prim.Native.Nat.{ℕ}
use mathlib.Core.Path.{◌≡◌, refl}
use mathlib.Core.Bool.{false, or-false}
use native.Mathlib.Omega.{arith}
use lib.Dec.{eqb}
use lib.ListN.{length}
use borrow.Author.Tests.{eqb-true}
use Rattle.lists.proofs.Bools.{and_right}
use Rattle.lists.proofs.Place.{within}
use Rattle.lists.proofs.Search.{not_found}
use Rattle.rules.specs.Limits.{Limits}
use Rattle.rules.specs.Answers.{verdict}
use Rattle.rules.specs.Table.{Store, blank_publication, publication_of}
use Rattle.rules.specs.Conditions.{port_held, retained_in, slot_held}
use Rattle.rules.specs.Rows.{tests}
use Rattle.rules.specs.RegistryRows.{publish, call_tests}
use Rattle.rules.specs.Sound.{StoreSound}
use Rattle.rules.specs.declared.Owner.{Owner}
use Rattle.rules.specs.declared.Port.{Port}
use Rattle.rules.specs.declared.Command.TheVariants.{Publish}

module _ (L : Limits) (s : Store) (k : StoreSound L s) where
  abbrev next : ℕ
  next = length s.registry.publications

  -- a retained publication's slot is its identifier, and that is below the next one
  pub slot_free : slot_held s.registry next ≡ false
  slot_free =
      not_found (retained_in next) s.registry.publications blank_publication
      (λ i h.
      let e = publication_of s (record { 0 = i }) in
      let below = within (retained_in next) s.registry.publications i blank_publication refl h in
      omega (arith, k.s5.slots (record { 0 = i }) below, eqb-true e.slot next (and_right e.retained (eqb e.slot next) h)))

  -- the registry's row, given that slot, says what the store's row says
  pub publish_verdict : (o : Owner) (g : ℕ) (q : Port) (v : ℕ)
      → verdict (call_tests L s.registry (publish o g q next)) ≡ verdict (tests L s (Publish o g q v))
  publish_verdict o g q v = rw (slot_free, or-false (port_held s.registry q))
