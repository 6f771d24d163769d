-- A store that tells how many publications it retains is sound.
-- Assumes nothing.
use Prim.Native.Nat.{ℕ, ◌≤◌}
use mathlib.Core.Path.{◌≡◌}
use mathlib.Core.Logic.{⊎_elim}
use native.Mathlib.Omega.{arith}
use Rattle.std.specs.Prelude.{Result, Ok}
use Rattle.rules.specs.Limits.{Limits}
use Rattle.rules.specs.Columns.{StoreColumns}
use Rattle.rules.specs.Sound.{StoreColumnsSound}
use Rattle.rules.specs.Calls.{command}
use Rattle.rules.specs.declared.Command.TheVariants.{Count}
use Rattle.rules.specs.declared.Refusal.{Refusal}
use Rattle.rules.proofs.Columns.{registry_columns, active_room}
use Rattle.rules.proofs.Called.{sound_or_damaged, command_damaged}
use Rattle.registry.specs.Answers.{result_of}

module _ (L : Limits) (c : StoreColumns) (a : Result ℕ Refusal) (n : ℕ) (answered : a ≡ result_of (command L c Count).answer) (counted : a ≡ Ok n) where
  counted_sound : StoreColumnsSound L c
  counted_sound =
      ⊎_elim (λ s. s) (λ e. let z : ◌≡◌ {A = ℕ} 0 1 = cc (command_damaged L c Count e) in absurd (omega arith)) (sound_or_damaged L c)

  pub leases_fit : c.registry.active ≤ L.leases
  leases_fit = active_room L c.registry (registry_columns L c counted_sound)
