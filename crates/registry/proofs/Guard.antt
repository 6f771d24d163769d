-- What the test for 9 tells: the call is the row's on a sound registry, and BadTable on any other.
-- Assumes nothing.
use Rattle.std.specs.Prelude.{Err}
use mathlib.Core.Path.{◌≡◌}
use mathlib.Core.Bool.{true, false}
use Rattle.rules.specs.Limits.{box}
use Rattle.rules.specs.Columns.{RegistryColumns, used_registry}
use Rattle.rules.specs.Sound.{RegistryColumnsSound}
use Rattle.rules.specs.SoundTest.{registry_test}
use Rattle.rules.specs.RegistryRows.{Call, registry_step}
use Rattle.rules.specs.Calls.{registry_call, laid_out_registry}
use Rattle.rules.specs.declared.Refusal.TheVariants.{BadTable}
use Rattle.rules.proofs.TestedRegistry.{registry_tested}
use Rattle.rules.proofs.Called.{call_sound, call_damaged}
use Rattle.registry.specs.Columns.{registry_of}
use Rattle.registry.specs.Answers.{result_of}

module _ (c : RegistryColumns) where
  pub sound_when : registry_test box c ≡ true → RegistryColumnsSound box c
  sound_when t = (registry_tested box c).0 t

  module _ (k : Call) where
    pub answer_when : registry_test box c ≡ true → result_of (registry_call box c k).answer ≡ result_of (registry_step box (used_registry c) k).answer
    answer_when t = rw (call_sound box c k (sound_when t))

    pub answer_unless : registry_test box c ≡ false → result_of (registry_call box c k).answer ≡ Err BadTable
    answer_unless t = rw (call_damaged box c k t)

    pub table_when : registry_test box c ≡ true → registry_of (registry_call box c k).table ≡ registry_of (laid_out_registry box (registry_step box (used_registry c) k)).table
    table_when t = rw (call_sound box c k (sound_when t))

    pub table_unless : registry_test box c ≡ false → registry_of (registry_call box c k).table ≡ registry_of c
    table_unless t = rw (call_damaged box c k t)

pub ruleset guarded = (answer_when, answer_unless, table_when, table_unless)
