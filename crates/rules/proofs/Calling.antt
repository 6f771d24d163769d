-- The broker that tests its columns before every command meets the second and the third demand, from any sound table.
-- Assumes nothing.
use Rattle.std.specs.Prelude.{Option, ℕ}
use mathlib.Core.Path.{◌≡◌, refl, ap, ◌∙◌}
use mathlib.Core.List.{[]}
use Rattle.rules.specs.Limits.{Limits}
use Rattle.rules.specs.Table.{empty_store}
use Rattle.rules.specs.Rows.{step}
use Rattle.rules.specs.Columns.{StoreColumns, used, filled}
use Rattle.rules.specs.Sound.{StoreSound, StoreColumnsSound}
use Rattle.rules.specs.Calls.{command}
use Rattle.rules.specs.Broker.{Broker}
use Rattle.rules.specs.Demand2.{Demand2, Demand2Table}
use Rattle.rules.specs.Demand3.{Demand3}
use Rattle.rules.specs.Past.{past}
use Rattle.rules.specs.declared.Command.{Command}
use Rattle.rules.proofs.KeepsStore.{step_sound}
use Rattle.rules.proofs.Columns.{used_filled}
use Rattle.rules.proofs.Called.{command_answers, command_leaves, command_keeps, empty_columns_sound}
use Rattle.rules.proofs.Carried.{simulates, simulates_table, second_gives_third}

abbrev pub calling : Limits → StoreColumns → Broker
calling L c =
    record { State = StoreColumns; first = c; answer = λ c k. (command L c k).answer; next = λ c k. (command L c k).table }

module _ (L : Limits) (c : StoreColumns) (sound : StoreColumnsSound L c) where
  -- the records in use after a command are those of the rows
  goes : (c : StoreColumns) (k : Command) → StoreColumnsSound L c
      → ((command L c k).answer ≡ (step L (used c) k).answer) × (used (command L c k).table ≡ (step L (used c) k).table) × StoreColumnsSound L (command L c k).table
  goes c k s = (
    command_answers L c k s,
    ap used (command_leaves L c k s) ∙ used_filled L (step L (used c) k).table after.s5.payload_each after.s5.revision_each,
    command_keeps L c k s,
  )
    where
      after : StoreSound L (step L (used c) k).table
      after = step_sound L (used c) k s.in_use

  pub calling_second : Demand2 L (used c) (calling L c)
  calling_second = simulates L (calling L c) used (StoreColumnsSound L) goes sound

  pub calling_table : Demand2Table L (used c) (calling L c) used
  calling_table = simulates_table L (calling L c) used (StoreColumnsSound L) goes sound

  pub calling_third : Demand3 (past (used c)) (calling L c)
  calling_third = second_gives_third L (used c) (calling L c) sound.in_use calling_second

-- from the empty columns, with or without domain
pub calling_third_empty : (L : Limits) (d : Option ℕ) → Demand3 [] (calling L (filled L (empty_store d)))
calling_third_empty L d =
    second_gives_third L (empty_store d) (calling L (filled L (empty_store d)))
    (rw is at (empty_columns_sound L d).in_use)
    (rw is at (calling_second L (filled L (empty_store d)) (empty_columns_sound L d)))
  where
    is : used (filled L (empty_store d)) ≡ empty_store d
    is = used_filled L (empty_store d) refl refl
