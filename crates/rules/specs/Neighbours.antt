-- What stands next to the bench examples: which test refuses where two hold, the numbers of each row, the names, and a whole table.
-- Assumes nothing.
use Rattle.std.specs.Prelude.{ℕ, ◌≡◌, refl, Bool, true, false, List, [], ◌∷◌, T, Some}
use Rattle.lists.specs.Every.{every}
use Rattle.lists.specs.Letters.{letters}
use Rattle.rules.specs.Limits.{Limits, box}
use Rattle.rules.specs.Refusals.{refusal_number, name_of}
use Rattle.rules.specs.Answers.{Test, ◌⇒◌}
use Rattle.rules.specs.Table.{Store, empty_store, taken_by}
use Rattle.rules.specs.Rows.{tests, step}
use Rattle.rules.specs.Broker.{run}
use Rattle.rules.specs.Demand2.{by_the_rows}
use Rattle.rules.specs.declared.Command.{Command}
use Rattle.rules.specs.Probes.{Case, ◌gives◌, ◌refused_with◌, ◌refused_with◌back◌, same_numbers, all_right, publish, adopt, acquire, release, revoke, replace, reclaim, read, observe, resolve, count, entry, lent, empty, given}

-- Order of tests: where two of them hold at once, the earlier one refuses; and what is next to a refusal is carried out.
abbrev pub next_to_P1_to_P12 : List Case
next_to_P1_to_P12 =
    -- adopt 1, 6, 8, 4: another owner of a leased one 8, of a reclaimed one 6; a generation that isn't 0, or a new one that isn't 1, is 8
    record {
      from = empty;
      asked =
          (adopt 0 4 1 refused_with 1)
          ∷ (publish 4 0 7 900 gives 0 ∷ [])
          ∷ (acquire 0 5 1 gives 0 ∷ [])
          ∷ (adopt 0 5 1 refused_with 8)
          ∷ (adopt 0 4 2 refused_with 8)
          ∷ (revoke 0 gives [])
          ∷ (release 0 gives [])
          ∷ (adopt 0 4 1 gives [])
          ∷ (reclaim 0 gives 900 ∷ [])
          ∷ (adopt 0 5 1 refused_with 6)
          ∷ (publish 4 3 7 901 gives 1 ∷ [])
          ∷ (adopt 1 4 1 refused_with 8)
          ∷ [];
    }
    -- acquire 1, 2, 7: the counter's last number is given out; at its end an unknown publication is 1, a revoked one 2
    ∷ record {
      from = given 0 18_446_744_073_709_551_614;
      asked =
          (acquire 0 5 1 gives 18_446_744_073_709_551_614 ∷ [])
          ∷ (acquire 0 5 1 refused_with 7)
          ∷ (acquire 1 5 1 refused_with 1)
          ∷ (revoke 0 gives [])
          ∷ (acquire 0 5 1 refused_with 2)
          ∷ [];
    }
    -- replace 1, 8, 2, 7: the revision at its end, another owner or generation 8, then revoked 2
    ∷ record {
      from = given 18_446_744_073_709_551_615 0;
      asked =
          (replace 1 4 0 901 refused_with 1 back 901)
          ∷ (replace 0 5 0 902 refused_with 8 back 902)
          ∷ (replace 0 4 1 903 refused_with 8 back 903)
          ∷ (replace 0 4 0 904 refused_with 7 back 904)
          ∷ (revoke 0 gives [])
          ∷ (replace 0 4 0 905 refused_with 2 back 905)
          ∷ [];
    }
    -- revoke and reclaim: revoking again is allowed, on a reclaimed one too, which stays so; an unknown one is 1
    ∷ record {
      from = given 0 0;
      asked =
          (revoke 0 gives [])
          ∷ (revoke 0 gives [])
          ∷ (reclaim 1 refused_with 1)
          ∷ (reclaim 0 gives 900 ∷ [])
          ∷ (revoke 0 gives [])
          ∷ (count gives 0 ∷ [])
          ∷ [];
    }
    -- read: each publication has its own revision and handle, and a lease shows those of the one that it names
    ∷ record {
      from = empty;
      asked =
          (publish 4 0 7 900 gives 0 ∷ [])
          ∷ (replace 0 4 0 901 gives 900 ∷ [])
          ∷ (publish 4 0 8 902 gives 1 ∷ [])
          ∷ (observe 0 gives 1 ∷ 901 ∷ [])
          ∷ (replace 1 4 0 903 gives 902 ∷ [])
          ∷ (replace 1 4 0 904 gives 903 ∷ [])
          ∷ (acquire 1 5 1 gives 0 ∷ [])
          ∷ (read 0 gives 1 ∷ 2 ∷ 904 ∷ [])
          ∷ [];
    }
    -- observe and resolve: a revoked one is observed and not resolved; a reclaimed one and an unknown one are 10; a handle may be 0
    ∷ record {
      from = empty;
      asked =
          (publish 4 0 7 900 gives 0 ∷ [])
          ∷ (publish 4 0 8 0 gives 1 ∷ [])
          ∷ (resolve 8 gives 1 ∷ [])
          ∷ (resolve 7 gives 0 ∷ [])
          ∷ (observe 1 gives 0 ∷ 0 ∷ [])
          ∷ (observe 2 refused_with 10)
          ∷ (revoke 0 gives [])
          ∷ (resolve 7 refused_with 10)
          ∷ (observe 0 gives 0 ∷ 900 ∷ [])
          ∷ (reclaim 0 gives 900 ∷ [])
          ∷ (observe 0 refused_with 10)
          ∷ [];
    }
    ∷ []

pub next_to_P1_to_P12_hold : T (all_right next_to_P1_to_P12)
unfolding step
next_to_P1_to_P12_hold = tt

-- Refusals in order, as document 01 lists them, whatever the table holds.

abbrev pub numbers_in_order : List Test → List ℕ
numbers_in_order [] = []
numbers_in_order ((b ⇒ r) ∷ ts) = refusal_number r ∷ numbers_in_order ts

abbrev pub refusals_in_order : List (Command × List ℕ)
refusals_in_order =
    (publish 4 0 7 900, 7 ∷ 3 ∷ [])
    ∷ (adopt 0 4 1, 1 ∷ 6 ∷ 8 ∷ 4 ∷ [])
    ∷ (acquire 0 5 1, 1 ∷ 2 ∷ 7 ∷ [])
    ∷ (release 0, 1 ∷ 6 ∷ [])
    ∷ (revoke 0, 1 ∷ [])
    ∷ (replace 0 4 0 901, 1 ∷ 8 ∷ 2 ∷ 7 ∷ [])
    ∷ (reclaim 0, 1 ∷ 5 ∷ 6 ∷ 4 ∷ [])
    ∷ (read 0, 1 ∷ 6 ∷ [])
    ∷ (observe 0, 10 ∷ [])
    ∷ (resolve 7, 10 ∷ [])
    ∷ (count, [])
    ∷ []

abbrev pub all_in_order : Limits → Store → List (Command × List ℕ) → Bool
all_in_order L s [] = true
all_in_order L s (k ∷ ks) = every (same_numbers (numbers_in_order (tests L s k.0)) k.1 ∷ all_in_order L s ks ∷ [])

pub refusals_are_in_order : (L : Limits) (s : Store) → T (all_in_order L s refusals_in_order)
refusals_are_in_order L s = tt

-- The names of the numbers.

abbrev pub named_numbers : List (ℕ × List ℕ)
named_numbers =
    (0, letters "Done")
    ∷ (1, letters "Unknown")
    ∷ (2, letters "Revoked")
    ∷ (3, letters "Conflict")
    ∷ (4, letters "Relied")
    ∷ (5, letters "Visible")
    ∷ (6, letters "Released")
    ∷ (7, letters "Capacity")
    ∷ (8, letters "InvalidState")
    ∷ (9, letters "BadTable")
    ∷ (10, letters "Absent")
    ∷ (11, letters "BadLine")
    ∷ (12, letters "NoRoom")
    ∷ (13, letters "unnamed")
    ∷ (18_446_744_073_709_551_615, letters "unnamed")
    ∷ []

abbrev pub all_named : List (ℕ × List ℕ) → Bool
all_named [] = true
all_named (k ∷ ks) = every (same_numbers (name_of k.0) k.1 ∷ all_named ks ∷ [])

pub named_numbers_hold : T (all_named named_numbers)
unfolding name_of
named_numbers_hold = tt

-- What no answer shows: the whole table that commands leave. A reclaimed cell is 0 and keeps its revision; released leases are closed up,
-- and the counter does not go back.

abbrev pub commands : List Command
commands =
    publish 4 0 7 900 ∷ publish 6 0 8 901 ∷ publish 7 0 9 902 ∷ adopt 2 7 1
    ∷ acquire 0 5 1 ∷ acquire 1 5 1 ∷ acquire 1 6 2 ∷ acquire 2 5 1
    ∷ replace 0 4 0 903 ∷ replace 1 6 0 904 ∷ replace 1 6 0 905
    ∷ release 0 ∷ release 1 ∷ revoke 0 ∷ reclaim 0
    ∷ []

abbrev pub table_left : Store
table_left =
    record {
      registry =
          record {
            domain = Some 3;
            publications = entry 4 0 7 0 false false ∷ entry 6 0 8 1 true true ∷ entry 7 1 9 2 true true ∷ [];
            leases = lent 2 1 (taken_by (record { 0 = 6 }) 2) ∷ lent 3 2 (taken_by (record { 0 = 5 }) 1) ∷ [];
            counter = 4;
          };
      payloads = 0 ∷ 905 ∷ 902 ∷ [];
      revisions = 1 ∷ 2 ∷ 0 ∷ [];
    }

pub commands_leave : run (by_the_rows box (empty_store (Some 3))) (empty_store (Some 3)) commands ≡ table_left
unfolding step run
commands_leave = refl
