-- The second demand, on any broker: after any commands, each answer is that of the rows; and whoever shows its table shows the rows'.
-- Assumes nothing.
use Rattle.std.specs.Prelude.{◌≡◌, List}
use Rattle.rules.specs.Limits.{Limits}
use Rattle.rules.specs.Table.{Store}
use Rattle.rules.specs.Rows.{step}
use Rattle.rules.specs.Broker.{Broker, run}
use Rattle.rules.specs.declared.Command.{Command}

-- the broker of the rows, from a table
abbrev pub by_the_rows : Limits → Store → Broker
by_the_rows L s =
    record { State = Store; first = s; answer = λ t c. (step L t c).answer; next = λ t c. (step L t c).table }

module _ (L : Limits) (s : Store) (B : Broker) where
  -- the answers
  abbrev pub Demand2 : Type 0
  Demand2 =
      (cs : List Command) (c : Command)
      → B.answer (run B B.first cs) c ≡ (by_the_rows L s).answer (run (by_the_rows L s) s cs) c

  -- the whole table, of a broker whose states show one
  abbrev pub Demand2Table : (B.State → Store) → Type 0
  Demand2Table view = (cs : List Command) → view (run B B.first cs) ≡ run (by_the_rows L s) s cs
