-- The number of a stop says which it is, so one run and one report have one answer.
-- Assumes nothing.
use Prim.Native.Nat.{ℕ}
use mathlib.Core.Path.{◌≡◌, refl, sym, ap, ◌∙◌}
use mathlib.Core.List.{[], ◌∷◌}
use lib.ListN.{get_or}
use Rattle.rules.specs.Columns.{StoreColumns}
use Rattle.trace.specs.Run.{Ran}
use Rattle.trace.specs.Report.{Report}
use Rattle.trace.specs.Embedding.{stop_number, StoppedAs, ReportedAs}
use Rattle.trace.specs.declared.Stop.{Stop}
use Rattle.trace.specs.declared.Stop.TheVariants.{End, TooLong, BadTable, BadLine, NoRoom}
use Rattle.trace.specs.declared.Stopped.{Stopped}
use Rattle.trace.specs.declared.Reported.{Reported}

-- the stop of a number
numbered : ℕ → Stop
numbered n =
    get_or (End ∷ End ∷ End ∷ End ∷ End ∷ End ∷ End ∷ TooLong ∷ End ∷ BadTable ∷ End ∷ BadLine ∷ NoRoom ∷ []) n End

number_back : (x : Stop) → numbered (stop_number x) ≡ x
unfolding numbered
number_back End = refl
number_back TooLong = refl
number_back BadTable = refl
number_back BadLine = refl
number_back NoRoom = refl

-- two stops of one number are one
pub stop_fixed : (x y : Stop) → stop_number x ≡ stop_number y → x ≡ y
stop_fixed x y e = sym (number_back x) ∙ ap numbered e ∙ number_back y

-- so nothing of an answer is left open

pub stopped_one : (w : Ran StoreColumns) (r q : Stopped) → StoppedAs w r → StoppedAs w q → r ≡ q
stopped_one w r q a b =
    λ i.
    record {
      store = (a.store ∙ sym b.store) i;
      stop = stop_fixed r.stop q.stop (a.stop ∙ sym b.stop) i;
      blocks = (a.blocks ∙ sym b.blocks) i;
      read = (a.read ∙ sym b.read) i;
      written = (a.written ∙ sym b.written) i;
    }

pub reported_one : (w : Report) (r q : Reported) → ReportedAs w r → ReportedAs w q → r ≡ q
reported_one w r q a b =
    λ i. record { stop = stop_fixed r.stop q.stop (a.stop ∙ sym b.stop) i; written = (a.written ∙ sym b.written) i }
