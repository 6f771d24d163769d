-- What is told of a run: the run itself, and each answer.
-- Assumes nothing.
use Rattle.std.specs.Prelude.{ℕ, cond, eqb, List, [], ◌∷◌, ◌++◌, ltb, length, None}
use Rattle.std.specs.Fmt.{decimal}
use Rattle.lists.specs.Letters.{letters}
use Rattle.rules.specs.Limits.{Limits}
use Rattle.rules.specs.Refusals.{refusal_number, name_of}
use Rattle.rules.specs.Responses.{response_number}
use Rattle.rules.specs.Table.{Store, empty_store}
use Rattle.rules.specs.declared.Refusal.TheVariants.{Capacity}
use Rattle.rules.specs.declared.Response.{Response}
use Rattle.blocks.specs.Answers.{KeyValue, value_lines}
use Rattle.named.specs.Told.{pairs_text}
use Rattle.trace.specs.Run.{Ran, stopped, at_start}
use Rattle.trace.specs.Report.{longest, empty_run}

-- the run that a report tells; a trace that is too long stops with 7, and nothing is run
unfoldable pub told_run : Limits → List ℕ → Ran Store
told_run L trace =
    cond (ltb longest (length trace)) (stopped (refusal_number Capacity) (at_start (empty_store None))) (empty_run L trace)

-- an answer: done, and after that what it gives; or that it is refused, with its number and name

abbrev pub done_text : List KeyValue → List ℕ
done_text [] = letters "done"
done_text (l ∷ ls) = letters "done     " ++ pairs_text (letters " ") (letters ", ") (l ∷ ls)

abbrev pub told_text : Response → List ℕ
told_text r =
    cond (eqb (response_number r) 0) (done_text (value_lines r)) (letters "REFUSED  " ++ decimal (response_number r) ++ 32 ∷ name_of (response_number r))
