-- Answer blocks: the lines of each response, and their text.
-- Assumes nothing.
use Rattle.std.specs.Prelude.{ℕ, List, [], ◌∷◌, ◌++◌}
use Rattle.rules.specs.Responses.{response_number}
use Rattle.rules.specs.declared.Response.{Response}
use Rattle.rules.specs.declared.Response.TheVariants as R
use Rattle.text.specs.Keys.{answer, id, lease, payload, revision, count}
use Rattle.text.specs.Lines.{line_text}

infix 20 ◌is◌
-- a line: a key and its value
pub record KeyValue : Type 0 where
  pub key : ℕ
  pub value : ℕ

abbrev pub ◌is◌ : ℕ → ℕ → KeyValue
k is v = record { key = k; value = v }

-- the number, and of a command that is carried out the values that it is answered with

abbrev pub value_lines : Response → List KeyValue
value_lines (R.Refused r) = []
value_lines (R.Returned r h) = []
value_lines R.Done = []
value_lines (R.Id p) = (id is p.0) ∷ []
value_lines (R.Lease i) = (lease is i.0) ∷ []
value_lines (R.Handle h) = (payload is h) ∷ []
value_lines (R.Read x) = (id is x.id.0) ∷ (revision is x.revision) ∷ (payload is x.handle) ∷ []
value_lines (R.Observed x) = (revision is x.revision) ∷ (payload is x.handle) ∷ []
value_lines (R.Count n) = (count is n) ∷ []

abbrev pub answer_lines : Response → List KeyValue
answer_lines r = (answer is response_number r) ∷ value_lines r

-- the text: no leading zeros

abbrev pub lines_text : List KeyValue → List ℕ
lines_text [] = []
lines_text (l ∷ ls) = line_text l.key l.value ++ lines_text ls

unfoldable pub answer_text : Response → List ℕ
answer_text r = lines_text (answer_lines r)

-- one answer after the other

abbrev pub answers_text : List Response → List ℕ
answers_text [] = []
answers_text (r ∷ rs) = answer_text r ++ answers_text rs
