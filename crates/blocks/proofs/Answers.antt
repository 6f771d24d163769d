-- Answers: their lengths, and what their lines say.
-- Assumes nothing.
use Prim.Native.Nat.{ℕ, ◌≤◌}
use mathlib.Core.Path.{◌≡◌, refl}
use mathlib.Core.List.{◌∷◌, map}
use native.Mathlib.Omega.{arith}
use lib.ListN.{length, length-append}
use Rattle.rules.specs.Responses.{response_number, response_values}
use Rattle.rules.specs.declared.Response.{Response}
use Rattle.rules.specs.declared.Response.TheVariants as R
use Rattle.text.specs.Digits.{digits_in, digits}
use Rattle.text.specs.Keys.{answer, id, lease, payload, revision, count, wide, key_text}
use Rattle.text.specs.Lines.{line_text}
use Rattle.writing.proofs.Lines.{line_most}
use Rattle.blocks.specs.Answers.{answer_lines, answer_text}

-- the longest line of each key

pub answer_line : length (line_text answer 0) ≡ 9
unfolding line_text key_text digits digits_in
answer_line = refl

pub answer_most : (n : ℕ) → length (line_text answer n) ≤ 28
unfolding key_text
answer_most n = line_most answer n

pub id_most : (n : ℕ) → length (line_text id n) ≤ 24
unfolding key_text
id_most n = line_most id n

pub lease_most : (n : ℕ) → length (line_text lease n) ≤ 27
unfolding key_text
lease_most n = line_most lease n

pub payload_most : (n : ℕ) → length (line_text payload n) ≤ 29
unfolding key_text
payload_most n = line_most payload n

pub revision_most : (n : ℕ) → length (line_text revision n) ≤ 30
unfolding key_text
revision_most n = line_most revision n

pub count_most : (n : ℕ) → length (line_text count n) ≤ 27
unfolding key_text
count_most n = line_most count n

-- every answer is at most 92 bytes long: 96 bytes of room are enough
pub answer_fits : (r : Response) → length (answer_text r) ≤ 92
unfolding answer_text
answer_fits (R.Refused e) = simp length-append (omega (arith, answer_most (response_number (R.Refused e))))
answer_fits (R.Returned e h) = simp length-append (omega (arith, answer_most (response_number (R.Returned e h))))
answer_fits R.Done = simp length-append (omega (arith, answer_line))
answer_fits (R.Id p) = simp length-append (omega (arith, answer_line, id_most p.0))
answer_fits (R.Lease i) = simp length-append (omega (arith, answer_line, lease_most i.0))
answer_fits (R.Handle h) = simp length-append (omega (arith, answer_line, payload_most h))
answer_fits (R.Read x) =
    simp length-append (omega (arith, answer_line, id_most x.id.0, revision_most x.revision, payload_most x.handle))
answer_fits (R.Observed x) = simp length-append (omega (arith, answer_line, revision_most x.revision, payload_most x.handle))
answer_fits (R.Count n) = simp length-append (omega (arith, answer_line, count_most n))

-- and one is
pub answer_fits_tightly : length (answer_text (R.Read (record { id = record { 0 = wide }; revision = wide; handle = wide }))) ≡ 92
unfolding answer_text line_text key_text digits digits_in
answer_fits_tightly = refl

-- the lines' values are the number and the response's values
pub lines_say : (r : Response) → map (λ l. l.value) (answer_lines r) ≡ response_number r ∷ response_values r
lines_say (R.Refused e) = refl
lines_say (R.Returned e h) = refl
lines_say R.Done = refl
lines_say (R.Id p) = refl
lines_say (R.Lease i) = refl
lines_say (R.Handle h) = refl
lines_say (R.Read x) = refl
lines_say (R.Observed x) = refl
lines_say (R.Count n) = refl
