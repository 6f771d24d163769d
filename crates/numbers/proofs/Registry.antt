-- The number of an answer is that of the rules' answer which the contract fixes.
-- Assumes nothing.
use mathlib.Core.Path.{◌≡◌, refl}
use Rattle.rules.specs.Answers.{Answer, refused, done, answer_number}
use Rattle.registry.specs.Answers.{result_of}
use Rattle.numbers.specs.Registry.{result_number}

pub result_same : {A Beside : Type 0} (a : Answer A Beside) → result_number (result_of a) ≡ answer_number a
result_same (refused r b) = refl
result_same (done x) = refl
