-- What a command and a response are told as, by the case that they are.
-- Assumes nothing.
use Prim.Native.Nat.{ℕ}
use mathlib.Core.Path.{◌≡◌, refl}
use Rattle.rules.specs.Responses.{response_number}
use Rattle.rules.specs.declared.Command.{Command}
use Rattle.rules.specs.declared.Response.{Response}
use Rattle.blocks.specs.Blocks.{row_of, values_of}
use Rattle.blocks.specs.Answers.{value_lines}

pub asked_as : {a c : Command} → a ≡ c → (row_of c ≡ row_of a) × (values_of c ≡ values_of a)
asked_as e = rw e (refl, refl)

pub answered_as : {a r : Response} → a ≡ r → (n : ℕ) → n ≡ response_number r → (n ≡ response_number a) × (value_lines r ≡ value_lines a)
answered_as e n h = rw e (h, refl)
