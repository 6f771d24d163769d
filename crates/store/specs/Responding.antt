-- An answer as a response, by what a refusal is told as, and what any other answer.
-- Assumes nothing.
use Rattle.std.specs.Prelude.{Result, Ok, Err}
use Rattle.rules.specs.declared.Response.{Response}

abbrev pub told : {A E : Type 0} → (E → Response) → (A → Response) → Result A E → Response
told n f (Ok x) = f x
told n f (Err e) = n e
