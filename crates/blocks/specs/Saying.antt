-- A form whose texts are taken to say something else: a function of what they say.
-- Assumes nothing.
use Rattle.std.specs.Prelude.{ℕ, ◌≡◌, List, Ok, Err}
use Rattle.text.specs.Reading.{Reading, Form}

module _ {A B : Type 0} where
  pub record Saying (f : A → B) (F : Form A) (w : List ℕ) (b : B) : Type 0 where
    pub says : A
    pub form : F w says
    pub meant : f says ≡ b

  abbrev pub said : (A → B) → Reading A → Reading B
  said f (Err e) = Err e
  said f (Ok (a, next)) = Ok (f a, next)
