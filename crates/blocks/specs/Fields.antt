-- Key lines one after the other: what they are, what reading them finds, and the lines that are written.
-- Assumes nothing.
use Rattle.std.specs.Prelude.{ℕ, zero, suc, ◌≤◌, ◌≡◌, cond, List, [], ◌∷◌, ◌++◌, eqb, Ok}
use Rattle.text.specs.Reading.{Reading, Form, Then, then_read}
use Rattle.text.specs.Keys.{no_key, key_limit}
use Rattle.text.specs.Lines.{KeyLine, key_line_at, line_text}
use Rattle.blocks.specs.Saying.{Saying, said}

-- a key's line says its value; no key has no line, and the value 0

abbrev pub Field : ℕ → Form ℕ
Field zero w v = (w ≡ []) × (v ≡ 0)
Field (suc code) w v = KeyLine (suc code) w v

-- the lines of the keys in order say their values

abbrev pub Fields : List ℕ → Form (List ℕ)
Fields [] w vs = (w ≡ []) × (vs ≡ [])
Fields (c ∷ cs) w vs = Then (Field c) (λ v. Saying (λ us. v ∷ us) (Fields cs)) w vs

-- each value fits its key's width, and is 0 where there is no key

abbrev pub Fitting : List ℕ → List ℕ → Type 0
Fitting [] [] = Unit {0}
Fitting [] (v ∷ vs) = ⊥
Fitting (c ∷ cs) [] = ⊥
Fitting (c ∷ cs) (v ∷ vs) = (v ≤ key_limit c) × Fitting cs vs

-- what reading finds

unfoldable pub field_at : ℕ → List ℕ → ℕ → Reading ℕ
field_at code s at = cond (eqb code no_key) (Ok (0, at)) (key_line_at code s at)

unfoldable pub fields_at : List ℕ → List ℕ → ℕ → Reading (List ℕ)
fields_at [] s at = Ok ([], at)
fields_at (c ∷ cs) s at = then_read (field_at c s at) (λ v next. said (λ us. v ∷ us) (fields_at cs s next))

-- what is written: values without leading zeros

abbrev pub field_text : ℕ → ℕ → List ℕ
field_text code v = cond (eqb code no_key) [] (line_text code v)

abbrev pub fields_text : List ℕ → List ℕ → List ℕ
fields_text [] vs = []
fields_text (c ∷ cs) [] = []
fields_text (c ∷ cs) (v ∷ vs) = field_text c v ++ fields_text cs vs
