-- What a reader of text should answer. It looks at the rest of the input for a text of a form, and answers in one of three ways.
-- Assumes nothing.
use Rattle.std.specs.Prelude.{ℕ, ◌+◌, ◌≡◌, List, ◌++◌, length, drop, Result, Ok, Err}
use Rattle.text.specs.declared.Misread.{Misread}
use Rattle.text.specs.declared.Misread.TheVariants.{Unfinished, Wrong}

-- what the text says and the place after it, or why nothing was read
abbrev pub Reading : Type 0 → Type 0
Reading A = Result (A × ℕ) Misread

-- a form: which texts there are, and what each says
abbrev pub Form : Type 0 → Type 1
Form A = List ℕ → A → Type 0

module _ {A : Type 0} where
  -- a text of the form stands at the start of xs
  pub record Stands (F : Form A) (xs : List ℕ) : Type 0 where
    pub text : List ℕ
    pub says : A
    pub rest : List ℕ
    pub form : F text says
    pub here : xs ≡ text ++ rest

  -- all of xs begins a text of the form: more bytes would make it one
  pub record Begins (F : Form A) (xs : List ℕ) : Type 0 where
    pub more : List ℕ
    pub says : A
    pub form : F (xs ++ more) says

  -- what each answer means of the rest of the input, xs, which starts at the place at
  abbrev pub Means : Form A → List ℕ → ℕ → Reading A → Type 0
  Means F xs at (Err Unfinished) = (Stands F xs → ⊥) × Begins F xs
  Means F xs at (Err Wrong) = (Stands F xs → ⊥) × (Begins F xs → ⊥)
  Means F xs at (Ok (a, next)) = (t : Stands F xs) × (t.says ≡ a) × (at + length t.text ≡ next)

  -- a form whose texts can be told apart: none begins another, and each says one thing
  abbrev pub Apart : Form A → Type 0
  Apart F =
      (w v : List ℕ) (a b : A) (rest left : List ℕ) → F w a → F v b → w ++ rest ≡ v ++ left → (w ≡ v) × (a ≡ b)

  -- a reader of the form: the texts can be told apart, and at every place of every input its answer has the meaning
  pub record Exact (F : Form A) (read : List ℕ → ℕ → Reading A) : Type 0 where
    pub apart : Apart F
    pub means : (s : List ℕ) (at : ℕ) → Means F (drop at s) at (read s at)

-- a text of one form and after it one of another, which may depend on what the first says

module _ {A B : Type 0} where
  pub record Then (F : Form A) (G : A → Form B) (w : List ℕ) (b : B) : Type 0 where
    pub first : List ℕ
    pub says : A
    pub second : List ℕ
    pub form : F first says
    pub after : G says second b
    pub text : w ≡ first ++ second

  abbrev pub then_read : Reading A → (A → ℕ → Reading B) → Reading B
  then_read (Err e) after = Err e
  then_read (Ok (a, next)) after = after a next
