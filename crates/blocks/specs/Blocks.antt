-- Command blocks: what a command's text is, what reading one finds, and the one that is written.
-- Assumes nothing.
use Rattle.std.specs.Prelude.{ℕ, ◌≡◌, List, [], ◌∷◌, ◌++◌, get_or}
use Rattle.rules.specs.Probes.{publish, adopt, acquire, release, revoke, replace, reclaim, read, observe, resolve, count}
use Rattle.rules.specs.declared.Command.{Command}
use Rattle.rules.specs.declared.Command.TheVariants.{Publish, Adopt, Acquire, Release, Revoke, Replace, Reclaim, Read, Observe, Resolve, Count}
use Rattle.text.specs.Reading.{Reading, then_read}
use Rattle.text.specs.Ops.{OpLine, op_line_of, op_at}
use Rattle.text.specs.Keys.{key_rows}
use Rattle.blocks.specs.Saying.{said}
use Rattle.blocks.specs.Fields.{Fields, Fitting, fields_at, fields_text}

-- a command's row of the op table and of the key table, and the values of its keys in order, 0 where there is no key

abbrev pub row_of : Command → ℕ
row_of (Publish o g q v) = 0
row_of (Adopt p o g) = 1
row_of (Acquire p o g) = 2
row_of (Release i) = 3
row_of (Revoke p) = 4
row_of (Replace p o g v) = 5
row_of (Reclaim p) = 6
row_of (Read i) = 7
row_of (Observe p) = 8
row_of (Resolve q) = 9
row_of Count = 10

abbrev pub values_of : Command → List ℕ
values_of (Publish o g q v) = o.0 ∷ g ∷ q.0 ∷ v ∷ 0 ∷ []
values_of (Adopt p o g) = p.0 ∷ o.0 ∷ g ∷ 0 ∷ 0 ∷ []
values_of (Acquire p o g) = p.0 ∷ o.0 ∷ g ∷ 0 ∷ 0 ∷ []
values_of (Release i) = i.0 ∷ 0 ∷ 0 ∷ 0 ∷ 0 ∷ []
values_of (Revoke p) = p.0 ∷ 0 ∷ 0 ∷ 0 ∷ 0 ∷ []
values_of (Replace p o g v) = p.0 ∷ o.0 ∷ g ∷ v ∷ 0 ∷ []
values_of (Reclaim p) = p.0 ∷ 0 ∷ 0 ∷ 0 ∷ 0 ∷ []
values_of (Read i) = i.0 ∷ 0 ∷ 0 ∷ 0 ∷ 0 ∷ []
values_of (Observe p) = p.0 ∷ 0 ∷ 0 ∷ 0 ∷ 0 ∷ []
values_of (Resolve q) = q.0 ∷ 0 ∷ 0 ∷ 0 ∷ 0 ∷ []
values_of Count = 0 ∷ 0 ∷ 0 ∷ 0 ∷ 0 ∷ []

-- the keys of a row
abbrev pub keys_of : ℕ → List ℕ
keys_of row = get_or key_rows row []

-- a command's text: the op line of its row, then the lines of that row's keys with its values
pub record BlockText (w : List ℕ) (c : Command) : Type 0 where
  pub op : List ℕ
  pub lines : List ℕ
  pub names : OpLine op (row_of c)
  pub values : Fields (keys_of (row_of c)) lines (values_of c)
  pub text : w ≡ op ++ lines

-- the command of a row with the values at its places

abbrev pub commands : (ℕ → ℕ) → List Command
commands v =
    publish (v 0) (v 1) (v 2) (v 3)
    ∷ adopt (v 0) (v 1) (v 2)
    ∷ acquire (v 0) (v 1) (v 2)
    ∷ release (v 0)
    ∷ revoke (v 0)
    ∷ replace (v 0) (v 1) (v 2) (v 3)
    ∷ reclaim (v 0)
    ∷ read (v 0)
    ∷ observe (v 0)
    ∷ resolve (v 0)
    ∷ count
    ∷ []

unfoldable pub command_of : ℕ → List ℕ → Command
command_of row vs = get_or (commands (λ k. get_or vs k 0)) row count

-- what reading finds: the op line's row, and then the values of that row's keys

unfoldable pub lines_at : ℕ → List ℕ → ℕ → Reading Command
lines_at row s at = said (command_of row) (fields_at (keys_of row) s at)

unfoldable pub block_at : List ℕ → ℕ → Reading Command
block_at s at = then_read (op_at s at) (λ row. lines_at row s)

-- a command whose values fit their keys' widths

abbrev pub InWidth : Command → Type 0
InWidth c = Fitting (keys_of (row_of c)) (values_of c)

-- what is written: no leading zeros
unfoldable pub block_of : Command → List ℕ
block_of c = op_line_of (row_of c) ++ fields_text (keys_of (row_of c)) (values_of c)

-- one block after the other

abbrev pub blocks_text : List Command → List ℕ
blocks_text [] = []
blocks_text (c ∷ cs) = block_of c ++ blocks_text cs
