-- What a run reads and writes: the texts of commands one after the other, and the answers that the rows give them one after the other.
-- Assumes nothing.
use Rattle.std.specs.Prelude.{ℕ, ◌≡◌, List, [], ◌∷◌, ◌++◌, length, take}
use Rattle.rules.specs.Limits.{Limits}
use Rattle.rules.specs.Table.{Store}
use Rattle.rules.specs.Rows.{step}
use Rattle.rules.specs.Responses.{respond}
use Rattle.rules.specs.declared.Command.{Command}
use Rattle.rules.specs.declared.Response.{Response}
use Rattle.blocks.specs.Blocks.{BlockText}
use Rattle.blocks.specs.Answers.{answers_text}
use Rattle.trace.specs.Run.{Progress}

-- w is a text of c, and after it what rest says
pub record BlockThen (c : Command) (rest : List ℕ → Type 0) (w : List ℕ) : Type 0 where
  pub block : List ℕ
  pub others : List ℕ
  pub form : BlockText block c
  pub then : rest others
  pub text : w ≡ block ++ others

-- w is texts of these commands, one after the other
abbrev pub Blocks : List Command → List ℕ → Type 0
Blocks [] w = w ≡ []
Blocks (c ∷ cs) w = BlockThen c (Blocks cs) w

-- the answers of the rows to commands, from a table on; and the table after them

abbrev pub responses : Limits → Store → List Command → List Response
responses L s [] = []
responses L s (c ∷ cs) = respond L s c ∷ responses L (step L s c).table cs

abbrev pub after : Limits → Store → List Command → Store
after L s [] = s
after L s (c ∷ cs) = after L (step L s c).table cs

-- what blocks so far, of a trace run from the table s, come to
pub record Followed (L : Limits) (trace : List ℕ) (s : Store) (g : Progress Store) : Type 0 where
  pub commands : List Command
  pub reads : Blocks commands (take g.read trace)
  pub writes : g.text ≡ answers_text (responses L s commands)
  pub leaves : g.table ≡ after L s commands
  pub counts : g.blocks ≡ length commands
