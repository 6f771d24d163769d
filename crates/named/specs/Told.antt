-- What is told of a command and of an answer: keys with their values, and their words.
-- Assumes nothing.
use Rattle.std.specs.Prelude.{ℕ, cond, List, [], ◌∷◌, ◌++◌, eqb, get_or, flat_map, ◌-◌, length, replicate}
use Rattle.std.specs.Fmt.{decimal}
use Rattle.rules.specs.declared.Command.{Command}
use Rattle.text.specs.Keys.{no_key, key_words}
use Rattle.text.specs.Ops.{op_words}
use Rattle.blocks.specs.Blocks.{row_of, values_of, keys_of}
use Rattle.blocks.specs.Answers.{KeyValue, ◌is◌}

-- keys and values side by side, up to the first place without a key

abbrev pub key_values : List ℕ → List ℕ → List KeyValue
key_values [] vs = []
key_values (k ∷ ks) [] = []
key_values (k ∷ ks) (v ∷ vs) = cond (eqb k no_key) [] ((k is v) ∷ key_values ks vs)

-- a command's keys, with its values
abbrev pub command_lines : Command → List KeyValue
command_lines c = key_values (keys_of (row_of c)) (values_of c)

-- a key by its word, its sign and its value
abbrev pub pair_text : List ℕ → KeyValue → List ℕ
pair_text sign l = get_or key_words l.key [] ++ sign ++ decimal l.value

-- keys with their values, joined
abbrev pub pairs_text : List ℕ → List ℕ → List KeyValue → List ℕ
pairs_text sign between [] = []
pairs_text sign between (l ∷ ls) = pair_text sign l ++ flat_map (λ m. between ++ pair_text sign m) ls

-- a word, and blanks up to a width
abbrev pub filled : ℕ → List ℕ → List ℕ
filled width w = w ++ replicate (width - length w) 32

-- a command: its op, filled up to a width, and after a blank its keys with their values
abbrev pub words_text : ℕ → List ℕ → List ℕ → Command → List ℕ
words_text width sign between c =
    filled width (get_or op_words (row_of c) []) ++ 32 ∷ pairs_text sign between (command_lines c)
