-- The keys: their codes, words and widths, and the keys of each command.
-- Assumes nothing.
use Rattle.std.specs.Prelude.{ℕ, Bool, List, [], ◌∷◌, ◌++◌, get_or, leb}
use Rattle.lists.specs.Letters.{letters}
use Rattle.lists.specs.Every.{every}

-- the codes: owner to lease stand in commands, payload to count in answers

abbrev pub no_key : ℕ
no_key = 0

abbrev pub owner : ℕ
owner = 1

abbrev pub generation : ℕ
generation = 2

abbrev pub port : ℕ
port = 3

abbrev pub payload : ℕ
payload = 4

abbrev pub id : ℕ
id = 5

abbrev pub lease : ℕ
lease = 6

abbrev pub answer : ℕ
answer = 7

abbrev pub revision : ℕ
revision = 8

abbrev pub count : ℕ
count = 9

-- the word of each code, from 0 on

abbrev pub key_words : List (List ℕ)
key_words =
    []
    ∷ letters "owner"
    ∷ letters "generation"
    ∷ letters "port"
    ∷ letters "payload"
    ∷ letters "id"
    ∷ letters "lease"
    ∷ letters "answer"
    ∷ letters "revision"
    ∷ letters "count"
    ∷ []

abbrev pub command_key : ℕ → Bool
command_key code = every (leb owner code ∷ leb code lease ∷ [])

-- the word and its sign
unfoldable pub key_text : ℕ → List ℕ
key_text code = get_or key_words code [] ++ letters "="

-- the largest value by code: 64 bits, a port 32

abbrev pub wide : ℕ
wide = 18446744073709551615

abbrev pub key_limits : List ℕ
key_limits = 0 ∷ wide ∷ wide ∷ 4294967295 ∷ wide ∷ wide ∷ wide ∷ []

unfoldable pub key_limit : ℕ → ℕ
key_limit code = get_or key_limits code 0

-- the keys of each command in the order of its lines, the commands in the order of the op words; a row is five wide

abbrev pub key_rows : List (List ℕ)
key_rows =
    (owner ∷ generation ∷ port ∷ payload ∷ no_key ∷ [])
    ∷ (id ∷ owner ∷ generation ∷ no_key ∷ no_key ∷ [])
    ∷ (id ∷ owner ∷ generation ∷ no_key ∷ no_key ∷ [])
    ∷ (lease ∷ no_key ∷ no_key ∷ no_key ∷ no_key ∷ [])
    ∷ (id ∷ no_key ∷ no_key ∷ no_key ∷ no_key ∷ [])
    ∷ (id ∷ owner ∷ generation ∷ payload ∷ no_key ∷ [])
    ∷ (id ∷ no_key ∷ no_key ∷ no_key ∷ no_key ∷ [])
    ∷ (lease ∷ no_key ∷ no_key ∷ no_key ∷ no_key ∷ [])
    ∷ (id ∷ no_key ∷ no_key ∷ no_key ∷ no_key ∷ [])
    ∷ (port ∷ no_key ∷ no_key ∷ no_key ∷ no_key ∷ [])
    ∷ (no_key ∷ no_key ∷ no_key ∷ no_key ∷ no_key ∷ [])
    ∷ []

unfoldable pub key_code : ℕ → ℕ → ℕ
key_code row k = get_or (get_or key_rows row []) k 0
