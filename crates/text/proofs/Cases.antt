-- Document 01's cases of the text, computed on the definitions.
-- Assumes nothing.
use mathlib.Core.Path.{◌≡◌, refl}
use Rattle.std.specs.Prelude.{Ok, Err}
use Rattle.lists.specs.Letters.{letters}
use Rattle.text.specs.Digits.{digits_in, digits}
use Rattle.text.specs.Value.{scan, value_at}
use Rattle.text.specs.Words.{compared, word_at}
use Rattle.text.specs.Ops.{row_at, first_row, op_at}
use Rattle.text.specs.Keys.{port, id, count, key_text, key_limit}
use Rattle.text.specs.Lines.{line_at, key_line_at, line_text}
use Rattle.text.specs.declared.Misread.TheVariants.{Unfinished, Wrong}

key_lines :
    (key_line_at id (letters "id=007\n") 0 ≡ Ok (7, 7))
    × (key_line_at id (letters "id=18446744073709551615\n") 0 ≡ Ok (18446744073709551615, 24))
    × (key_line_at id (letters "id=18446744073709551616\n") 0 ≡ Err Wrong)
    × (key_line_at id (letters "id=00000000000000000007\n") 0 ≡ Ok (7, 24))
    × (key_line_at id (letters "id=000000000000000000007\n") 0 ≡ Err Wrong)
    × (key_line_at port (letters "port=4294967295\n") 0 ≡ Ok (4294967295, 16))
    × (key_line_at port (letters "port=4294967296\n") 0 ≡ Err Wrong)
    × (key_line_at port (letters "port=7") 0 ≡ Err Unfinished)
    × (key_line_at port (letters "por") 0 ≡ Err Unfinished)
    × (key_line_at port (letters "port=\n") 0 ≡ Err Wrong)
    × (key_line_at port (letters "port= 7\n") 0 ≡ Err Wrong)
    × (key_line_at port (letters "id=7\n") 0 ≡ Err Wrong)
unfolding key_line_at line_at word_at compared key_text value_at scan key_limit
key_lines = (refl, refl, refl, refl, refl, refl, refl, refl, refl, refl, refl, refl)

op_lines :
    (op_at (letters "op=publish\nowner=4\n") 0 ≡ Ok (0, 11))
    × (op_at (letters "id=0\nop=count\n") 5 ≡ Ok (10, 14))
    × (op_at (letters "op=re") 0 ≡ Err Unfinished)
    × (op_at (letters "op=count") 0 ≡ Err Unfinished)
    × (op_at (letters "op=counts\n") 0 ≡ Err Wrong)
    × (op_at (letters "") 7 ≡ Err Unfinished)
unfolding op_at first_row row_at word_at compared
op_lines = (refl, refl, refl, refl, refl, refl)

written : (line_text count 0 ≡ letters "count=0\n") × (line_text id 900 ≡ letters "id=900\n")
unfolding line_text key_text digits digits_in
written = (refl, refl)
