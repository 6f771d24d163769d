-- The block reader reads exactly the commands' texts.
-- Assumes nothing.
use Prim.Native.Nat.{ℕ, ◌+◌, ◌≤◌, ◌<◌}
use mathlib.Core.Path.{◌≡◌, refl, sym, ap, ◌∙◌, subst}
use mathlib.Core.Bool.{false, not}
use mathlib.Core.List.{List, [], ◌∷◌, ◌++◌}
use native.Mathlib.Omega.{arith}
use lib.ListN.{length, drop, get_or, length-append}
use lib.Dec.{ltb}
use borrow.Author.Tests.{not-true, ltb-true, ltb-false}
use Rattle.lists.specs.Every.{Every}
use Rattle.lists.specs.Search.{some_pass}
use Rattle.lists.proofs.Every.{below_at, every_map, every_place}
use Rattle.lists.proofs.Search.{none_of}
use Rattle.lists.proofs.Append.{append_cancel}
use Rattle.rules.specs.declared.Command.{Command}
use Rattle.std.specs.Prelude.{Ok}
use Rattle.text.specs.Reading.{Reading, Form, Means, Exact, Then}
use Rattle.text.specs.Ops.{op_lines, OpLine, op_line_of, op_at}
use Rattle.text.specs.Keys.{lease, key_rows}
use Rattle.text.proofs.Reading.{means_same, only, shows, within}
use Rattle.text.proofs.Sequence.{then_exact}
use Rattle.text.proofs.Ops.{op_exact}
use Rattle.blocks.specs.Saying.{Saying}
use Rattle.blocks.specs.Fields.{Fields, fields_at, fields_text}
use Rattle.blocks.specs.Blocks.{row_of, values_of, keys_of, BlockText, command_of, lines_at, block_at, InWidth, block_of, blocks_text}
use Rattle.blocks.proofs.Saying.{saying_exact, saying_some}
use Rattle.blocks.proofs.Fields.{Known, fields_exact, fields_some, fields_fit, fields_form}
use Rattle.blocks.proofs.Commands.{command_of_values, row_below, of_command}

-- every key of the table is a command's key, or none
pub keys_known : (row : ℕ) → Known (keys_of row)
keys_known =
    every_place (λ i codes. Known codes) key_rows [] (λ i. tt)
    (λ i h. every_map (λ c. ltb lease c ≡ false) (λ c. c ≤ lease) (λ c e. ltb-false lease c e) (keys_of i)
    (none_of (ltb lease) (keys_of i) (not-true (some_pass (ltb lease) (keys_of i)) (below_at (λ i. not (some_pass (ltb lease) (keys_of i))) (length key_rows) refl i h))))

-- the same text, told in the order of reading: an op line says a row, and the key lines of that row then say a command
abbrev Told : Form Command
Told = Then OpLine (λ row. Saying (command_of row) (Fields (keys_of row)))

told_text : (w : List ℕ) (c : Command) → Told w c → BlockText w c
told_text w c t =
    let a = t.after in
    let p = of_command t.says a.says t.form.below (fields_fit (keys_of t.says) t.second a.says a.form) in
    let r : t.says ≡ row_of c = sym p.0 ∙ ap row_of a.meant in
    let v : a.says ≡ values_of c = sym p.1 ∙ ap values_of a.meant in
    record {
      op = t.first;
      lines = t.second;
      names = subst (OpLine t.first) r t.form;
      values = subst (Fields (keys_of (row_of c)) t.second) v (subst (λ (row : ℕ). Fields (keys_of row) t.second a.says) r a.form);
      text = t.text;
    }

text_told : (w : List ℕ) (c : Command) → BlockText w c → Told w c
text_told w c b =
    record {
      first = b.op;
      says = row_of c;
      second = b.lines;
      form = b.names;
      after = record { says = values_of c; form = b.values; meant = command_of_values c };
      text = b.text;
    }

told_exact : Exact Told block_at
unfolding block_at lines_at
told_exact =
    then_exact OpLine (λ row. Saying (command_of row) (Fields (keys_of row))) op_at lines_at op_exact
    (λ row. saying_exact (command_of row) (Fields (keys_of row)) (fields_at (keys_of row)) (fields_exact (keys_of row) (keys_known row)))
    (λ row. saying_some (command_of row) (Fields (keys_of row)) (fields_some (keys_of row) (keys_known row)))

pub block_exact : Exact BlockText block_at
block_exact =
    record {
      apart = λ w v a b rest left f g. told_exact.apart w v a b rest left (text_told w a f) (text_told v b g);
      means = λ s at. means_same Told BlockText text_told told_text (drop at s) at (block_at s at) (told_exact.means s at);
    }

-- no block is empty: its op line is not

op_some : (w : List ℕ) (r : ℕ) → OpLine w r → 0 < length w
op_some w r f =
    omega (arith, ltb-true 0 (length (get_or op_lines r [])) (below_at (λ i. ltb 0 (length (get_or op_lines i []))) (length op_lines) refl r f.below), ap length f.text)

block_some : (c : Command) → BlockText [] c → ⊥
block_some c b = omega (arith, op_some b.op (row_of c) b.names, ap length b.text, length-append b.op b.lines)

-- what it answers has the meaning, and no other answer has
module _ (s : List ℕ) (at : ℕ) where
  pub block_shows : (r : Reading Command) → block_at s at ≡ r → Means BlockText (drop at s) at r
  block_shows r e = shows BlockText block_at block_exact s at r e

  pub block_only : (r : Reading Command) → Means BlockText (drop at s) at r → block_at s at ≡ r
  block_only r m = only BlockText block_at block_exact s at r m

  -- each text of a command is read, whatever stands after it
  pub block_reads : (w rest : List ℕ) (c : Command) → BlockText w c → drop at s ≡ w ++ rest → block_at s at ≡ Ok (c, at + length w)
  block_reads w rest c f e = block_only (Ok (c, at + length w)) (record { text = w; says = c; rest = rest; form = f; here = e }, refl, refl)

  -- what is read lies within the input, and its values fit their keys' widths

  pub block_next : (c : Command) (next : ℕ) → block_at s at ≡ Ok (c, next) → (at < next) × (next ≤ length s)
  block_next c next e = within BlockText block_at block_exact s at block_some c next e

  pub block_fits : (c : Command) (next : ℕ) → block_at s at ≡ Ok (c, next) → InWidth c
  block_fits c next e =
      let m = block_shows (Ok (c, next)) e in
      let t = m.0 in
      subst InWidth m.1 (fields_fit (keys_of (row_of t.says)) t.form.lines (values_of t.says) t.form.values)

-- every command whose values fit can be written, and is read back

pub block_of_text : (c : Command) → InWidth c → BlockText (block_of c) c
unfolding block_of op_line_of
block_of_text c h =
    record {
      op = op_line_of (row_of c);
      lines = fields_text (keys_of (row_of c)) (values_of c);
      names = record { below = row_below c; text = refl };
      values = fields_form (keys_of (row_of c)) (values_of c) (keys_known (row_of c)) h;
      text = refl;
    }

pub block_of_read : (c : Command) → InWidth c → (s : List ℕ) (at : ℕ) (rest : List ℕ) → drop at s ≡ block_of c ++ rest → block_at s at ≡ Ok (c, at + length (block_of c))
block_of_read c h s at rest e = block_reads s at (block_of c) rest c (block_of_text c h) e

not_empty : (c : Command) → InWidth c → (rest : List ℕ) → [] ≡ block_of c ++ rest → ⊥
not_empty c h rest e =
    let b = block_of_text c h in
    omega (arith, op_some b.op (row_of c) b.names, ap length b.text, length-append b.op b.lines, ap length e, length-append (block_of c) rest)

-- texts of commands one after the other can be told apart: equal ones are of the same commands
pub blocks_apart : (cs ds : List Command) → Every InWidth cs → Every InWidth ds → blocks_text cs ≡ blocks_text ds → cs ≡ ds
blocks_apart [] [] h k e = refl
blocks_apart [] (d ∷ ds) h k e = absurd (not_empty d k.0 (blocks_text ds) e)
blocks_apart (c ∷ cs) [] h k e = absurd (not_empty c h.0 (blocks_text cs) (sym e))
blocks_apart (c ∷ cs) (d ∷ ds) h k e =
    let p = block_exact.apart (block_of c) (block_of d) c d (blocks_text cs) (blocks_text ds) (block_of_text c h.0) (block_of_text d k.0) e in
    let q = append_cancel (block_of d) (blocks_text cs) (blocks_text ds) (ap (λ (w : List ℕ). w ++ blocks_text cs) (sym p.0) ∙ e) in
    let r = blocks_apart cs ds h.1 k.1 q in
    let s = p.1 in
    cc
