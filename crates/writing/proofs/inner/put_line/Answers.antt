-- `put_line` meets its contract: the key, the digits in the part after it, and the line feed.
-- Assumes nothing.
use native.Mathlib.Omega.{arith}
use Rattle.writing.specs.AnswerKeys.{code_of}
use Rattle.writing.proofs.Lines.{line_length, digits_room, feed_within, feed_put}
use Rattle.writing.proofs.inner.put_line.Goals as goal

pub put_key-a-requires : goal.put_key-a-requires
put_key-a-requires c =
    let l = line_length (code_of c.args.key) c.args.n in
    omega (arith, c.requires)

pub put_number-b-requires : goal.put_number-b-requires
put_number-b-requires c =
    digits_room (code_of c.args.key) c.args.n c.args.out.now c.requires c.put_key-a.ensures

pub bounds-out-e : goal.bounds-out-e
bounds-out-e c =
    feed_within (code_of c.args.key) c.args.n c.args.out.now c.requires c.put_key-a.ensures c.put_number-b.ensures

pub returns : goal.returns
returns c =
    feed_put (code_of c.args.key) c.args.n c.args.out.now c.requires c.put_key-a.ensures c.put_number-b.ensures
