-- `put_number` meets its contract: a number of one digit, or the digits of its tenth and then its last.
-- Assumes nothing.
use Rattle.std.proofs.Common.{arith}
use Rattle.writing.proofs.NumberTurns.{only_digit, length-more, last_digit}
use Rattle.writing.proofs.inner.+put_number.Goals as goal

pub bounds-out-0 : goal.bounds-out-0
bounds-out-0 t c =
    let p = only_digit c.args.n c.args.out.now c.if-n-lt10.true c.requires in
    omega (arith, c.requires)

pub returns-then-n-lt10 : goal.returns-then-n-lt10
returns-then-n-lt10 t c = only_digit c.args.n c.args.out.now c.if-n-lt10.true c.requires

pub put_number-k-requires : goal.put_number-k-requires
put_number-k-requires t c =
    let l = length-more c.args.n (omega arith) (omega arith) in
    (omega arith, omega (arith, c.requires))

pub bounds-out-k : goal.bounds-out-k
bounds-out-k t c =
    let l = length-more c.args.n (omega arith) (omega arith) in
    omega (arith, c.requires, c.put_number-k.auto.out, c.put_number-k.ensures.0)

pub returns : goal.returns
returns t c =
    last_digit c.args.n (omega arith) (omega arith) c.put_number-k.result c.args.out.now c.put_number-k.new.out c.requires c.put_number-k.ensures
