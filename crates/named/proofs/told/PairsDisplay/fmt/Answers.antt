-- `Pairs::fmt` writes its pairs: a turn tells one more, and a place without a key ends them.
use mathlib.Core.Path.{ap}
use Rattle.std.proofs.Common.{rules, ◌≡◌, false, get_or, eqb}
use Rattle.std.proofs.Output.{has_written_append, has_written_of_eq}
use Rattle.text.specs.Keys.{no_key}
use Rattle.named.specs.Told.{pairs_text}
use Rattle.named.proofs.Telling.{so_far-end, Named-more, lead-one_more, text-one_more}
use Rattle.named.proofs.told.PairsDisplay.fmt.Goals as goal

pub returns-then-code-eq0-clause-writes : goal.returns-then-code-eq0-clause-writes
returns-then-code-eq0-clause-writes g c p e =
    has_written_of_eq _ _ _ _ _ (ap (pairs_text c.args.self.now.sign.now c.args.self.now.between.now) (so_far-end c.args.self.now.keys c.args.self.now.values c.loop-k.k c.loop-k.invariant.1 (ap (λ n. eqb n no_key) c.if-code-eq0.true))) (c.loop-k.invariant.3 p)

pub loop-k-preserved : goal.loop-k-preserved
loop-k-preserved g c =
    let has : eqb (get_or c.args.self.now.keys c.loop-k.k 0) no_key ≡ false = search rules in (
      search rules,
      Named-more c.args.self.now.keys c.loop-k.k c.loop-k.invariant.1 has,
      lead-one_more c.args.self.now.keys c.args.self.now.values c.loop-k.k c.loop-k.invariant.1 (search rules) (search rules) has c.args.self.now.sign.now c.args.self.now.between.now,
      λ p. has_written_of_eq _ _ _ _ _ (text-one_more c.args.self.now.keys c.args.self.now.values c.loop-k.k c.loop-k.invariant.1 (search rules) (search rules) has c.args.self.now.sign.now c.args.self.now.between.now c.loop-k.invariant.2) (has_written_append _ _ _ _ _ _ (c.loop-k.invariant.3 p) (search rules)),
    )
