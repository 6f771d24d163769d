-- `known` meets its contract: an identifier below the number of publications was given out.
-- Assumes nothing.
use borrow.Author.Tests.{le-leb, lt-leb}
use Rattle.columns.specs.Verdicts.{known_of}
use Rattle.columns.proofs.inner.search.known.Goals as goal

pub returns-then-publications-i : goal.returns-then-publications-i
unfolding known_of
returns-then-publications-i c =
    rw (le-leb _ _ c.if-publications-i.true)

pub returns : goal.returns
unfolding known_of
returns c =
    rw (lt-leb _ _ c.if-publications-i.false)
