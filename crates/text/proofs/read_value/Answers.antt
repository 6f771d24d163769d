-- `read_value` meets its contract: at each turn the rest of the input decides.
-- Assumes nothing.
use native.Mathlib.Omega.{arith}
use Rattle.text.proofs.ValueTurns.{scan_starts, scan_ends, scan_feed_first, scan_feed, scan_stops, scan_goes_on}
use Rattle.text.proofs.read_value.Goals as goal

pub loop-i-init : goal.loop-i-init
loop-i-init c =
    scan_starts _ _ _ _ (omega arith)

pub returns-then-n-eq0 : goal.returns-then-n-eq0
returns-then-n-eq0 c =
    scan_feed_first c.loop-i.invariant (omega arith) (omega arith) (omega arith)

pub returns-then-b-eq10 : goal.returns-then-b-eq10
returns-then-b-eq10 c =
    scan_feed c.loop-i.invariant (omega arith) (omega arith) (λ z. omega arith)

pub returns-then-n-eq20 : goal.returns-then-n-eq20
returns-then-n-eq20 c =
    scan_stops c.loop-i.invariant (omega arith) (λ z. omega arith) (λ o. omega (arith, o.room, o.digit, o.fits))

pub returns-then-b-lt48 : goal.returns-then-b-lt48
returns-then-b-lt48 c =
    scan_stops c.loop-i.invariant (omega arith) (λ z. omega arith) (λ o. omega (arith, o.room, o.digit, o.fits))

pub returns-then-b-gt57 : goal.returns-then-b-gt57
returns-then-b-gt57 c =
    scan_stops c.loop-i.invariant (omega arith) (λ z. omega arith) (λ o. omega (arith, o.room, o.digit, o.fits))

pub returns-then-lim-d : goal.returns-then-lim-d
returns-then-lim-d c =
    scan_stops c.loop-i.invariant (omega arith) (λ z. omega arith) (λ o. omega (arith, o.room, o.digit, o.fits))

pub returns-then-lim-d-2 : goal.returns-then-lim-d-2
returns-then-lim-d-2 c =
    scan_stops c.loop-i.invariant (omega arith) (λ z. omega arith) (λ o. omega (arith, o.room, o.digit, o.fits))

pub loop-i-preserved : goal.loop-i-preserved
loop-i-preserved c =
    scan_goes_on c.loop-i.invariant (omega arith) (λ z. omega arith)
    (record { room = omega arith; digit = (omega arith, omega arith); fits = omega arith }) _ _ (omega arith) (omega arith)

pub returns : goal.returns
returns c =
    scan_ends c.loop-i.invariant (omega arith)
