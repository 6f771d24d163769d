-- What the loop of `Pairs::fmt` keeps: the pairs so far are told.
use denote.Shadow.{shadow}
use denote.Text.{Utf8}
use Rattle.std.proofs.Common.{◌≡◌}
use Rattle.std.specs.Fmt.{HasWritten, IsPlainFormatter}
use Rattle.named.specs.Told.{pairs_text}
use Rattle.named.proofs.Telling.{Named, so_far, lead_after}
use Rattle.named.proofs.told.PairsDisplay.fmt.Given as goal

abbrev pub invariant-loop-k : goal.invariant-loop-k
invariant-loop-k g l =
    shadow (Utf8 l.lead)
    × Named l.keys l.k
    × (l.lead ≡ lead_after (so_far l.keys l.values l.k) l.between)
    × (IsPlainFormatter l.initial.f → HasWritten g.W.Write.write_str_gives l.initial.f (pairs_text l.sign l.between (so_far l.keys l.values l.k)) l.f)
