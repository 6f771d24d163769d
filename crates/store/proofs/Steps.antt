-- One command on a sound store, by what its tests come to.
-- Assumes nothing.
use Rattle.std.specs.Prelude.{Result, Ok, Err}
use mathlib.Core.Path.{◌≡◌, ap}
use Rattle.rules.specs.Limits.{Limits}
use Rattle.rules.specs.Answers.{refused, done, stop, pass, verdict}
use Rattle.rules.specs.Commands.{offered}
use Rattle.rules.specs.Columns.{StoreColumns, used, filled}
use Rattle.rules.specs.Sound.{StoreColumnsSound}
use Rattle.rules.specs.Rows.{tests, result, effect, step}
use Rattle.rules.specs.Calls.{laid_out}
use Rattle.rules.specs.declared.Command.{Command}
use Rattle.rules.specs.declared.Refusal.{Refusal}
use Rattle.columns.specs.Verdicts.{verdict_of}
use Rattle.columns.proofs.Verdicts.{told_stop, told_pass}

module _ (L : Limits) (c : StoreColumns) (k : Command) where
  -- a refused command leaves the columns as they were
  pub stopped : StoreColumnsSound L c → {r : Refusal} → verdict (tests L (used c) k) ≡ stop r
      → laid_out L (step L (used c) k) ≡ record { answer = refused r (offered k); table = c }
  unfolding step
  stopped h {r} e = rw e (ap (λ (t : StoreColumns). record { answer = refused r (offered k); table = t }) h.s6)

  -- any other is carried out
  pub carried : verdict (tests L (used c) k) ≡ pass → {t : StoreColumns} → filled L (effect (used c) k) ≡ t
      → laid_out L (step L (used c) k) ≡ record { answer = done (result (used c) k); table = t }
  unfolding step
  carried e g = rw (e, g)

  -- the same from the verdict that the code has in hand
  module _ {w : Result (Unit {0}) Refusal} (e : w ≡ verdict_of (verdict (tests L (used c) k))) where
    pub carried_by : w ≡ Ok tt → {t : StoreColumns} → filled L (effect (used c) k) ≡ t
        → laid_out L (step L (used c) k) ≡ record { answer = done (result (used c) k); table = t }
    carried_by t g = carried (told_pass (verdict (tests L (used c) k)) e t) g

    pub stopped_by : StoreColumnsSound L c → {r : Refusal} → w ≡ Err r
        → laid_out L (step L (used c) k) ≡ record { answer = refused r (offered k); table = c }
    stopped_by h t = stopped h (told_stop (verdict (tests L (used c) k)) e t)
