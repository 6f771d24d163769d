-- The third demand holds.
-- Assumes nothing.
use mathlib.Core.Path.{refl, sym, subst}
use Rattle.rules.specs.Limits.{box}
use Rattle.rules.specs.Table.{empty_store}
use Rattle.rules.specs.Broker.{run}
use Rattle.rules.proofs.KeepsStore.{empty_sound}
use Rattle.rules.proofs.Called.{empty_columns_sound}
use Rattle.demands.specs.Calls.{Sound, stored}
use Rattle.demands.specs.Sessions.{by_the_rules}
use Rattle.demands.specs.Demand3.{Demand3}
use Rattle.demands.proofs.Sessions.{new_is, makes, rows, led, asked_for}
use Rattle.demands.proofs.Texts.{makes_the_calls, tells_a_session}
use Rattle.demands.proofs.Wiped.{is_relied, is_returned}
use Rattle.demands.proofs.Ledger.{balanced, is_counted, is_observed}

pub demand3 : Demand3
demand3 =
    record {
      any_sequence = λ d cs. (
        by_the_rules (empty_store d) cs,
        stored (run (rows (empty_store d)) (empty_store d) cs),
        record { domain = d; first = stored (empty_store d); made = makes d; leads = led (empty_store d) cs (empty_store d) (empty_sound box d) },
        refl,
        asked_for cs (empty_store d),
      );
      relied = is_relied;
      returned = λ p earlier between a w e n. is_returned p earlier between a w n e;
      ledger = balanced;
      counted = is_counted;
      observed = is_observed;
      text = λ d s text out r left m h.
          let b = makes_the_calls s text out r left h (subst Sound (sym (new_is d s m)) (empty_columns_sound box d)) in
          (b, record { domain = d; first = s; made = m; leads = b.leads });
      report = tells_a_session;
    }
