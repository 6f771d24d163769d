-- One call on a sound registry, by what its tests come to.
-- Assumes nothing.
use Rattle.std.specs.Prelude.{Result, Ok, Err}
use mathlib.Core.Path.{◌≡◌, sym, ap}
use Rattle.rules.specs.Limits.{Limits}
use Rattle.rules.specs.Answers.{refused, done, stop, pass, verdict}
use Rattle.rules.specs.Columns.{RegistryColumns, used_registry, filled_registry}
use Rattle.rules.specs.Sound.{RegistryColumnsSound}
use Rattle.rules.specs.RegistryRows.{Call, CallResult, call_tests, call_result, call_effect, registry_step}
use Rattle.rules.specs.Calls.{laid_out_registry}
use Rattle.rules.specs.declared.Refusal.{Refusal}
use Rattle.columns.specs.Verdicts.{verdict_of}
use Rattle.columns.proofs.Verdicts.{told_stop, told_pass}
use Rattle.registry.specs.Columns.{registry_of}
use Rattle.registry.specs.Answers.{result_of, answered_of}

module _ (L : Limits) (c : RegistryColumns) (k : Call) where
  -- a refused call leaves the columns as they were
  stopped : RegistryColumnsSound L c → {r : Refusal} → verdict (call_tests L (used_registry c) k) ≡ stop r
      → laid_out_registry L (registry_step L (used_registry c) k) ≡ record { answer = refused r tt; table = c }
  unfolding registry_step
  stopped h {r} e = rw e (ap (λ (t : RegistryColumns). record { answer = refused r tt; table = t }) h.s6)

  -- any other is carried out
  carried : verdict (call_tests L (used_registry c) k) ≡ pass
      → laid_out_registry L (registry_step L (used_registry c) k)
      ≡ record { answer = done (call_result (used_registry c) k); table = filled_registry L (call_effect (used_registry c) k) }
  unfolding registry_step
  carried e = rw e

  -- what the code gives for it: the refusal and the registry as it came, or the result and the columns of the effect

  pub gives_refusal : RegistryColumnsSound L c → {r : Refusal} → verdict (call_tests L (used_registry c) k) ≡ stop r
      → {x : Result (CallResult k) Refusal} → x ≡ Err r
      → record { answer = x; table = registry_of c } ≡ answered_of (laid_out_registry L (registry_step L (used_registry c) k))
  gives_refusal h e f = rw f (sym (ap answered_of (stopped h e)))

  pub gives_result : verdict (call_tests L (used_registry c) k) ≡ pass
      → {x : Result (CallResult k) Refusal} → x ≡ Ok (call_result (used_registry c) k)
      → {t : RegistryColumns} → filled_registry L (call_effect (used_registry c) k) ≡ t
      → record { answer = x; table = registry_of t } ≡ answered_of (laid_out_registry L (registry_step L (used_registry c) k))
  gives_result e f g = rw (f, ← g) (sym (ap answered_of (carried e)))

  -- the answer by itself

  pub answers_refusal : {r : Refusal} → verdict (call_tests L (used_registry c) k) ≡ stop r → Err r ≡ result_of (registry_step L (used_registry c) k).answer
  unfolding registry_step
  answers_refusal e = rw e

  pub answers_result : verdict (call_tests L (used_registry c) k) ≡ pass → Ok (call_result (used_registry c) k) ≡ result_of (registry_step L (used_registry c) k).answer
  unfolding registry_step
  answers_result e = rw e

  -- from the verdict that the code has in hand
  module _ {w : Result (Unit {0}) Refusal} (e : w ≡ verdict_of (verdict (call_tests L (used_registry c) k))) where
    pub passes : w ≡ Ok tt → verdict (call_tests L (used_registry c) k) ≡ pass
    passes t = told_pass (verdict (call_tests L (used_registry c) k)) e t

    pub told_refusal : RegistryColumnsSound L c → {r : Refusal} → w ≡ Err r → {x : Result (CallResult k) Refusal} → x ≡ Err r
        → record { answer = x; table = registry_of c } ≡ answered_of (laid_out_registry L (registry_step L (used_registry c) k))
    told_refusal h t f = gives_refusal h (told_stop (verdict (call_tests L (used_registry c) k)) e t) f
