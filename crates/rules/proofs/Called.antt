-- What a call gives on any table: on a sound one what the rows say, on a damaged one 9 and the table as it came. So a refusal keeps
-- the columns, a call keeps a sound table sound and a damaged one damaged, and the empty tables are sound.
-- Assumes nothing.
use Rattle.std.specs.Prelude.{Option, ℕ}
use mathlib.Core.Path.{◌≡◌, sym, ap, subst, ◌∙◌}
use mathlib.Core.Bool.{false}
use mathlib.Core.Logic.{◌⊎◌, inl, inr, ⊎_elim}
use Rattle.lists.proofs.Bools.{true_or_false, never_true}
use Rattle.rules.specs.Limits.{Limits}
use Rattle.rules.specs.Answers.{Outcome, refused}
use Rattle.rules.specs.Commands.{Offered, AnswerTo, offered}
use Rattle.rules.specs.Table.{empty_registry, empty_store}
use Rattle.rules.specs.Rows.{step}
use Rattle.rules.specs.Queries.{Query, Beside, beside, reply}
use Rattle.rules.specs.RegistryRows.{Call, CallAnswer, registry_step}
use Rattle.rules.specs.Columns.{RegistryColumns, StoreColumns, used_registry, used, filled_registry, filled}
use Rattle.rules.specs.Sound.{RegistryColumnsSound, StoreColumnsSound}
use Rattle.rules.specs.SoundTest.{registry_test, store_test}
use Rattle.rules.specs.Calls.{laid_out, laid_out_registry, command, query, registry_call}
use Rattle.rules.specs.declared.Command.{Command}
use Rattle.rules.specs.declared.Refusal.{Refusal}
use Rattle.rules.specs.declared.Refusal.TheVariants.{BadTable}
use Rattle.rules.proofs.Columns.{filled_registry_sound, filled_sound}
use Rattle.rules.proofs.TestedRegistry.{registry_tested}
use Rattle.rules.proofs.TestedStore.{store_tested}
use Rattle.rules.proofs.Refusals.{refusal_keeps, call_refusal_keeps, query_refusal}
use Rattle.rules.proofs.KeepsRegistry.{registry_step_sound, empty_registry_sound}
use Rattle.rules.proofs.KeepsStore.{step_sound, empty_sound}

-- The store's commands and queries.

module _ (L : Limits) (c : StoreColumns) where
  -- a table is sound or damaged

  pub sound_or_damaged : StoreColumnsSound L c ⊎ (store_test L c ≡ false)
  sound_or_damaged = ⊎_elim (λ e. inl ((store_tested L c).0 e)) (λ e. inr e) (true_or_false (store_test L c))

  pub damaged : (StoreColumnsSound L c → ⊥) → store_test L c ≡ false
  damaged f = never_true (store_test L c) (λ e. f ((store_tested L c).0 e))

  pub query_sound : StoreColumnsSound L c → (q : Query) → query L c q ≡ reply L (used c) q
  unfolding query
  query_sound s q = rw ((store_tested L c).1 s)

  pub query_damaged : store_test L c ≡ false → (q : Query) → query L c q ≡ refused BadTable (beside q)
  unfolding query
  query_damaged e q = rw e

  pub query_refused : (q : Query) {r : Refusal} {b : Beside q} → query L c q ≡ refused r b → b ≡ beside q
  query_refused q {r} {b} h =
      ⊎_elim (λ s. query_refusal L (used c) q r b (sym (query_sound s q) ∙ h)) (λ e. cc (query_damaged e q)) sound_or_damaged

  module _ (k : Command) where
    pub command_sound : StoreColumnsSound L c → command L c k ≡ laid_out L (step L (used c) k)
    unfolding command
    command_sound s = rw ((store_tested L c).1 s)

    pub command_damaged : store_test L c ≡ false → command L c k ≡ record { answer = refused BadTable (offered k); table = c }
    unfolding command
    command_damaged e = rw e

    -- the same of the answer and of the columns, each by itself

    pub command_answers : StoreColumnsSound L c → (command L c k).answer ≡ (step L (used c) k).answer
    command_answers s = ap (λ (o : Outcome StoreColumns (AnswerTo k)). o.answer) (command_sound s)

    pub command_leaves : StoreColumnsSound L c → (command L c k).table ≡ filled L (step L (used c) k).table
    command_leaves s = ap (λ (o : Outcome StoreColumns (AnswerTo k)). o.table) (command_sound s)

    pub command_stays : store_test L c ≡ false → (command L c k).table ≡ c
    command_stays e = ap (λ (o : Outcome StoreColumns (AnswerTo k)). o.table) (command_damaged e)

    -- a refusal keeps the columns and hands back what was offered
    pub command_refused : {r : Refusal} {b : Offered k} → (command L c k).answer ≡ refused r b → ((command L c k).table ≡ c) × (b ≡ offered k)
    command_refused {r} {b} h =
        ⊎_elim
        (λ s.
        let m = refusal_keeps L (used c) k r b (sym (command_answers s) ∙ h) in
        (command_leaves s ∙ ap (filled L) m.0 ∙ s.s6, m.1))
        (λ e. (command_stays e, cc (command_damaged e)))
        sound_or_damaged

    -- a sound table stays sound, and a damaged one damaged

    pub command_keeps : StoreColumnsSound L c → StoreColumnsSound L (command L c k).table
    command_keeps s =
        subst (StoreColumnsSound L) (sym (command_leaves s)) (filled_sound L (step L (used c) k).table (step_sound L (used c) k s.in_use))

    pub command_keeps_damaged : (StoreColumnsSound L c → ⊥) → StoreColumnsSound L (command L c k).table → ⊥
    command_keeps_damaged f s = f (subst (StoreColumnsSound L) (command_stays (damaged f)) s)

-- The registry's calls.

module _ (L : Limits) (c : RegistryColumns) where
  pub registry_sound_or_damaged : RegistryColumnsSound L c ⊎ (registry_test L c ≡ false)
  registry_sound_or_damaged = ⊎_elim (λ e. inl ((registry_tested L c).0 e)) (λ e. inr e) (true_or_false (registry_test L c))

  pub registry_damaged : (RegistryColumnsSound L c → ⊥) → registry_test L c ≡ false
  registry_damaged f = never_true (registry_test L c) (λ e. f ((registry_tested L c).0 e))

  module _ (k : Call) where
    pub call_sound : RegistryColumnsSound L c → registry_call L c k ≡ laid_out_registry L (registry_step L (used_registry c) k)
    unfolding registry_call
    call_sound s = rw ((registry_tested L c).1 s)

    pub call_damaged : registry_test L c ≡ false → registry_call L c k ≡ record { answer = refused BadTable tt; table = c }
    unfolding registry_call
    call_damaged e = rw e

    pub call_answers : RegistryColumnsSound L c → (registry_call L c k).answer ≡ (registry_step L (used_registry c) k).answer
    call_answers s = ap (λ (o : Outcome RegistryColumns (CallAnswer k)). o.answer) (call_sound s)

    pub call_leaves : RegistryColumnsSound L c → (registry_call L c k).table ≡ filled_registry L (registry_step L (used_registry c) k).table
    call_leaves s = ap (λ (o : Outcome RegistryColumns (CallAnswer k)). o.table) (call_sound s)

    pub call_stays : registry_test L c ≡ false → (registry_call L c k).table ≡ c
    call_stays e = ap (λ (o : Outcome RegistryColumns (CallAnswer k)). o.table) (call_damaged e)

    pub call_refused : {r : Refusal} {b : Unit {0}} → (registry_call L c k).answer ≡ refused r b → (registry_call L c k).table ≡ c
    call_refused {r} {b} h =
        ⊎_elim
        (λ s.
        call_leaves s
        ∙ ap (filled_registry L) (call_refusal_keeps L (used_registry c) k r b (sym (call_answers s) ∙ h)).0
        ∙ s.s6)
        (λ e. call_stays e)
        registry_sound_or_damaged

    pub call_keeps : RegistryColumnsSound L c → RegistryColumnsSound L (registry_call L c k).table
    call_keeps s =
        subst (RegistryColumnsSound L) (sym (call_leaves s))
        (filled_registry_sound L (registry_step L (used_registry c) k).table (registry_step_sound L (used_registry c) k s.in_use))

    pub call_keeps_damaged : (RegistryColumnsSound L c → ⊥) → RegistryColumnsSound L (registry_call L c k).table → ⊥
    call_keeps_damaged f s = f (subst (RegistryColumnsSound L) (call_stays (registry_damaged f)) s)

-- The empty tables, with or without domain, laid out in columns, are sound.

module _ (L : Limits) (d : Option ℕ) where
  pub empty_registry_columns_sound : RegistryColumnsSound L (filled_registry L (empty_registry d))
  empty_registry_columns_sound = filled_registry_sound L (empty_registry d) (empty_registry_sound L d)

  pub empty_columns_sound : StoreColumnsSound L (filled L (empty_store d))
  empty_columns_sound = filled_sound L (empty_store d) (empty_sound L d)
