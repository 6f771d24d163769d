-- What the test for 9 tells: the call is the row's on a sound store, and BadTable on any other.
-- Assumes nothing.
use Rattle.std.specs.Prelude.{ℕ, Err}
use mathlib.Core.Path.{◌≡◌, refl}
use mathlib.Core.Bool.{true, false}
use Rattle.rules.specs.Limits.{Limits, box}
use Rattle.rules.specs.Queries.{Query, contains_handle, reply}
use Rattle.rules.specs.Columns.{StoreColumns, used}
use Rattle.rules.specs.Sound.{StoreColumnsSound}
use Rattle.rules.specs.SoundTest.{registry_test, store_test}
use Rattle.rules.specs.Rows.{step}
use Rattle.rules.specs.Calls.{laid_out, command, query}
use Rattle.rules.specs.declared.PublicationId.{PublicationId}
use Rattle.rules.specs.declared.Owner.{Owner}
use Rattle.rules.specs.declared.Port.{Port}
use Rattle.rules.specs.declared.Command.{Command}
use Rattle.rules.specs.declared.Command.TheVariants.{Publish, Replace}
use Rattle.rules.specs.declared.Refusal.TheVariants.{BadTable}
use Rattle.rules.proofs.TestedStore.{store_tested}
use Rattle.rules.proofs.Called.{command_sound, command_damaged, query_sound, query_damaged}
use Rattle.registry.specs.Answers.{result_of}
use Rattle.store.specs.Columns.{store_of}
use Rattle.store.specs.Answers.{rejected_of, contained_of}
use Rattle.columns.specs.Columns.{store_columns_of}

-- no test reads the domain
pub domain_unread : (L : Limits) (c : StoreColumns)
    → store_test L (store_columns_of c.registry.publications c.registry.count c.registry.leases c.registry.active c.registry.counter c.payloads c.revisions)
    ≡ store_test L c
unfolding store_test registry_test
domain_unread L c = refl

module _ (c : StoreColumns) where
  pub sound_when : store_test box c ≡ true → StoreColumnsSound box c
  sound_when t = (store_tested box c).0 t

  module _ (k : Command) where
    pub answer_when : store_test box c ≡ true → result_of (command box c k).answer ≡ result_of (step box (used c) k).answer
    answer_when t = rw (command_sound box c k (sound_when t))

    pub answer_unless : store_test box c ≡ false → result_of (command box c k).answer ≡ Err BadTable
    answer_unless t = rw (command_damaged box c k t)

    pub table_when : store_test box c ≡ true → store_of (command box c k).table ≡ store_of (laid_out box (step box (used c) k)).table
    table_when t = rw (command_sound box c k (sound_when t))

    pub table_unless : store_test box c ≡ false → store_of (command box c k).table ≡ store_of c
    table_unless t = rw (command_damaged box c k t)

  -- the offered handle goes back

  module _ (o : Owner) (g : ℕ) (q : Port) (v : ℕ) where
    pub publish_when : store_test box c ≡ true → rejected_of (command box c (Publish o g q v)).answer ≡ rejected_of (step box (used c) (Publish o g q v)).answer
    publish_when t = rw (command_sound box c (Publish o g q v) (sound_when t))

    pub publish_unless : store_test box c ≡ false → rejected_of (command box c (Publish o g q v)).answer ≡ Err (record { why = BadTable; handle = v })
    publish_unless t = rw (command_damaged box c (Publish o g q v) t)

  module _ (p : PublicationId) (o : Owner) (g v : ℕ) where
    pub replace_when : store_test box c ≡ true → rejected_of (command box c (Replace p o g v)).answer ≡ rejected_of (step box (used c) (Replace p o g v)).answer
    replace_when t = rw (command_sound box c (Replace p o g v) (sound_when t))

    pub replace_unless : store_test box c ≡ false → rejected_of (command box c (Replace p o g v)).answer ≡ Err (record { why = BadTable; handle = v })
    replace_unless t = rw (command_damaged box c (Replace p o g v) t)

  module _ (q : Query) where
    pub query_when : store_test box c ≡ true → result_of (query box c q) ≡ result_of (reply box (used c) q)
    query_when t = rw (query_sound box c (sound_when t) q)

    pub query_unless : store_test box c ≡ false → result_of (query box c q) ≡ Err BadTable
    query_unless t = rw (query_damaged box c t q)

  -- a yes or no stands beside a refusal too, and is no

  module _ (n : ℕ) where
    pub contained_when : store_test box c ≡ true → contained_of (query box c (contains_handle n)) ≡ contained_of (reply box (used c) (contains_handle n))
    contained_when t = rw (query_sound box c (sound_when t) (contains_handle n))

    pub contained_unless : store_test box c ≡ false → contained_of (query box c (contains_handle n)) ≡ record { answer = Err BadTable; present = false }
    contained_unless t = rw (query_damaged box c t (contains_handle n))

pub ruleset guarded =
    (answer_when, answer_unless, table_when, table_unless, publish_when, publish_unless, replace_when, replace_unless, query_when, query_unless, contained_when, contained_unless)
