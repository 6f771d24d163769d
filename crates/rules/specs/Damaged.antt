-- Damaged tables, each beside a sound one that differs as little as can be: every kind of call answers 9 to the one and not to the other.
-- Assumes nothing.
use Rattle.std.specs.Prelude.{ℕ, Bool, true, false, not, cond, List, [], ◌∷◌, ◌++◌, T, eqb, length, set, take, Option, Some, None}
use Rattle.lists.specs.Column.{padded}
use Rattle.lists.specs.Every.{every}
use Rattle.rules.specs.Limits.{box}
use Rattle.rules.specs.Answers.{Answer, refused, done, answer_number}
use Rattle.rules.specs.Table.{Registry, blank_publication, blank_lease, taken_by}
use Rattle.rules.specs.Columns.{RegistryColumns, StoreColumns, filled}
use Rattle.rules.specs.SoundTest.{s1_test, s2_test, s3_test, s4_test, s5_test, s6_registry_test, s6_test, registry_test, store_test}
use Rattle.rules.specs.Rows.{step}
use Rattle.rules.specs.Queries.{contains_handle, registry_copy, reply}
use Rattle.rules.specs.RegistryRows.{publication_records, registry_step}
use Rattle.rules.specs.Calls.{command, query, registry_call}
use Rattle.rules.specs.Probes.{◌refused_with◌, ◌refused_with◌back◌, right_answer, same_numbers, many, publish, count, entry, lent}
use Rattle.rules.specs.declared.Publication.{Publication}
use Rattle.rules.specs.declared.Lease.{Lease}
use Rattle.rules.specs.declared.Consumer.{Consumer}

-- the consumer of the leases
abbrev pub viewer : Option Consumer
viewer = taken_by (record { 0 = 5 }) 1

-- columns with one thing changed

abbrev pub registry_with : (RegistryColumns → RegistryColumns) → StoreColumns → StoreColumns
registry_with f c = record { registry = f c.registry; payloads = c.payloads; revisions = c.revisions }

abbrev pub publications_are : List Publication → StoreColumns → StoreColumns
publications_are es =
    registry_with (λ c. record { domain = c.domain; publications = es; count = c.count; leases = c.leases; active = c.active; counter = c.counter })

abbrev pub leases_are : List Lease → StoreColumns → StoreColumns
leases_are ls =
    registry_with (λ c. record { domain = c.domain; publications = c.publications; count = c.count; leases = ls; active = c.active; counter = c.counter })

abbrev pub count_is : ℕ → StoreColumns → StoreColumns
count_is n =
    registry_with (λ c. record { domain = c.domain; publications = c.publications; count = n; leases = c.leases; active = c.active; counter = c.counter })

abbrev pub active_is : ℕ → StoreColumns → StoreColumns
active_is n =
    registry_with (λ c. record { domain = c.domain; publications = c.publications; count = c.count; leases = c.leases; active = n; counter = c.counter })

abbrev pub counter_is : ℕ → StoreColumns → StoreColumns
counter_is n =
    registry_with (λ c. record { domain = c.domain; publications = c.publications; count = c.count; leases = c.leases; active = c.active; counter = n })

abbrev pub payloads_are : List ℕ → StoreColumns → StoreColumns
payloads_are hs c = record { registry = c.registry; payloads = hs; revisions = c.revisions }

abbrev pub revisions_are : List ℕ → StoreColumns → StoreColumns
revisions_are ns c = record { registry = c.registry; payloads = c.payloads; revisions = ns }

abbrev pub publication_is : ℕ → Publication → StoreColumns → StoreColumns
publication_is i e c = publications_are (set c.registry.publications i e) c

abbrev pub lease_is : ℕ → Lease → StoreColumns → StoreColumns
lease_is i l c = leases_are (set c.registry.leases i l) c

abbrev pub payload_is : ℕ → ℕ → StoreColumns → StoreColumns
payload_is i h c = payloads_are (set c.payloads i h) c

abbrev pub revision_is : ℕ → ℕ → StoreColumns → StoreColumns
revision_is i n c = revisions_are (set c.revisions i n) c

-- A sound store: 0 and 3 are visible, 1 is revoked and holds the handle 0, 2 is reclaimed and keeps its revision. Of nine leases two are
-- active, and the second is nobody's by name.
abbrev pub good : StoreColumns
good =
    filled box
    (record {
      registry =
          record {
            domain = Some 6;
            publications = entry 4 0 7 0 true true ∷ entry 4 0 8 1 false true ∷ entry 4 1 9 2 false false ∷ entry 4 0 9 3 true true ∷ [];
            leases = lent 2 0 viewer ∷ lent 4 1 None ∷ [];
            counter = 9;
          };
      payloads = 900 ∷ 0 ∷ 0 ∷ 903 ∷ [];
      revisions = 0 ∷ 2 ∷ 1 ∷ 0 ∷ [];
    })

-- a store with 96 visible publications
abbrev pub crowded : StoreColumns
crowded =
    filled box
    (record {
      registry = record { domain = Some 6; publications = many 96 (λ n. entry 4 0 n n true true) []; leases = []; counter = 0 };
      payloads = many 96 (λ n. 900) [];
      revisions = many 96 (λ n. 0) [];
    })

-- a store with one publication, and the leases 0 to 127 of it, of 200 that were given out
abbrev pub relied_on : StoreColumns
relied_on =
    filled box
    (record {
      registry =
          record {
            domain = Some 6;
            publications = entry 4 0 7 0 true true ∷ [];
            leases = many 128 (λ n. lent n 0 viewer) [];
            counter = 200;
          };
      payloads = 900 ∷ [];
      revisions = 0 ∷ [];
    })

-- a row: the clauses that fail, the damaged table, the sound one
pub data Row : Type 0 where
  -- the registry's calls answer 9, and so do those of the store around it
  both : List ℕ → StoreColumns → StoreColumns → Row
  -- only the store's calls answer 9; the registry in it is sound
  store : List ℕ → StoreColumns → StoreColumns → Row
  -- a registry by itself
  registry : List ℕ → RegistryColumns → RegistryColumns → Row

-- which clauses fail

abbrev pub failing : List (ℕ × Bool) → List ℕ
failing [] = []
failing (k ∷ ks) = cond k.1 (failing ks) (k.0 ∷ failing ks)

abbrev pub registry_failing : RegistryColumns → List ℕ
registry_failing c =
    failing ((1, s1_test box c) ∷ (2, s2_test c) ∷ (3, s3_test c) ∷ (4, s4_test c) ∷ (6, s6_registry_test box c) ∷ [])

abbrev pub store_failing : StoreColumns → List ℕ
store_failing c =
    failing ((1, s1_test box c.registry) ∷ (2, s2_test c.registry) ∷ (3, s3_test c.registry) ∷ (4, s4_test c.registry)
    ∷ (5, s5_test c) ∷ (6, every (s6_registry_test box c.registry ∷ s6_test box c ∷ [])) ∷ [])

-- what stands beside a 9

abbrev pub no_beside : Answer Bool Bool → Bool
no_beside (refused r yes_or_no) = not yes_or_no
no_beside (done yes_or_no) = false

abbrev pub unset : Option ℕ → Bool
unset None = true
unset (Some n) = false

abbrev pub empty_beside : Answer Registry Registry → Bool
empty_beside (refused r t) = every (unset t.domain ∷ eqb (length t.publications) 0 ∷ eqb (length t.leases) 0 ∷ eqb t.counter 0 ∷ [])
empty_beside (done t) = false

-- every kind of call answers 9: commands with the offered handle back, a yes or no with no, the registry's copy with the empty one
abbrev pub store_refuses : StoreColumns → Bool
store_refuses c =
    every
    (right_answer (count refused_with 9) (command box c count).answer
    ∷ right_answer (publish 4 0 77 970 refused_with 9 back 970) (command box c (publish 4 0 77 970)).answer
    ∷ eqb (answer_number (query box c (contains_handle 900))) 9
    ∷ no_beside (query box c (contains_handle 900))
    ∷ eqb (answer_number (query box c registry_copy)) 9
    ∷ empty_beside (query box c registry_copy)
    ∷ [])

abbrev pub store_answers : StoreColumns → Bool
store_answers c =
    every
    (eqb (answer_number (command box c count).answer) 0
    ∷ eqb (answer_number (query box c (contains_handle 900))) 0
    ∷ eqb (answer_number (query box c registry_copy)) 0
    ∷ [])

abbrev pub registry_refuses : RegistryColumns → Bool
registry_refuses c = eqb (answer_number (registry_call box c publication_records).answer) 9

abbrev pub registry_answers : RegistryColumns → Bool
registry_answers c = eqb (answer_number (registry_call box c publication_records).answer) 0

abbrev pub right : Row → Bool
right (both clauses damaged sound) =
    every
    (same_numbers (store_failing damaged) clauses
    ∷ store_refuses damaged
    ∷ registry_refuses damaged.registry
    ∷ store_answers sound
    ∷ registry_answers sound.registry
    ∷ [])
right (store clauses damaged sound) =
    every
    (same_numbers (store_failing damaged) clauses
    ∷ store_refuses damaged
    ∷ registry_answers damaged.registry
    ∷ store_answers sound
    ∷ [])
right (registry clauses damaged sound) =
    every (same_numbers (registry_failing damaged) clauses ∷ registry_refuses damaged ∷ registry_answers sound ∷ [])

abbrev pub all_right : List Row → Bool
all_right [] = true
all_right (r ∷ rs) = every (right r ∷ all_right rs ∷ [])

abbrev pub damaged_and_sound : List Row
damaged_and_sound =
    -- S1 97 publications; 96. (In a store the 97th, past the column's end, has the slot 0 as well: S5.)
    registry (1 ∷ []) (count_is 97 crowded).registry crowded.registry
    ∷ both (1 ∷ 5 ∷ []) (count_is 97 crowded) crowded
    -- S1 129 active leases; 128. (The 129th, past the column's end, does not rise: S4.)
    ∷ both (1 ∷ 4 ∷ []) (active_is 129 relied_on) relied_on
    -- S1 128 active leases, and 127 given out; 128 given out. (The last is not below the counter: S4.)
    ∷ both (1 ∷ 4 ∷ []) (counter_is 127 relied_on) (counter_is 128 relied_on)
    -- S2 visible, and not retained; neither
    ∷ both (2 ∷ []) (publication_is 2 (entry 4 1 5 2 true false) good) (publication_is 2 (entry 4 1 5 2 false false) good)
    -- S3 two visible on one port; one of them revoked
    ∷ both (3 ∷ []) (publication_is 3 (entry 4 0 7 3 true true) good) (publication_is 3 (entry 4 0 7 3 false true) good)
    -- S3 two retained in one slot; in two, whichever they are; in one, and one of them reclaimed
    ∷ registry (3 ∷ []) (publication_is 3 (entry 4 0 9 0 true true) good).registry (publication_is 3 (entry 4 0 9 5 true true) good).registry
    ∷ registry (3 ∷ []) (publication_is 3 (entry 4 0 9 0 false true) good).registry (publication_is 3 (entry 4 0 9 0 false false) good).registry
    -- S4 two leases with one identifier; the next identifier
    ∷ both (4 ∷ []) (lease_is 1 (lent 2 1 None) good) (lease_is 1 (lent 3 1 None) good)
    -- S4 a lower identifier after a higher one
    ∷ both (4 ∷ []) (lease_is 1 (lent 1 1 None) good) (lease_is 1 (lent 3 1 None) good)
    -- S4 a lease at the counter; just below it
    ∷ both (4 ∷ []) (lease_is 1 (lent 9 1 None) good) (lease_is 1 (lent 8 1 None) good)
    -- S4 a lease of a reclaimed publication; of a revoked one
    ∷ both (4 ∷ []) (lease_is 1 (lent 4 2 None) good) (lease_is 1 (lent 4 1 None) good)
    -- S4 a lease of an unknown publication, next to the last and far away; of the last
    ∷ both (4 ∷ []) (lease_is 1 (lent 4 4 None) good) (lease_is 1 (lent 4 3 None) good)
    ∷ both (4 ∷ []) (lease_is 1 (lent 4 96 None) good) (lease_is 1 (lent 4 3 None) good)
    -- S5 the slot of a retained publication, and of a reclaimed one, is not its identifier
    ∷ store (5 ∷ []) (publication_is 3 (entry 4 0 9 4 true true) good) good
    ∷ store (5 ∷ []) (publication_is 2 (entry 4 1 9 5 false false) good) good
    -- S5 a handle left in a reclaimed cell; a revision left there
    ∷ store (5 ∷ []) (payload_is 2 902 good) (revision_is 2 7 good)
    -- S6 an unused publication with an owner, a generation, a port, a slot, visible, retained
    ∷ both (6 ∷ []) (publication_is 4 (entry 1 0 0 0 false false) good) good
    ∷ both (6 ∷ []) (publication_is 4 (entry 0 1 0 0 false false) good) good
    ∷ both (6 ∷ []) (publication_is 4 (entry 0 0 1 0 false false) good) good
    ∷ both (6 ∷ []) (publication_is 4 (entry 0 0 0 1 false false) good) good
    ∷ both (6 ∷ []) (publication_is 4 (entry 0 0 0 0 true false) good) good
    ∷ both (6 ∷ []) (publication_is 4 (entry 0 0 0 0 false true) good) good
    -- S6 an unused lease with an identifier, a publication, a consumer
    ∷ both (6 ∷ []) (lease_is 2 (lent 1 0 None) good) good
    ∷ both (6 ∷ []) (lease_is 2 (lent 0 1 None) good) good
    ∷ both (6 ∷ []) (lease_is 2 (lent 0 0 (taken_by (record { 0 = 0 }) 0)) good) good
    -- S6 an unused payload, an unused revision
    ∷ store (6 ∷ []) (payload_is 4 1 good) good
    ∷ store (6 ∷ []) (revision_is 4 1 good) good
    -- S6 the last place of each column
    ∷ both (6 ∷ []) (publication_is 95 (entry 1 0 0 0 false false) good) good
    ∷ both (6 ∷ []) (lease_is 127 (lent 1 0 None) good) good
    ∷ store (6 ∷ []) (payload_is 95 1 good) good
    ∷ store (6 ∷ []) (revision_is 95 1 good) good
    -- S6 a column one short, or one too long
    ∷ both (6 ∷ []) (publications_are (take 95 good.registry.publications) good) good
    ∷ both (6 ∷ []) (publications_are (good.registry.publications ++ (blank_publication ∷ [])) good) good
    ∷ both (6 ∷ []) (leases_are (take 127 good.registry.leases) good) good
    ∷ both (6 ∷ []) (leases_are (good.registry.leases ++ (blank_lease ∷ [])) good) good
    ∷ store (6 ∷ []) (payloads_are (take 95 good.payloads) good) good
    ∷ store (6 ∷ []) (payloads_are (good.payloads ++ (0 ∷ [])) good) good
    ∷ store (6 ∷ []) (revisions_are (take 95 good.revisions) good) good
    ∷ store (6 ∷ []) (revisions_are (good.revisions ++ (0 ∷ [])) good) good
    ∷ []

pub damaged_and_sound_hold : T (all_right damaged_and_sound)
unfolding command query registry_call store_test registry_test step reply registry_step padded
damaged_and_sound_hold = tt
