-- Broken brokers: the rows, with one thing wrong in each.
-- Assumes nothing.
use Rattle.std.specs.Prelude.{ℕ, Bool, true, not, ◌&&◌, List, [], ◌∷◌, eqb, length, None}
use Rattle.lists.specs.Search.{some_pass}
use Rattle.rules.specs.Limits.{Limits}
use Rattle.rules.specs.Answers.{Test, ◌⇒◌, verdict, carry, refused, done}
use Rattle.rules.specs.Commands.{Result, AnswerTo, offered}
use Rattle.rules.specs.Table.{Registry, Store, empty_store, at, payload_of}
use Rattle.rules.specs.Conditions.{full, active, unknown}
use Rattle.rules.specs.Changes.{reclaimed, change, with_registry}
use Rattle.rules.specs.Rows.{tests, result, effect, publish_row, lease_row, reclaim_row, retained_count}
use Rattle.rules.specs.Broker.{Broker}
use Rattle.rules.specs.declared.PublicationId.{PublicationId}
use Rattle.rules.specs.declared.LeaseId.{LeaseId}
use Rattle.rules.specs.declared.Port.{Port}
use Rattle.rules.specs.declared.Refusal.TheVariants.{Unknown, Conflict, Visible, Released, Capacity, Absent}
use Rattle.rules.specs.declared.Command.{Command}
use Rattle.rules.specs.declared.Command.TheVariants.{Publish, Adopt, Acquire, Release, Revoke, Replace, Reclaim, Read, Observe, Resolve, Count}

-- a broker of other rows: their tests, their results, their effects
abbrev pub broker : (Store → Command → List Test) → (Store → (c : Command) → Result c) → (Store → Command → Store) → Broker
broker tests result effect =
    record {
      State = Store;
      first = empty_store None;
      answer = λ s c. (carry (verdict (tests s c)) s (offered c) (result s c) (effect s c)).answer;
      next = λ s c. (carry (verdict (tests s c)) s (offered c) (result s c) (effect s c)).table;
    }

-- other tests of a port, of a lease, before a reclaim
abbrev pub testing : (Registry → Port → List Test) → (Registry → LeaseId → List Test) → (Registry → PublicationId → List Test) → Limits → Store → Command → List Test
testing port lease ending L s (Publish o g q v) = port s.registry q
testing port lease ending L s (Adopt p o g) = tests L s (Adopt p o g)
testing port lease ending L s (Acquire p o g) = tests L s (Acquire p o g)
testing port lease ending L s (Release i) = lease s.registry i
testing port lease ending L s (Revoke p) = tests L s (Revoke p)
testing port lease ending L s (Replace p o g v) = tests L s (Replace p o g v)
testing port lease ending L s (Reclaim p) = ending s.registry p
testing port lease ending L s (Read i) = lease s.registry i
testing port lease ending L s (Observe p) = tests L s (Observe p)
testing port lease ending L s (Resolve q) = tests L s (Resolve q)
testing port lease ending L s Count = []

-- other handles handed back, by a replace and by a reclaim; another count
abbrev pub resulting : (Store → PublicationId → ℕ → ℕ) → (Store → PublicationId → ℕ) → (Store → ℕ) → Store → (c : Command) → Result c
resulting swap end number s (Publish o g q v) = result s (Publish o g q v)
resulting swap end number s (Adopt p o g) = tt
resulting swap end number s (Acquire p o g) = result s (Acquire p o g)
resulting swap end number s (Release i) = tt
resulting swap end number s (Revoke p) = tt
resulting swap end number s (Replace p o g v) = swap s p v
resulting swap end number s (Reclaim p) = end s p
resulting swap end number s (Read i) = result s (Read i)
resulting swap end number s (Observe p) = result s (Observe p)
resulting swap end number s (Resolve q) = result s (Resolve q)
resulting swap end number s Count = number s

-- another release, another reclaim
abbrev pub changing : (Store → LeaseId → Store) → (Store → PublicationId → Store) → Store → Command → Store
changing freed ended s (Publish o g q v) = effect s (Publish o g q v)
changing freed ended s (Adopt p o g) = effect s (Adopt p o g)
changing freed ended s (Acquire p o g) = effect s (Acquire p o g)
changing freed ended s (Release i) = freed s i
changing freed ended s (Revoke p) = effect s (Revoke p)
changing freed ended s (Replace p o g v) = effect s (Replace p o g v)
changing freed ended s (Reclaim p) = ended s p
changing freed ended s (Read i) = s
changing freed ended s (Observe p) = s
changing freed ended s (Resolve q) = s
changing freed ended s Count = s

-- the right parts

abbrev pub release_right : Store → LeaseId → Store
release_right s i = effect s (Release i)

abbrev reclaim_right : Store → PublicationId → Store
reclaim_right s p = effect s (Reclaim p)

abbrev count_right : Store → ℕ
count_right s = retained_count s.registry

-- and the wrong ones

abbrev occupied : Registry → Port → Bool
occupied t q = some_pass (λ e. e.retained && eqb e.port.0 q.0) t.publications

abbrev drop_all_leases : Store → LeaseId → Store
drop_all_leases s i =
    with_registry s
    (record { domain = s.registry.domain; publications = s.registry.publications; leases = []; counter = s.registry.counter })

abbrev pub leave_the_handle : Store → PublicationId → Store
leave_the_handle s p = with_registry s (change s.registry p reclaimed)

-- the brokers
module _ (L : Limits) where
  abbrev pub refuses_everything : Broker
  refuses_everything = broker (λ s c. (true ⇒ Unknown) ∷ []) result effect

  abbrev pub tests_port_against_retained : Broker
  tests_port_against_retained =
      broker (testing (λ t q. (full t L ⇒ Capacity) ∷ (occupied t q ⇒ Conflict) ∷ []) (lease_row L) (reclaim_row L) L) result effect

  abbrev pub answers_6_for_never_given : Broker
  answers_6_for_never_given =
      broker (testing (publish_row L) (λ t i. (not (active t i) ⇒ Released) ∷ []) (reclaim_row L) L) result effect

  abbrev pub reclaims_under_lease : Broker
  reclaims_under_lease =
      broker
      (testing (publish_row L) (lease_row L)
      (λ t p. (unknown t p ⇒ Unknown) ∷ ((at t.publications p).visible ⇒ Visible) ∷ (not (at t.publications p).retained ⇒ Released) ∷ [])
      L)
      result
      effect

  abbrev pub hands_back_the_same : Broker
  hands_back_the_same = broker (tests L) (resulting (λ s p v. 900) (λ s p. 900) count_right) effect

  abbrev pub hands_back_the_new : Broker
  hands_back_the_new = broker (tests L) (resulting (λ s p v. v) payload_of count_right) effect

  abbrev pub invents_the_count : Broker
  invents_the_count = broker (tests L) (resulting (λ s p v. payload_of s p) payload_of (λ s. length s.registry.publications)) effect

  abbrev pub releases_nothing : Broker
  releases_nothing = broker (tests L) result (changing (λ s i. s) reclaim_right)

  abbrev pub releases_all : Broker
  releases_all = broker (tests L) result (changing drop_all_leases reclaim_right)

  abbrev pub leaves_the_handle_behind : Broker
  leaves_the_handle_behind = broker (tests L) result (changing release_right leave_the_handle)

-- refuses all but the count, and always counts 0

abbrev pub idle_answer : (c : Command) → AnswerTo c
idle_answer (Publish o g q v) = refused Capacity v
idle_answer (Adopt p o g) = refused Unknown tt
idle_answer (Acquire p o g) = refused Unknown tt
idle_answer (Release i) = refused Unknown tt
idle_answer (Revoke p) = refused Unknown tt
idle_answer (Replace p o g v) = refused Unknown v
idle_answer (Reclaim p) = refused Unknown tt
idle_answer (Read i) = refused Unknown tt
idle_answer (Observe p) = refused Absent tt
idle_answer (Resolve q) = refused Absent tt
idle_answer Count = done 0

abbrev pub idle : Broker
idle = record { State = Unit {0}; first = tt; answer = λ s c. idle_answer c; next = λ s c. s }
