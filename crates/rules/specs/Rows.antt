-- Order of tests and effect: document 01's table, in its order.
-- Assumes nothing.
use Rattle.std.specs.Prelude.{ℕ, suc, not, ◌&&◌, ◌||◌, List, [], ◌∷◌, ◌++◌, leb, eqb, length}
use Rattle.lists.specs.Search.{how_many}
use Rattle.rules.specs.Limits.{Limits}
use Rattle.rules.specs.Answers.{Test, Outcome, ◌⇒◌, verdict, carry}
use Rattle.rules.specs.Commands.{Result, AnswerTo, offered}
use Rattle.rules.specs.Table.{Registry, Store, at, publication_of, payload_of, revision_of, taken_by}
use Rattle.rules.specs.Conditions.{unknown, owned_by, full, port_held, leased, no_lease_left, never_lent, active, lease_of, resolved}
use Rattle.rules.specs.Changes.{published, adopted, hidden, reclaimed, and_publication, change, and_lease, without_lease, with_registry, with_payload, with_revision}
use Rattle.rules.specs.declared.PublicationId.{PublicationId}
use Rattle.rules.specs.declared.LeaseId.{LeaseId}
use Rattle.rules.specs.declared.Owner.{Owner}
use Rattle.rules.specs.declared.Port.{Port}
use Rattle.rules.specs.declared.Refusal.TheVariants.{Unknown, Revoked, Conflict, Relied, Visible, Released, Capacity, InvalidState, Absent}
use Rattle.rules.specs.declared.Command.{Command}
use Rattle.rules.specs.declared.Command.TheVariants.{Publish, Adopt, Acquire, Release, Revoke, Replace, Reclaim, Read, Observe, Resolve, Count}

-- Refusals in order. The rows of a registry's table serve the registry's own calls as well.

module _ (L : Limits) (t : Registry) where
  -- publish: 7, 3
  abbrev pub publish_row : Port → List Test
  publish_row q = (full t L ⇒ Capacity) ∷ (port_held t q ⇒ Conflict) ∷ []

  -- adopt: 1, 6, 8, 4
  abbrev pub adopt_row : PublicationId → Owner → ℕ → List Test
  adopt_row p o g =
      (unknown t p ⇒ Unknown)
      ∷ (not (at t.publications p).retained ⇒ Released)
      ∷ (not (owned_by o 0 (at t.publications p) && eqb g 1) ⇒ InvalidState)
      ∷ (leased t p ⇒ Relied)
      ∷ []

  -- acquire: 1, 2, 7
  abbrev pub acquire_row : PublicationId → List Test
  acquire_row p =
      (unknown t p ⇒ Unknown)
      ∷ (not (at t.publications p).visible ⇒ Revoked)
      ∷ (no_lease_left t L ⇒ Capacity)
      ∷ []

  -- release, and read a lease: 1, 6
  abbrev pub lease_row : LeaseId → List Test
  lease_row i = (never_lent t i ⇒ Unknown) ∷ (not (active t i) ⇒ Released) ∷ []

  -- revoke: 1
  abbrev pub revoke_row : PublicationId → List Test
  revoke_row p = (unknown t p ⇒ Unknown) ∷ []

  -- reclaim: 1, 5, 6, 4
  abbrev pub reclaim_row : PublicationId → List Test
  reclaim_row p =
      (unknown t p ⇒ Unknown)
      ∷ ((at t.publications p).visible ⇒ Visible)
      ∷ (not (at t.publications p).retained ⇒ Released)
      ∷ (leased t p ⇒ Relied)
      ∷ []

  -- resolve a port: 10
  abbrev pub resolve_row : Port → List Test
  resolve_row q = (not (port_held t q) ⇒ Absent) ∷ []

module _ (L : Limits) (s : Store) where
  -- replace: 1, 8, 2, 7
  abbrev pub replace_row : PublicationId → Owner → ℕ → List Test
  replace_row p o g =
      (unknown s.registry p ⇒ Unknown)
      ∷ (not (owned_by o g (publication_of s p)) ⇒ InvalidState)
      ∷ (not (publication_of s p).visible ⇒ Revoked)
      ∷ (leb L.top (revision_of s p) ⇒ Capacity)
      ∷ []

  -- observe: 10
  abbrev pub observe_row : PublicationId → List Test
  observe_row p = (unknown s.registry p || not (publication_of s p).retained ⇒ Absent) ∷ []

  abbrev pub tests : Command → List Test
  tests (Publish o g q v) = publish_row L s.registry q
  tests (Adopt p o g) = adopt_row L s.registry p o g
  tests (Acquire p o g) = acquire_row L s.registry p
  tests (Release i) = lease_row L s.registry i
  tests (Revoke p) = revoke_row L s.registry p
  tests (Replace p o g v) = replace_row p o g
  tests (Reclaim p) = reclaim_row L s.registry p
  tests (Read i) = lease_row L s.registry i
  tests (Observe p) = observe_row p
  tests (Resolve q) = resolve_row L s.registry q
  tests Count = []

-- Otherwise: what is answered, and what the table becomes.

abbrev pub retained_count : Registry → ℕ
retained_count t = how_many (λ e. e.retained) t.publications

module _ (s : Store) where
  -- the publication that a lease names
  abbrev pub read_of : LeaseId → PublicationId
  read_of i = (lease_of s.registry i).publication

  abbrev pub result : (c : Command) → Result c
  result (Publish o g q v) = record { 0 = length s.registry.publications }
  result (Adopt p o g) = tt
  result (Acquire p o g) = record { 0 = s.registry.counter }
  result (Release i) = tt
  result (Revoke p) = tt
  result (Replace p o g v) = payload_of s p
  result (Reclaim p) = payload_of s p
  result (Read i) =
      record { id = read_of i; revision = revision_of s (read_of i); handle = payload_of s (read_of i) }
  result (Observe p) = record { revision = revision_of s p; handle = payload_of s p }
  result (Resolve q) = resolved s.registry q
  result Count = retained_count s.registry

  abbrev pub effect : Command → Store
  effect (Publish o g q v) =
      record {
        registry = and_publication s.registry (published o g q (length s.registry.publications));
        payloads = s.payloads ++ (v ∷ []);
        revisions = s.revisions ++ (0 ∷ []);
      }
  effect (Adopt p o g) = with_registry s (change s.registry p adopted)
  effect (Acquire p o g) = with_registry s (and_lease s.registry p (taken_by o g))
  effect (Release i) = with_registry s (without_lease s.registry i)
  effect (Revoke p) = with_registry s (change s.registry p hidden)
  effect (Replace p o g v) = with_payload (with_revision s p (suc (revision_of s p))) p v
  effect (Reclaim p) = with_payload (with_registry s (change s.registry p reclaimed)) p 0
  effect (Read i) = s
  effect (Observe p) = s
  effect (Resolve q) = s
  effect Count = s

-- one command on a sound table
unfoldable pub step : Limits → Store → (c : Command) → Outcome Store (AnswerTo c)
step L s c = carry (verdict (tests L s c)) s (offered c) (result s c) (effect s c)
