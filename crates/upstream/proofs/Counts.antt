-- The registry's counts, the store's count of retained publications, and whether a handle is held: R5 to R7, S17, S18.
-- Assumes nothing.
use Prim.Native.Nat.{ℕ, ◌+◌, ◌≤◌, ◌<◌}
use mathlib.Core.Path.{◌≡◌, refl, ap}
use mathlib.Core.Bool.{Bool, true, false, ◌&&◌, cond, false≢true}
use mathlib.Core.List.{List, [], ◌∷◌}
use mathlib.Core.Logic.{◌↔◌}
use mathlib.Core.Option.{none, some}
use native.Mathlib.Omega.{arith}
use lib.Dec.{eqb}
use lib.ListN.{length, get_or}
use borrow.Author.Tests.{eqb-true, eq-eqb}
use Rattle.lists.specs.Search.{how_many}
use Rattle.lists.proofs.Bools.{either}
use Rattle.lists.proofs.Search.{how_many-below}
use Rattle.lists.proofs.Every.{some_below_exactly}
use Rattle.rules.specs.Limits.{Limits}
use Rattle.rules.specs.Answers.{done}
use Rattle.rules.specs.Commands.{AnswerTo}
use Rattle.rules.specs.Table.{Registry, Store}
use Rattle.rules.specs.Rows.{retained_count, step}
use Rattle.rules.specs.Queries.{ReplyTo, contains_handle, holds_handle, reply}
use Rattle.rules.specs.RegistryRows.{CallAnswer, publication_records, lease_record_count, lease_allocation_count, registry_step}
use Rattle.rules.specs.Sound.{StoreSound}
use Rattle.rules.specs.declared.Publication.{Publication}
use Rattle.rules.specs.declared.Command.TheVariants.{Count}
use Rattle.upstream.specs.Answers.{IfOk, is_some}
use Rattle.upstream.specs.Registry.{publications, lease_records, lease_allocations, publication_at}
use Rattle.upstream.specs.Store.{held, values, value_at}
use Rattle.upstream.proofs.Wf.{length-values, value_is}
use Rattle.upstream.proofs.Outcomes.{command_if_ok}

pub record PublicationRecordsClauses (self : Registry) (out : CallAnswer publication_records) : Type 0 where
  pub R5_1 : out ≡ done (length (publications self))

pub record LeaseRecordCountClauses (self : Registry) (out : CallAnswer lease_record_count) : Type 0 where
  pub R6_1 : out ≡ done (length (lease_records self))

pub record LeaseAllocationCountClauses (self : Registry) (out : CallAnswer lease_allocation_count) : Type 0 where
  pub R7_1 : out ≡ done (lease_allocations self)

pub record RetainedCountClauses (self : Store) (out : AnswerTo Count) : Type 0 where
  pub S17_2 : IfOk out (λ n. n ≤ length (values self))
  -- and which number it is
  pub exactly : out ≡ done (how_many is_some (values self))

pub record ContainsHandleClauses (value : ℕ) (self : Store) (out : ReplyTo (contains_handle value)) : Type 0 where
  pub S18_1 : (out ≡ done true) ↔ ((i : ℕ) × (i < length (values self)) × (value_at self i ≡ some value))

module _ (L : Limits) (t : Registry) where
  pub publication_records_R5 : PublicationRecordsClauses t (registry_step L t publication_records).answer
  unfolding registry_step
  publication_records_R5 = record { R5_1 = refl }

  pub lease_record_count_R6 : LeaseRecordCountClauses t (registry_step L t lease_record_count).answer
  unfolding registry_step
  lease_record_count_R6 = record { R6_1 = refl }

  pub lease_allocation_count_R7 : LeaseAllocationCountClauses t (registry_step L t lease_allocation_count).answer
  unfolding registry_step
  lease_allocation_count_R7 = record { R7_1 = refl }

-- as many are retained as payloads are held
how_many-held : (es : List Publication) (hs : List ℕ) → length hs ≡ length es → how_many (λ e. e.retained) es ≡ how_many is_some (held es hs)
how_many-held [] hs n = refl
how_many-held (e ∷ es) [] n = absurd (omega arith)
how_many-held (e ∷ es) (h ∷ hs) n =
    rw (how_many-held es hs (omega arith))
    (either (λ b. cond b 1 0 + how_many is_some (held es hs) ≡ cond (is_some (cond b (some h) none)) 1 0 + how_many is_some (held es hs)) refl refl e.retained)

module _ (L : Limits) (s : Store) (h : StoreSound L s) where
  abbrev same_number : Type 0
  same_number = retained_count s.registry ≡ how_many is_some (values s)

  retained_held : same_number
  retained_held = how_many-held s.registry.publications s.payloads h.s5.payload_each

  pub retained_count_S17 : RetainedCountClauses s (step L s Count).answer
  unfolding step
  retained_count_S17 =
      record {
        S17_2 = command_if_ok L s Count (λ n u. n ≤ length (values s)) (λ k. rw retained_held (how_many-below is_some (values s)));
        exactly = ap done retained_held;
      }

  -- a retained publication holds a handle exactly where its payload is that one

  abbrev holds : ℕ → ℕ → Bool
  holds v i = (publication_at s.registry i).retained && eqb (get_or s.payloads i 0) v

  holds_at : (v i : ℕ) → (holds v i ≡ true) ↔ (value_at s i ≡ some v)
  holds_at v i = rw (value_is L s h i) (go (publication_at s.registry i).retained)
    where
      handle : ℕ
      handle = get_or s.payloads i 0

      go : (b : Bool) → ((b && eqb handle v) ≡ true) ↔ (cond b (some handle) none ≡ some v)
      go true = (λ e. ap (λ (n : ℕ). some n) (eqb-true handle v e), λ e. eq-eqb handle v (cc))
      go false = (λ e. absurd (false≢true e), λ e. let z : ◌≡◌ {A = ℕ} 0 1 = cc in absurd (omega arith))

  pub contains_handle_S18 : (v : ℕ) → ContainsHandleClauses v s (reply L s (contains_handle v))
  unfolding reply
  contains_handle_S18 v =
      record {
        S18_1 =
            rw (length-values L s h) (
              λ e. let m = one.0 (cc) in (m.0, m.1, (holds_at v m.0).0 m.2),
              λ m. ap done (one.1 (m.0, m.1, (holds_at v m.0).1 m.2)),
            );
      }
    where
      one : (holds_handle s v ≡ true) ↔ ((i : ℕ) × (i < length s.registry.publications) × (holds v i ≡ true))
      one = some_below_exactly (holds v) (length s.registry.publications)

  -- it answers yes or no in any case
  pub contains_handle_answers : (v : ℕ) → reply L s (contains_handle v) ≡ done (holds_handle s v)
  unfolding reply
  contains_handle_answers v = refl
