-- The store's queries: a copy of the registry, `value`, `observation`, `leased_value` and `leased_observation`. S2, S6 to S9.
-- Assumes nothing.
use Prim.Native.Nat.{◌<◌}
use mathlib.Core.Path.{◌≡◌, refl, sym, ap, ◌∙◌}
use mathlib.Core.Bool.{Bool, true, not, cond}
use mathlib.Core.Logic.Iff
use mathlib.Core.Logic.{◌↔◌}
use mathlib.Core.Option.{none, some}
use lib.ListN.{length}
use borrow.Author.Tests.{leb-false, lt-leb, not-false}
use Rattle.lists.proofs.Bools.{or_left, or_right}
use Rattle.rules.specs.Limits.{Limits}
use Rattle.rules.specs.Answers.{done}
use Rattle.rules.specs.Commands.{AnswerTo}
use Rattle.rules.specs.Table.{Store, publication_of, payload_of}
use Rattle.rules.specs.Conditions.{unknown, active, lease_of}
use Rattle.rules.specs.Rows.{lease_row, observe_row, read_of, step}
use Rattle.rules.specs.Queries.{ReplyTo, leased_value, value, registry_copy, reply}
use Rattle.rules.specs.Sound.{StoreSound}
use Rattle.rules.specs.declared.PublicationId.{PublicationId}
use Rattle.rules.specs.declared.LeaseId.{LeaseId}
use Rattle.rules.specs.declared.Lease.{Lease}
use Rattle.rules.specs.declared.Leased.{Leased}
use Rattle.rules.specs.declared.Observation.{Observation}
use Rattle.rules.specs.declared.Reading.{Reading}
use Rattle.rules.specs.declared.Command.TheVariants.{Read, Observe}
use Rattle.rules.proofs.Clear.{Clear}
use Rattle.upstream.specs.Answers.{is_ok, IfOk, is_some}
use Rattle.upstream.specs.Registry.{active_lease, RegistryWf}
use Rattle.upstream.specs.Store.{registry_view, values, revisions, value_at, revision_at}
use Rattle.upstream.proofs.Wf.{sound_wf, store_sound_wf, length-values, value_is}
use Rattle.upstream.proofs.Leases.{active_is, lease_row_exactly, active_retained}
use Rattle.upstream.proofs.Outcomes.{command_ok, command_if_ok, query_ok, query_if_ok}

-- a copy of the registry

pub record RegistryClauses (self : Store) (out : ReplyTo registry_copy) : Type 0 where
  pub S2_2 : out ≡ done (registry_view self)
  pub S2_3 : IfOk out RegistryWf

pub registry_S2 : (L : Limits) (s : Store) → StoreSound L s → RegistryClauses s (reply L s registry_copy)
unfolding reply
registry_S2 L s h =
    record {
      S2_2 = refl;
      S2_3 = query_if_ok L s registry_copy RegistryWf (λ k. sound_wf L s.registry h.registry);
    }

-- by identifier

module _ (id : PublicationId) (self : Store) where
  -- a payload is there
  abbrev pub Filled : Type 0
  Filled = (id.0 < length (values self)) × (is_some (value_at self id.0) ≡ true)

  pub record ValueClauses (out : ReplyTo (value id)) : Type 0 where
    pub S6_2 : (is_ok out ≡ true) ↔ Filled
    pub S6_3 : IfOk out (λ x. value_at self id.0 ≡ some x)

  pub record ObservationOk (x : Observation) : Type 0 where
    pub S7_3 : id.0 < length (revisions self)
    pub S7_4 : x.revision ≡ revision_at self id.0
    pub S7_5 : some x.handle ≡ value_at self id.0

  pub record ObservationClauses (out : AnswerTo (Observe id)) : Type 0 where
    pub S7_2 : (is_ok out ≡ true) ↔ Filled
    pub ok : IfOk out ObservationOk

-- through a lease

module _ (token : LeaseId) (self : Store) where
  -- the publication is the one that the active lease names
  abbrev pub Named : PublicationId → Type 0
  Named id = (l : Lease) × (active_lease (registry_view self) token ≡ some l) × (id ≡ l.publication)

  pub record LeasedValueOk (x : Leased) : Type 0 where
    pub S8_3 : Named x.id
    pub S8_4 : value_at self x.id.0 ≡ some x.handle

  pub record LeasedValueClauses (out : ReplyTo (leased_value token)) : Type 0 where
    pub S8_2 : (is_ok out ≡ true) ↔ (is_some (active_lease (registry_view self) token) ≡ true)
    pub ok : IfOk out LeasedValueOk

  pub record LeasedObservationOk (x : Reading) : Type 0 where
    pub S9_3 : Named x.id
    pub S9_4 : x.revision ≡ revision_at self x.id.0
    pub S9_5 : value_at self x.id.0 ≡ some x.handle

  pub record LeasedObservationClauses (out : AnswerTo (Read token)) : Type 0 where
    pub S9_2 : (is_ok out ≡ true) ↔ (is_some (active_lease (registry_view self) token) ≡ true)
    pub ok : IfOk out LeasedObservationOk

module _ (L : Limits) (s : Store) (h : StoreSound L s) where
  -- a retained publication's payload
  payload_there : (p : PublicationId) → (publication_of s p).retained ≡ true → value_at s p.0 ≡ some (payload_of s p)
  payload_there p kept = value_is L s h p.0 ∙ ap (λ (b : Bool). cond b (some (payload_of s p)) none) kept

  module _ (p : PublicationId) where
    kept : Clear (observe_row L s p) → (publication_of s p).retained ≡ true
    kept k = not-false (publication_of s p).retained (or_right (unknown s.registry p) (not (publication_of s p).retained) k.0)

    below : Clear (observe_row L s p) → p.0 < length s.registry.publications
    below k =
        leb-false (length s.registry.publications) p.0 (or_left (unknown s.registry p) (not (publication_of s p).retained) k.0)

    filled_exactly : Clear (observe_row L s p) ↔ Filled p s
    filled_exactly = (
      λ k. (rw (length-values L s h) (below k), ap is_some (payload_there p (kept k))),
      λ f.
          let there : (publication_of s p).retained ≡ true = sym ((store_sound_wf L s h).D13_5 p.0 f.0) ∙ f.1 in
          (rw (lt-leb (length s.registry.publications) p.0 (rw (length-values L s h) at f.0), there), tt),
    )

    pub value_S6 : ValueClauses p s (reply L s (value p))
    value_S6 =
        record {
          S6_2 = Iff.trans (query_ok L s (value p)) filled_exactly;
          S6_3 = query_if_ok L s (value p) (λ x. value_at s p.0 ≡ some x) (λ k. payload_there p (kept k));
        }

    pub observation_S7 : ObservationClauses p s (step L s (Observe p)).answer
    observation_S7 =
        record {
          S7_2 = Iff.trans (command_ok L s (Observe p)) filled_exactly;
          ok =
              command_if_ok L s (Observe p) (λ x u. ObservationOk p s x)
              (λ k. record { S7_3 = rw h.s5.revision_each (below k); S7_4 = refl; S7_5 = sym (payload_there p (kept k)) });
        }

  module _ (i : LeaseId) where
    lent : Clear (lease_row L s.registry i) → active s.registry i ≡ true
    lent k = not-false (active s.registry i) k.1.0

    named : Clear (lease_row L s.registry i) → Named i s (read_of s i)
    named k = (lease_of s.registry i, active_is s.registry i (lent k), refl)

    read_there : Clear (lease_row L s.registry i) → value_at s (read_of s i).0 ≡ some (payload_of s (read_of s i))
    read_there k = payload_there (read_of s i) (active_retained L s.registry h.registry i (lent k))

    pub leased_value_S8 : LeasedValueClauses i s (reply L s (leased_value i))
    leased_value_S8 =
        record {
          S8_2 = Iff.trans (query_ok L s (leased_value i)) (lease_row_exactly L s.registry h.registry i);
          ok = query_if_ok L s (leased_value i) (LeasedValueOk i s) (λ k. record { S8_3 = named k; S8_4 = read_there k });
        }

    pub leased_observation_S9 : LeasedObservationClauses i s (step L s (Read i)).answer
    leased_observation_S9 =
        record {
          S9_2 = Iff.trans (command_ok L s (Read i)) (lease_row_exactly L s.registry h.registry i);
          ok =
              command_if_ok L s (Read i) (λ x u. LeasedObservationOk i s x)
              (λ k. record { S9_3 = named k; S9_4 = refl; S9_5 = read_there k });
        }
