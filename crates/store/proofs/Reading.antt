-- What the queries show of a sound store is what their rows say; read and observe without the revision are the same, narrowed.
-- Assumes nothing.
use Rattle.std.specs.Prelude.{Option, Some, None, Result, Ok, Err}
use Prim.Native.Nat.{ℕ, ◌<◌}
use mathlib.Core.Path.{◌≡◌, refl, sym, ap, ◌∙◌}
use mathlib.Core.Bool.{true, false}
use native.Mathlib.Omega.{arith}
use lib.ListN.{take, get_or}
use Rattle.lists.specs.Search.{first_place}
use Rattle.rules.specs.Limits.{Limits, box}
use Rattle.rules.specs.Answers as rows
use Rattle.rules.specs.Answers.{verdict, settle, carry}
use Rattle.rules.specs.Table.{Store, blank_lease, payload_of, revision_of}
use Rattle.rules.specs.Conditions.{is_lease}
use Rattle.rules.specs.Columns.{RegistryColumns, StoreColumns, used_registry, used}
use Rattle.rules.specs.Sound.{StoreColumnsSound}
use Rattle.rules.specs.SoundTest.{store_test}
use Rattle.rules.specs.Rows.{lease_row, observe_row, result, step}
use Rattle.rules.specs.Queries.{value, leased_value, registry_copy, query_result, reply}
use Rattle.rules.specs.Calls.{query}
use Rattle.rules.specs.declared.PublicationId.{PublicationId}
use Rattle.rules.specs.declared.LeaseId.{LeaseId}
use Rattle.rules.specs.declared.Lease.{Lease}
use Rattle.rules.specs.declared.Refusal.{Refusal}
use Rattle.rules.specs.declared.Refusal.TheVariants.{Absent}
use Rattle.rules.specs.declared.Reading.{Reading}
use Rattle.rules.specs.declared.Observation.{Observation}
use Rattle.rules.specs.declared.Leased.{Leased}
use Rattle.rules.specs.declared.Publication.{Publication}
use Rattle.rules.specs.declared.Command.TheVariants.{Read, Observe}
use Rattle.rules.proofs.Columns.{registry_columns, count_room, lease_used, payload_used, revision_used}
use Rattle.rules.proofs.Called.{query_sound}
use Rattle.rules.proofs.Refusals.{refused_exactly, carried_out_exactly, query_answered_exactly}
use Rattle.columns.specs.Verdicts.{known_of, lookup_of}
use Rattle.columns.proofs.Verdicts.{not_known, known_there, known_is, looked_stop}
use Rattle.columns.proofs.Passes.{publication_below, lease_passes, lease_place}
use Rattle.registry.specs.Columns.{registry_of}
use Rattle.registry.specs.Answers.{result_of}
use Rattle.store.specs.Answers.{registry_copy_of}
use Rattle.store.proofs.Guard.{sound_when}

module _ {L : Limits} {c : StoreColumns} (h : StoreColumnsSound L c) where
  module _ (p : PublicationId) {w : Option Publication} (k : w ≡ known_of (take c.registry.count c.registry.publications) p) where
    -- its cell is one of the store's
    pub cell_below : {e : Publication} → w ≡ Some e → p.0 < L.publications
    cell_below t =
        omega (arith, publication_below (registry_columns L c h) p k t, count_room L c.registry (registry_columns L c h))

    abbrev shown : Result Observation Refusal
    shown = result_of (step L (used c) (Observe p)).answer

    pub observe_unknown : w ≡ None → Err Absent ≡ shown
    observe_unknown t =
        let u : verdict (observe_row L (used c) p) ≡ rows.stop Absent =
        rw (not_known (take c.registry.count c.registry.publications) p k t) in
        sym (ap result_of ((refused_exactly L (used c) (Observe p) Absent).1 u))

    module _ {e : Publication} (t : w ≡ Some e) where
      pub observe_reclaimed : e.retained ≡ false → Err Absent ≡ shown
      observe_reclaimed r =
          let u : verdict (observe_row L (used c) p) ≡ rows.stop Absent =
          rw (known_there (take c.registry.count c.registry.publications) p k t, known_is (take c.registry.count c.registry.publications) p k t, r) in
          sym (ap result_of ((refused_exactly L (used c) (Observe p) Absent).1 u))

      pub observe_done : e.retained ≡ true
          → Ok (record { revision = get_or c.revisions p.0 0; handle = get_or c.payloads p.0 0 }) ≡ shown
      observe_done r =
          let u : verdict (observe_row L (used c) p) ≡ rows.pass =
          rw (known_there (take c.registry.count c.registry.publications) p k t, known_is (take c.registry.count c.registry.publications) p k t, r) in
          sym (ap result_of ((carried_out_exactly L (used c) (Observe p)).1 u) ∙ rw (← revision_used L c h p.0, ← payload_used L c h p.0))

  abbrev reading : PublicationId → Result Reading Refusal
  reading p = Ok (record { id = p; revision = revision_of (used c) p; handle = payload_of (used c) p })

  module _ (i : LeaseId) {w : Result ℕ Refusal}
      (e : w ≡ lookup_of (verdict (lease_row L (used_registry c.registry) i)) (first_place (is_lease i) (take c.registry.active c.registry.leases))) where
    abbrev lent : Result Reading Refusal
    lent = result_of (step L (used c) (Read i)).answer

    pub read_refused : {r : Refusal} → w ≡ Err r → Err r ≡ lent
    read_refused {r} t =
        sym (ap result_of ((refused_exactly L (used c) (Read i) r).1 (looked_stop (verdict (lease_row L (used_registry c.registry) i)) (first_place (is_lease i) (take c.registry.active c.registry.leases)) e t)))

    module _ {k : ℕ} (t : w ≡ Ok k) where
      abbrev named : PublicationId
      named = (get_or c.registry.leases k blank_lease).publication

      pub read_done : Ok (record { id = named; revision = get_or c.revisions named.0 0; handle = get_or c.payloads named.0 0 }) ≡ lent
      read_done =
          let r = registry_columns L c h in
          sym
          (ap result_of ((carried_out_exactly L (used c) (Read i)).1 (lease_passes r i e t))
          ∙ ap (λ (n : ℕ). reading (get_or (take c.registry.active c.registry.leases) n blank_lease).publication) (lease_place r i e t)
          ∙ ap (λ (l : Lease). reading l.publication) (sym (lease_used L c.registry r k))
          ∙ rw (← revision_used L c h named.0, ← payload_used L c h named.0))

-- without the revision

abbrev pub handle_of : Result Observation Refusal → Result ℕ Refusal
handle_of (Err r) = Err r
handle_of (Ok x) = Ok x.handle

abbrev pub leased_of : Result Reading Refusal → Result Leased Refusal
leased_of (Err r) = Err r
leased_of (Ok x) = Ok (record { id = x.id; handle = x.handle })

module _ (L : Limits) (s : Store) where
  value_of : (p : PublicationId) → handle_of (result_of (step L s (Observe p)).answer) ≡ result_of (reply L s (value p))
  unfolding step reply
  value_of p = go (verdict (observe_row L s p))
    where
      go : (v : rows.Verdict) → handle_of (result_of (carry v s (tt {0}) (result s (Observe p)) s).answer) ≡ result_of (settle v (query_result s (value p)) (tt {0}))
      go rows.pass = refl
      go (rows.stop r) = refl

  leased_value_of : (i : LeaseId) → leased_of (result_of (step L s (Read i)).answer) ≡ result_of (reply L s (leased_value i))
  unfolding step reply
  leased_value_of i = go (verdict (lease_row L s.registry i))
    where
      go : (v : rows.Verdict) → leased_of (result_of (carry v s (tt {0}) (result s (Read i)) s).answer) ≡ result_of (settle v (query_result s (leased_value i)) (tt {0}))
      go rows.pass = refl
      go (rows.stop r) = refl

module _ (c : StoreColumns) (t : store_test box c ≡ true) where
  pub value_when : (p : PublicationId) {w x : Result Observation Refusal} → w ≡ result_of (step box (used c) (Observe p)).answer → w ≡ x
      → handle_of x ≡ result_of (query box c (value p))
  value_when p f g = ap handle_of (sym g ∙ f) ∙ value_of box (used c) p ∙ sym (ap result_of (query_sound box c (sound_when c t) (value p)))

  pub leased_value_when : (i : LeaseId) {w x : Result Reading Refusal} → w ≡ result_of (step box (used c) (Read i)).answer → w ≡ x
      → leased_of x ≡ result_of (query box c (leased_value i))
  leased_value_when i f g = ap leased_of (sym g ∙ f) ∙ leased_value_of box (used c) i ∙ sym (ap result_of (query_sound box c (sound_when c t) (leased_value i)))

-- the registry's columns are those of the copy
module _ (c : StoreColumns) where
  pub copy_when : store_test box c ≡ true → record { answer = Ok tt; table = registry_of c.registry } ≡ registry_copy_of (query box c registry_copy)
  copy_when t =
      let s = sound_when c t in
      sym
      (ap registry_copy_of (query_sound box c s registry_copy ∙ (query_answered_exactly box (used c) registry_copy).1 refl)
      ∙ ap (λ (x : RegistryColumns). record { answer = Ok tt; table = registry_of x }) (registry_columns box c s).s6)
