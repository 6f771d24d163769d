-- Every call meets upstream's contract: by the rows on a sound table, and so of what the calls give on sound columns.
-- Assumes nothing.
use mathlib.Core.Path.{sym, ap, subst, ◌∙◌}
use Rattle.rules.specs.Limits.{Limits}
use Rattle.rules.specs.Commands.{AnswerTo}
use Rattle.rules.specs.Table.{Registry, Store}
use Rattle.rules.specs.Rows.{step}
use Rattle.rules.specs.Queries.{Query, leased_value, value, contains_handle, registry_copy, ReplyTo, reply}
use Rattle.rules.specs.RegistryRows.{Call, publish, can_adopt, adopt, check_lease_capacity, acquire, leased_slot, release, revoke, reclaim, resolve, entry, lease, domain, publication_records, lease_record_count, lease_allocation_count, CallAnswer, registry_step}
use Rattle.rules.specs.Columns.{RegistryColumns, StoreColumns, used_registry, used}
use Rattle.rules.specs.Sound.{RegistrySound, StoreSound, RegistryColumnsSound, StoreColumnsSound}
use Rattle.rules.specs.Calls.{command, query, registry_call}
use Rattle.rules.specs.declared.Command.{Command}
use Rattle.rules.specs.declared.Command.TheVariants.{Publish, Adopt, Acquire, Release, Revoke, Replace, Reclaim, Read, Observe, Resolve, Count}
use Rattle.rules.proofs.KeepsStore.{step_sound}
use Rattle.rules.proofs.Columns.{used_filled_registry, used_filled}
use Rattle.rules.proofs.Called.{call_answers, call_leaves, command_answers, command_leaves, query_sound}
use Rattle.upstream.proofs.Queries.{DomainClauses, EntryClauses, LeaseClauses, LeasedSlotClauses, domain_R2, entry_R8, lease_R9, leased_slot_R17}
use Rattle.upstream.proofs.Resolve.{ResolveClauses, resolve_R10, store_resolve}
use Rattle.upstream.proofs.Counts.{PublicationRecordsClauses, LeaseRecordCountClauses, LeaseAllocationCountClauses, RetainedCountClauses, ContainsHandleClauses, publication_records_R5, lease_record_count_R6, lease_allocation_count_R7, retained_count_S17, contains_handle_S18}
use Rattle.upstream.proofs.Publish.{PublishClauses, StorePublishClauses, publish_R11, publish_S3}
use Rattle.upstream.proofs.Adopt.{CanAdoptClauses, AdoptClauses, StoreAdoptClauses, can_adopt_R12, adopt_R13, adopt_S14}
use Rattle.upstream.proofs.Acquire.{CheckLeaseCapacityClauses, AcquireClauses, StoreAcquireClauses, check_lease_capacity_R14, acquire_R22, acquire_for_S12}
use Rattle.upstream.proofs.Release.{ReleaseClauses, StoreReleaseClauses, release_R18, release_S13}
use Rattle.upstream.proofs.Revoke.{RevokeClauses, StoreRevokeClauses, revoke_R19, revoke_S11}
use Rattle.upstream.proofs.Reclaim.{ReclaimClauses, StoreReclaimClauses, reclaim_R20, reclaim_S15}
use Rattle.upstream.proofs.Replace.{ReplaceClauses, replace_S10}
use Rattle.upstream.proofs.StoreQueries.{RegistryClauses, ValueClauses, ObservationClauses, LeasedValueClauses, LeasedObservationClauses, registry_S2, value_S6, observation_S7, leased_value_S8, leased_observation_S9}

module _ (L : Limits) where
  -- the contract of each call of the registry, of each command of the store, and of each other query of it

  abbrev pub RegistryContract : (k : Call) → Registry → Registry → CallAnswer k → Type 0
  RegistryContract (publish o g q n) old final out = PublishClauses o g q n old final out
  RegistryContract (can_adopt p o g) old final out = CanAdoptClauses p o g old out
  RegistryContract (adopt p o g) old final out = AdoptClauses p o g old final out
  RegistryContract (check_lease_capacity n) old final out = CheckLeaseCapacityClauses L n old out
  RegistryContract (acquire p c) old final out = AcquireClauses L p c old final out
  RegistryContract (leased_slot i) old final out = LeasedSlotClauses i old out
  RegistryContract (release i) old final out = ReleaseClauses i old final out
  RegistryContract (revoke p) old final out = RevokeClauses p old final out
  RegistryContract (reclaim p) old final out = ReclaimClauses p old final out
  RegistryContract (resolve q) old final out = ResolveClauses q old out
  RegistryContract (entry p) old final out = EntryClauses p old out
  RegistryContract (lease i) old final out = LeaseClauses i old out
  RegistryContract domain old final out = DomainClauses old out
  RegistryContract publication_records old final out = PublicationRecordsClauses old out
  RegistryContract lease_record_count old final out = LeaseRecordCountClauses old out
  RegistryContract lease_allocation_count old final out = LeaseAllocationCountClauses old out

  abbrev pub StoreContract : (c : Command) → Store → Store → AnswerTo c → Type 0
  StoreContract (Publish o g q v) old final out = StorePublishClauses o g q v old final out
  StoreContract (Adopt p o g) old final out = StoreAdoptClauses p o g old final out
  StoreContract (Acquire p o g) old final out = StoreAcquireClauses L p o g old final out
  StoreContract (Release i) old final out = StoreReleaseClauses i old final out
  StoreContract (Revoke p) old final out = StoreRevokeClauses p old final out
  StoreContract (Replace p o g v) old final out = ReplaceClauses L p o g v old final out
  StoreContract (Reclaim p) old final out = StoreReclaimClauses p old final out
  StoreContract (Read i) old final out = LeasedObservationClauses i old out
  StoreContract (Observe p) old final out = ObservationClauses p old out
  StoreContract (Resolve q) old final out = ResolveClauses q old.registry out
  StoreContract Count old final out = RetainedCountClauses old out

  abbrev pub QueryContract : (q : Query) → Store → ReplyTo q → Type 0
  QueryContract (leased_value i) self out = LeasedValueClauses i self out
  QueryContract (value p) self out = ValueClauses p self out
  QueryContract (contains_handle v) self out = ContainsHandleClauses v self out
  QueryContract registry_copy self out = RegistryClauses self out

  -- by the rows

  pub registry_meets : (t : Registry) → RegistrySound L t → (k : Call) → RegistryContract k t (registry_step L t k).table (registry_step L t k).answer
  registry_meets t s (publish o g q n) = publish_R11 L o g q n t s
  registry_meets t s (can_adopt p o g) = can_adopt_R12 L p o g t
  registry_meets t s (adopt p o g) = adopt_R13 L p o g t s
  registry_meets t s (check_lease_capacity n) = check_lease_capacity_R14 L n t
  registry_meets t s (acquire p c) = acquire_R22 L t p s c
  registry_meets t s (leased_slot i) = leased_slot_R17 L t i
  registry_meets t s (release i) = release_R18 L i t s
  registry_meets t s (revoke p) = revoke_R19 L p t s
  registry_meets t s (reclaim p) = reclaim_R20 L p t s
  registry_meets t s (resolve q) = resolve_R10 L q t
  registry_meets t s (entry p) = entry_R8 L t p
  registry_meets t s (lease i) = lease_R9 L t i
  registry_meets t s domain = domain_R2 L t
  registry_meets t s publication_records = publication_records_R5 L t
  registry_meets t s lease_record_count = lease_record_count_R6 L t
  registry_meets t s lease_allocation_count = lease_allocation_count_R7 L t

  pub store_meets : (s : Store) → StoreSound L s → (c : Command) → StoreContract c s (step L s c).table (step L s c).answer
  store_meets s h (Publish o g q v) = publish_S3 L o g q v s h
  store_meets s h (Adopt p o g) = adopt_S14 L p o g s h
  store_meets s h (Acquire p o g) = acquire_for_S12 L s h p o g
  store_meets s h (Release i) = release_S13 L i s h
  store_meets s h (Revoke p) = revoke_S11 L p s h
  store_meets s h (Replace p o g v) = replace_S10 L s h p o g v
  store_meets s h (Reclaim p) = reclaim_S15 L p s h
  store_meets s h (Read i) = leased_observation_S9 L s h i
  store_meets s h (Observe p) = observation_S7 L s h p
  store_meets s h (Resolve q) = store_resolve L q s
  store_meets s h Count = retained_count_S17 L s h

  pub query_meets : (s : Store) → StoreSound L s → (q : Query) → QueryContract q s (reply L s q)
  query_meets s h (leased_value i) = leased_value_S8 L s h i
  query_meets s h (value p) = value_S6 L s h p
  query_meets s h (contains_handle v) = contains_handle_S18 L s h v
  query_meets s h registry_copy = registry_S2 L s h

  -- by the calls, of the records in use before and after

  pub registry_call_meets : (c : RegistryColumns) → RegistryColumnsSound L c → (k : Call)
      → RegistryContract k (used_registry c) (used_registry (registry_call L c k).table) (registry_call L c k).answer
  registry_call_meets c s k =
      subst (λ (a : CallAnswer k). RegistryContract k t (used_registry (registry_call L c k).table) a) (sym (call_answers L c k s))
      (subst (λ (u : Registry). RegistryContract k t u (registry_step L t k).answer)
      (sym (ap used_registry (call_leaves L c k s) ∙ used_filled_registry L (registry_step L t k).table))
      (registry_meets t s.in_use k))
    where
      t : Registry
      t = used_registry c

  pub command_meets : (t : StoreColumns) → StoreColumnsSound L t → (c : Command)
      → StoreContract c (used t) (used (command L t c).table) (command L t c).answer
  command_meets t s c =
      subst (λ (a : AnswerTo c). StoreContract c (used t) (used (command L t c).table) a) (sym (command_answers L t c s))
      (subst (λ (u : Store). StoreContract c (used t) u (step L (used t) c).answer)
      (sym (ap used (command_leaves L t c s) ∙ used_filled L (step L (used t) c).table after.s5.payload_each after.s5.revision_each))
      (store_meets (used t) s.in_use c))
    where
      after : StoreSound L (step L (used t) c).table
      after = step_sound L (used t) c s.in_use

  pub query_call_meets : (t : StoreColumns) → StoreColumnsSound L t → (q : Query) → QueryContract q (used t) (query L t q)
  query_call_meets t s q = subst (λ (a : ReplyTo q). QueryContract q (used t) a) (sym (query_sound L t s q)) (query_meets (used t) s.in_use q)
