-- Every entry point ends with an answer.
-- Assumes nothing.
use mathlib.Core.Logic.{∥∥₁_prop, ∥∥₁_elim, ∥∥₁_map}
use base.Logic.{emp, sep, ex, via, id⊢, comm∗, emp∗, mono_l, mono_r}
use ghost.Model.{𝓤, H}
use contract.Adequate.{Satisfies, sat_weaken, sat_⇛, sat_ex∗}
use contract.BorrowModel.{logic₀}
use contract.Closed.{model⁺, real⁺_strict}
use contract.Running.{tables, tables_of}
use denote.Triple.Adequate.{adequate}
use denote.Triple.Clauses.{closing}
use denote.Triple.Entry.{on_entry}
use denote.Triple.Spec.{triple_of, Meets}
use denote.Triple.Statement.{Contract, Triple}
use prog.Memory.{Memory}
use prog.Routine.{Env}
use prog.Wired.{Wired}
use Rattle.rules.proofs.U64FromRefusal as refusal
use Rattle.registry.proofs.PublicationRegistry as registry
use Rattle.store.proofs.PublicationStore as store
use Rattle.store.proofs.ValueCell as cell
use Rattle.columns.proofs as columns
use Rattle.columns.proofs.records as records
use Rattle.text.proofs as text
use Rattle.blocks.proofs as blocks
use Rattle.reader.proofs as reader
use Rattle.trace.proofs as trace
use Rattle.trace.proofs.U64FromStop as stop
use Rattle.embed.proofs as embed
use Rattle.rules.proofs.Build as rules_build
use Rattle.columns.proofs.Build as columns_build
use Rattle.registry.proofs.Build as registry_build
use Rattle.store.proofs.Build as store_build
use Rattle.text.proofs.Build as text_build
use Rattle.blocks.proofs.Build as blocks_build
use Rattle.reader.proofs.Build as reader_build
use Rattle.trace.proofs.Build as trace_build
use Rattle.embed.proofs.Build as embed_build
use Rattle.demands.specs.Built.{built}
use Rattle.demands.specs.EntryPoints.{store_entries, cell_entries, registry_entries, trace_entries, columns_entries, embed_entries, number_entries, EachTotal, none, ◌and◌, ReaderEntry, CalledOn, Promised, ReaderBegins, Answered, ReaderAsksNothing, ReaderTotal, reader_new, reader_at_end, reader_next_block, reader_moved, ReadersTotal}
use Rattle.demands.specs.Ends.{Held}
use Rattle.demands.proofs.Standing.{in_rules, in_columns, in_registry, in_store, in_text, in_blocks, in_reader, in_trace, in_embed}
use Rattle.demands.proofs.Ending.{running, on_the_machine, total}

pub store_ends : EachTotal store_entries
store_ends =
    total store.new.Reads.known (on_the_machine store.new.Symbol.code store.new.Met.met) (λ κs a. tt) (in_store store.new.Symbol.code store_build.PublicationStore-new-stands)
    and total store.for_domain.Reads.known (on_the_machine store.for_domain.Symbol.code store.for_domain.Met.met) (λ κs a. tt) (in_store store.for_domain.Symbol.code store_build.PublicationStore-for_domain-stands)
    and total store.registry.Reads.known (on_the_machine store.registry.Symbol.code store.registry.Met.met) (λ κs a. tt) (in_store store.registry.Symbol.code store_build.PublicationStore-registry-stands)
    and total store.value.Reads.known (on_the_machine store.value.Symbol.code store.value.Met.met) (λ κs a. tt) (in_store store.value.Symbol.code store_build.PublicationStore-value-stands)
    and total store.observation.Reads.known (on_the_machine store.observation.Symbol.code store.observation.Met.met) (λ κs a. tt) (in_store store.observation.Symbol.code store_build.PublicationStore-observation-stands)
    and total store.leased_value.Reads.known (on_the_machine store.leased_value.Symbol.code store.leased_value.Met.met) (λ κs a. tt) (in_store store.leased_value.Symbol.code store_build.PublicationStore-leased_value-stands)
    and total store.leased_observation.Reads.known (on_the_machine store.leased_observation.Symbol.code store.leased_observation.Met.met) (λ κs a. tt) (in_store store.leased_observation.Symbol.code store_build.PublicationStore-leased_observation-stands)
    and total store.resolve.Reads.known (on_the_machine store.resolve.Symbol.code store.resolve.Met.met) (λ κs a. tt) (in_store store.resolve.Symbol.code store_build.PublicationStore-resolve-stands)
    and total store.retained_count.Reads.known (on_the_machine store.retained_count.Symbol.code store.retained_count.Met.met) (λ κs a. tt) (in_store store.retained_count.Symbol.code store_build.PublicationStore-retained_count-stands)
    and total store.contains_handle.Reads.known (on_the_machine store.contains_handle.Symbol.code store.contains_handle.Met.met) (λ κs a. tt) (in_store store.contains_handle.Symbol.code store_build.PublicationStore-contains_handle-stands)
    and total store.publish.Reads.known (on_the_machine store.publish.Symbol.code store.publish.Met.met) (λ κs a. tt) (in_store store.publish.Symbol.code store_build.PublicationStore-publish-stands)
    and total store.replace.Reads.known (on_the_machine store.replace.Symbol.code store.replace.Met.met) (λ κs a. tt) (in_store store.replace.Symbol.code store_build.PublicationStore-replace-stands)
    and total store.revoke.Reads.known (on_the_machine store.revoke.Symbol.code store.revoke.Met.met) (λ κs a. tt) (in_store store.revoke.Symbol.code store_build.PublicationStore-revoke-stands)
    and total store.acquire_for.Reads.known (on_the_machine store.acquire_for.Symbol.code store.acquire_for.Met.met) (λ κs a. tt) (in_store store.acquire_for.Symbol.code store_build.PublicationStore-acquire_for-stands)
    and total store.release.Reads.known (on_the_machine store.release.Symbol.code store.release.Met.met) (λ κs a. tt) (in_store store.release.Symbol.code store_build.PublicationStore-release-stands)
    and total store.adopt.Reads.known (on_the_machine store.adopt.Symbol.code store.adopt.Met.met) (λ κs a. tt) (in_store store.adopt.Symbol.code store_build.PublicationStore-adopt-stands)
    and total store.reclaim.Reads.known (on_the_machine store.reclaim.Symbol.code store.reclaim.Met.met) (λ κs a. tt) (in_store store.reclaim.Symbol.code store_build.PublicationStore-reclaim-stands)
    and total store.apply.Reads.known (on_the_machine store.apply.Symbol.code store.apply.Met.met) (λ κs a. tt) (in_store store.apply.Symbol.code store_build.PublicationStore-apply-stands)
    and none

pub cell_ends : EachTotal cell_entries
cell_ends =
    total cell.new.Reads.known (on_the_machine cell.new.Symbol.code cell.new.Met.met) (λ κs a. tt) (in_store cell.new.Symbol.code store_build.ValueCell-new-stands)
    and total cell.get.Reads.known (on_the_machine cell.get.Symbol.code cell.get.Met.met) (λ κs a. tt) (in_store cell.get.Symbol.code store_build.ValueCell-get-stands)
    and total cell.replace.Reads.known (on_the_machine cell.replace.Symbol.code cell.replace.Met.met) (λ κs a. tt) (in_store cell.replace.Symbol.code store_build.ValueCell-replace-stands)
    and none

pub registry_ends : EachTotal registry_entries
registry_ends =
    total registry.new.Reads.known (on_the_machine registry.new.Symbol.code registry.new.Met.met) (λ κs a. tt) (in_registry registry.new.Symbol.code registry_build.PublicationRegistry-new-stands)
    and total registry.default.Reads.known (on_the_machine registry.default.Symbol.code registry.default.Met.met) (λ κs a. tt) (in_registry registry.default.Symbol.code registry_build.PublicationRegistry-default-stands)
    and total registry.for_domain.Reads.known (on_the_machine registry.for_domain.Symbol.code registry.for_domain.Met.met) (λ κs a. tt) (in_registry registry.for_domain.Symbol.code registry_build.PublicationRegistry-for_domain-stands)
    and total registry.domain.Reads.known (on_the_machine registry.domain.Symbol.code registry.domain.Met.met) (λ κs a. tt) (in_registry registry.domain.Symbol.code registry_build.PublicationRegistry-domain-stands)
    and total registry.publication_records.Reads.known (on_the_machine registry.publication_records.Symbol.code registry.publication_records.Met.met) (λ κs a. tt) (in_registry registry.publication_records.Symbol.code registry_build.PublicationRegistry-publication_records-stands)
    and total registry.lease_record_count.Reads.known (on_the_machine registry.lease_record_count.Symbol.code registry.lease_record_count.Met.met) (λ κs a. tt) (in_registry registry.lease_record_count.Symbol.code registry_build.PublicationRegistry-lease_record_count-stands)
    and total registry.lease_allocation_count.Reads.known (on_the_machine registry.lease_allocation_count.Symbol.code registry.lease_allocation_count.Met.met) (λ κs a. tt) (in_registry registry.lease_allocation_count.Symbol.code registry_build.PublicationRegistry-lease_allocation_count-stands)
    and total registry.entry.Reads.known (on_the_machine registry.entry.Symbol.code registry.entry.Met.met) (λ κs a. tt) (in_registry registry.entry.Symbol.code registry_build.PublicationRegistry-entry-stands)
    and total registry.lease.Reads.known (on_the_machine registry.lease.Symbol.code registry.lease.Met.met) (λ κs a. tt) (in_registry registry.lease.Symbol.code registry_build.PublicationRegistry-lease-stands)
    and total registry.resolve.Reads.known (on_the_machine registry.resolve.Symbol.code registry.resolve.Met.met) (λ κs a. tt) (in_registry registry.resolve.Symbol.code registry_build.PublicationRegistry-resolve-stands)
    and total registry.publish.Reads.known (on_the_machine registry.publish.Symbol.code registry.publish.Met.met) (λ κs a. tt) (in_registry registry.publish.Symbol.code registry_build.PublicationRegistry-publish-stands)
    and total registry.can_adopt.Reads.known (on_the_machine registry.can_adopt.Symbol.code registry.can_adopt.Met.met) (λ κs a. tt) (in_registry registry.can_adopt.Symbol.code registry_build.PublicationRegistry-can_adopt-stands)
    and total registry.adopt.Reads.known (on_the_machine registry.adopt.Symbol.code registry.adopt.Met.met) (λ κs a. tt) (in_registry registry.adopt.Symbol.code registry_build.PublicationRegistry-adopt-stands)
    and total registry.check_lease_capacity.Reads.known (on_the_machine registry.check_lease_capacity.Symbol.code registry.check_lease_capacity.Met.met) (λ κs a. tt) (in_registry registry.check_lease_capacity.Symbol.code registry_build.PublicationRegistry-check_lease_capacity-stands)
    and total registry.acquire.Reads.known (on_the_machine registry.acquire.Symbol.code registry.acquire.Met.met) (λ κs a. tt) (in_registry registry.acquire.Symbol.code registry_build.PublicationRegistry-acquire-stands)
    and total registry.acquire_for.Reads.known (on_the_machine registry.acquire_for.Symbol.code registry.acquire_for.Met.met) (λ κs a. tt) (in_registry registry.acquire_for.Symbol.code registry_build.PublicationRegistry-acquire_for-stands)
    and total registry.leased_slot.Reads.known (on_the_machine registry.leased_slot.Symbol.code registry.leased_slot.Met.met) (λ κs a. tt) (in_registry registry.leased_slot.Symbol.code registry_build.PublicationRegistry-leased_slot-stands)
    and total registry.release.Reads.known (on_the_machine registry.release.Symbol.code registry.release.Met.met) (λ κs a. tt) (in_registry registry.release.Symbol.code registry_build.PublicationRegistry-release-stands)
    and total registry.revoke.Reads.known (on_the_machine registry.revoke.Symbol.code registry.revoke.Met.met) (λ κs a. tt) (in_registry registry.revoke.Symbol.code registry_build.PublicationRegistry-revoke-stands)
    and total registry.reclaim.Reads.known (on_the_machine registry.reclaim.Symbol.code registry.reclaim.Met.met) (λ κs a. tt) (in_registry registry.reclaim.Symbol.code registry_build.PublicationRegistry-reclaim-stands)
    and none

pub trace_ends : EachTotal trace_entries
trace_ends =
    total trace.run.Reads.known (on_the_machine trace.run.Symbol.code trace.run.Met.met) (λ κs a. tt) (in_trace trace.run.Symbol.code trace_build.run-stands)
    and total trace.report.Reads.known (on_the_machine trace.report.Symbol.code trace.report.Met.met) (λ κs a. tt) (in_trace trace.report.Symbol.code trace_build.report-stands)
    and total blocks.block_at.Reads.known (on_the_machine blocks.block_at.Symbol.code blocks.block_at.Met.met) (λ κs a. tt) (in_blocks blocks.block_at.Symbol.code blocks_build.block_at-stands)
    and total reader.block_after.Reads.known (on_the_machine reader.block_after.Symbol.code reader.block_after.Met.met) (λ κs a. tt) (in_reader reader.block_after.Symbol.code reader_build.block_after-stands)
    and total text.op_at.Reads.known (on_the_machine text.op_at.Symbol.code text.op_at.Met.met) (λ κs a. tt) (in_text text.op_at.Symbol.code text_build.op_at-stands)
    and total text.key_line_at.Reads.known (on_the_machine text.key_line_at.Symbol.code text.key_line_at.Met.met) (λ κs a. tt) (in_text text.key_line_at.Symbol.code text_build.key_line_at-stands)
    and total text.key_code.Reads.known (on_the_machine text.key_code.Symbol.code text.key_code.Met.met) (λ κs a. tt) (in_text text.key_code.Symbol.code text_build.key_code-stands)
    and total text.word_at.Reads.known (on_the_machine text.word_at.Symbol.code text.word_at.Met.met) (λ κs a. tt) (in_text text.word_at.Symbol.code text_build.word_at-stands)
    and total text.read_value.Reads.known (on_the_machine text.read_value.Symbol.code text.read_value.Met.met) (λ κs a. tt) (in_text text.read_value.Symbol.code text_build.read_value-stands)
    and none

pub columns_ends : EachTotal columns_entries
columns_ends =
    total columns.is_sound.Reads.known (on_the_machine columns.is_sound.Symbol.code columns.is_sound.Met.met) (λ κs a. tt) (in_columns columns.is_sound.Symbol.code columns_build.is_sound-stands)
    and total columns.is_store_sound.Reads.known (on_the_machine columns.is_store_sound.Symbol.code columns.is_store_sound.Met.met) (λ κs a. tt) (in_columns columns.is_store_sound.Symbol.code columns_build.is_store_sound-stands)
    and total records.holds_port.Reads.known (on_the_machine records.holds_port.Symbol.code records.holds_port.Met.met) (λ κs a. tt) (in_columns records.holds_port.Symbol.code columns_build.records-holds_port-stands)
    and total records.holds_slot.Reads.known (on_the_machine records.holds_slot.Symbol.code records.holds_slot.Met.met) (λ κs a. tt) (in_columns records.holds_slot.Symbol.code columns_build.records-holds_slot-stands)
    and total records.is_owned_by.Reads.known (on_the_machine records.is_owned_by.Symbol.code records.is_owned_by.Met.met) (λ κs a. tt) (in_columns records.is_owned_by.Symbol.code columns_build.records-is_owned_by-stands)
    and total records.may_adopt.Reads.known (on_the_machine records.may_adopt.Symbol.code records.may_adopt.Met.met) (λ κs a. tt) (in_columns records.may_adopt.Symbol.code columns_build.records-may_adopt-stands)
    and total records.adopt_verdict.Reads.known (on_the_machine records.adopt_verdict.Symbol.code records.adopt_verdict.Met.met) (λ κs a. tt) (in_columns records.adopt_verdict.Symbol.code columns_build.records-adopt_verdict-stands)
    and total records.acquire_verdict.Reads.known (on_the_machine records.acquire_verdict.Symbol.code records.acquire_verdict.Met.met) (λ κs a. tt) (in_columns records.acquire_verdict.Symbol.code columns_build.records-acquire_verdict-stands)
    and total records.reclaim_verdict.Reads.known (on_the_machine records.reclaim_verdict.Symbol.code records.reclaim_verdict.Met.met) (λ κs a. tt) (in_columns records.reclaim_verdict.Symbol.code columns_build.records-reclaim_verdict-stands)
    and total records.replace_verdict.Reads.known (on_the_machine records.replace_verdict.Symbol.code records.replace_verdict.Met.met) (λ κs a. tt) (in_columns records.replace_verdict.Symbol.code columns_build.records-replace_verdict-stands)
    and total records.has_id.Reads.known (on_the_machine records.has_id.Symbol.code records.has_id.Met.met) (λ κs a. tt) (in_columns records.has_id.Symbol.code columns_build.records-has_id-stands)
    and total records.names_publication.Reads.known (on_the_machine records.names_publication.Symbol.code records.names_publication.Met.met) (λ κs a. tt) (in_columns records.names_publication.Symbol.code columns_build.records-names_publication-stands)
    and total records.blank_publication.Reads.known (on_the_machine records.blank_publication.Symbol.code records.blank_publication.Met.met) (λ κs a. tt) (in_columns records.blank_publication.Symbol.code columns_build.records-blank_publication-stands)
    and total records.blank_lease.Reads.known (on_the_machine records.blank_lease.Symbol.code records.blank_lease.Met.met) (λ κs a. tt) (in_columns records.blank_lease.Symbol.code columns_build.records-blank_lease-stands)
    and total records.is_kept.Reads.known (on_the_machine records.is_kept.Symbol.code records.is_kept.Met.met) (λ κs a. tt) (in_columns records.is_kept.Symbol.code columns_build.records-is_kept-stands)
    and total records.mark_of.Reads.known (on_the_machine records.mark_of.Symbol.code records.mark_of.Met.met) (λ κs a. tt) (in_columns records.mark_of.Symbol.code columns_build.records-mark_of-stands)
    and total records.is_both.Reads.known (on_the_machine records.is_both.Symbol.code records.is_both.Met.met) (λ κs a. tt) (in_columns records.is_both.Symbol.code columns_build.records-is_both-stands)
    and total records.is_either.Reads.known (on_the_machine records.is_either.Symbol.code records.is_either.Met.met) (λ κs a. tt) (in_columns records.is_either.Symbol.code columns_build.records-is_either-stands)
    and total records.is_in_order.Reads.known (on_the_machine records.is_in_order.Symbol.code records.is_in_order.Met.met) (λ κs a. tt) (in_columns records.is_in_order.Symbol.code columns_build.records-is_in_order-stands)
    and total records.is_nobody.Reads.known (on_the_machine records.is_nobody.Symbol.code records.is_nobody.Met.met) (λ κs a. tt) (in_columns records.is_nobody.Symbol.code columns_build.records-is_nobody-stands)
    and total records.is_blank_record.Reads.known (on_the_machine records.is_blank_record.Symbol.code records.is_blank_record.Met.met) (λ κs a. tt) (in_columns records.is_blank_record.Symbol.code columns_build.records-is_blank_record-stands)
    and total records.is_blank_lease.Reads.known (on_the_machine records.is_blank_lease.Symbol.code records.is_blank_lease.Met.met) (λ κs a. tt) (in_columns records.is_blank_lease.Symbol.code columns_build.records-is_blank_lease-stands)
    and total records.is_own_cell.Reads.known (on_the_machine records.is_own_cell.Symbol.code records.is_own_cell.Met.met) (λ κs a. tt) (in_columns records.is_own_cell.Symbol.code columns_build.records-is_own_cell-stands)
    and total records.is_blank_cell.Reads.known (on_the_machine records.is_blank_cell.Symbol.code records.is_blank_cell.Met.met) (λ κs a. tt) (in_columns records.is_blank_cell.Symbol.code columns_build.records-is_blank_cell-stands)
    and none

pub embed_ends : EachTotal embed_entries
embed_ends =
    total embed.lease_broker_run.Reads.known (on_the_machine embed.lease_broker_run.Symbol.code embed.lease_broker_run.Met.met) (λ κs a. tt) (in_embed embed.lease_broker_run.Symbol.code embed_build.lease_broker_run-stands)
    and total embed.lease_broker_report.Reads.known (on_the_machine embed.lease_broker_report.Symbol.code embed.lease_broker_report.Met.met) (λ κs a. tt) (in_embed embed.lease_broker_report.Symbol.code embed_build.lease_broker_report-stands)
    and total embed.lease_broker_name.Reads.known (on_the_machine embed.lease_broker_name.Symbol.code embed.lease_broker_name.Met.met) (λ κs a. tt) (in_embed embed.lease_broker_name.Symbol.code embed_build.lease_broker_name-stands)
    and none

pub number_ends : EachTotal number_entries
number_ends =
    total refusal.from.Reads.known (on_the_machine refusal.from.Symbol.code refusal.from.Met.met) (λ κs a. tt) (in_rules refusal.from.Symbol.code rules_build.number-stands)
    and total stop.from.Reads.known (on_the_machine stop.from.Symbol.code stop.from.Met.met) (λ κs a. tt) (in_trace stop.from.Symbol.code trace_build.number-stands)
    and none

-- a call with a reader, from its theorem
module _ (f : ReaderEntry) (γ : Env)
    (met : Meets logic₀ f.ended.signature ((running γ).run (γ f.name)) (closing logic₀ f.ended f.contract))
    (nothing : ReaderAsksNothing f) where
  abbrev c : Contract 𝓤
  c = triple_of logic₀ f.ended.signature (closing logic₀ f.ended f.contract)

  in_its_table : Triple 𝓤 ((tables 𝓤 H model⁺ (running γ) γ).C f.name) c
  unfolding tables_of
  in_its_table = met

  module _ (x : CalledOn f) (σ : Memory) (rest : Held) (begins : ReaderBegins f x σ rest) where
    abbrev on : Held
    on = on_entry logic₀ f.ended.signature x.0 x.1 x.3 x.4

    asked : Satisfies 𝓤 H model⁺ σ (sep 𝓤 (c.pre (x, f.ghost x.0 x.3)) rest)
    asked =
        sat_weaken 𝓤 H model⁺ σ
        (mono_l 𝓤 rest (via 𝓤 (sep 𝓤 on (emp 𝓤)) (via 𝓤 (sep 𝓤 (emp 𝓤) on) (emp∗ 𝓤 on) (comm∗ 𝓤 (emp 𝓤) on)) (mono_r 𝓤 on (nothing x.0 x.3))))
        begins

    answered : ∥ Answered f γ x σ rest ∥₁
    answered =
        ∥∥₁_elim
        (adequate 𝓤 H model⁺ (tables 𝓤 H model⁺ (running γ) γ) real⁺_strict f.name c in_its_table (x, f.ghost x.0 x.3) σ rest asked)
        ∥∥₁_prop
        (λ e.
        ∥∥₁_map
        (sat_ex∗ 𝓤 H model⁺ e.2 (Promised f x e.1) rest (sat_⇛ 𝓤 H model⁺ e.2 (ex 𝓤 (Promised f x e.1)) rest e.4))
        (λ z. record { steps = e.0; value = e.1; memory = e.2; runs = e.3; answer = z.0; holds = z.1 }))

reader_total : (f : ReaderEntry)
    → ((γ : Env) → Wired γ f.code → Meets logic₀ f.ended.signature ((running γ).run (γ f.name)) (closing logic₀ f.ended f.contract))
    → ReaderAsksNothing f → Wired built f.code → ReaderTotal f
reader_total f met nothing stands =
    record { asks_nothing = nothing; ends = λ γ wired. answered f γ (met γ wired) nothing; in_build = stands }

pub readers_end : ReadersTotal
readers_end =
    record {
      new = reader_total reader_new (on_the_machine reader.Reader.new.Symbol.code reader.Reader.new.Met.met) (λ κs a. id⊢ 𝓤 (emp 𝓤)) (in_reader reader.Reader.new.Symbol.code reader_build.Reader-new-stands);
      at_end = reader_total reader_at_end (on_the_machine reader.Reader.at_end.Symbol.code reader.Reader.at_end.Met.met) (λ κs a. id⊢ 𝓤 (emp 𝓤)) (in_reader reader.Reader.at_end.Symbol.code reader_build.Reader-at_end-stands);
      next_block = reader_total reader_next_block (on_the_machine reader.Reader.next_block.Symbol.code reader.Reader.next_block.Met.met) (λ κs a. id⊢ 𝓤 (emp 𝓤)) (in_reader reader.Reader.next_block.Symbol.code reader_build.Reader-next_block-stands);
      moved = reader_total reader_moved (on_the_machine reader.Reader.moved.Symbol.code reader.Reader.moved.Met.met) (λ κs a. id⊢ 𝓤 (emp 𝓤)) (in_reader reader.Reader.moved.Symbol.code reader_build.Reader-moved-stands);
    }
