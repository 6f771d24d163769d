-- The entry points: every public call of the store, of the value cell, of the registry, of the tests of columns, of the trace, of its text, of
-- the trace reader, of the library for C and of the numbers of refusals and stops, each with the contract that its source states and the code that the machine runs.
-- Assumes nothing.
use Rattle.std.specs.Prelude.{ℕ, ◌≡◌, List, [], ◌∷◌}
use base.Logic.{ent, emp, sep}
use contract.Adequate.{Satisfies}
use contract.BorrowModel.{logic₀}
use contract.Lifetimes.{Lfts}
use denote.Triple.Bound.{Bound, passed}
use denote.Triple.Clauses.{Ended, Clauses, ensured}
use denote.Triple.Entry.{Args, Res, on_entry}
use denote.Triple.Spec.{Back}
use ghost.Model.{𝓤, H}
use contract.Closed.{model⁺, real⁺}
use mir.Val.{Val}
use prog.Machine.{done}
use prog.Memory.{Memory}
use prog.Routine.{Callee, Env, step}
use prog.Wired.{Code, Wired}
use borrow.Fn.Kinds.{ParamKind, ResultKind, In, Out}
use Rattle.rules.proofs.U64FromRefusal as refusal
use Rattle.registry.proofs.PublicationRegistry as registry
use Rattle.store.proofs.PublicationStore as store
use Rattle.store.proofs.ValueCell as cell
use Rattle.columns.proofs as columns
use Rattle.columns.proofs.records as records
use Rattle.text.proofs as text
use Rattle.blocks.proofs as blocks
use Rattle.reader.proofs as reader
use Rattle.reader.specs.contracts as contracts
use Rattle.trace.proofs as trace
use Rattle.trace.proofs.U64FromStop as stop
use Rattle.embed.proofs as embed
use Rattle.demands.specs.Built.{built}
use Rattle.demands.specs.Ends.{Entry, Held, Total}

abbrev pub entry : {n : ℕ} (ps : List (ParamKind n)) (r : ResultKind n) → In n ps → Out n ps r → Code → Callee → Entry
entry {n} ps r asks promises code name =
    record { lifetimes = n; parameters = ps; result = r; asks = asks; promises = promises; code = code; name = name }

abbrev pub store_entries : List Entry
store_entries =
    entry store.new.Kinds.ps store.new.Kinds.r store.new.Reads.Asked store.new.Reads.Post store.new.Symbol.code store.new.Symbol.name
    ∷ entry store.for_domain.Kinds.ps store.for_domain.Kinds.r store.for_domain.Reads.Asked store.for_domain.Reads.Post store.for_domain.Symbol.code store.for_domain.Symbol.name
    ∷ entry store.registry.Kinds.ps store.registry.Kinds.r store.registry.Reads.Asked store.registry.Reads.Post store.registry.Symbol.code store.registry.Symbol.name
    ∷ entry store.value.Kinds.ps store.value.Kinds.r store.value.Reads.Asked store.value.Reads.Post store.value.Symbol.code store.value.Symbol.name
    ∷ entry store.observation.Kinds.ps store.observation.Kinds.r store.observation.Reads.Asked store.observation.Reads.Post store.observation.Symbol.code store.observation.Symbol.name
    ∷ entry store.leased_value.Kinds.ps store.leased_value.Kinds.r store.leased_value.Reads.Asked store.leased_value.Reads.Post store.leased_value.Symbol.code store.leased_value.Symbol.name
    ∷ entry store.leased_observation.Kinds.ps store.leased_observation.Kinds.r store.leased_observation.Reads.Asked store.leased_observation.Reads.Post store.leased_observation.Symbol.code store.leased_observation.Symbol.name
    ∷ entry store.resolve.Kinds.ps store.resolve.Kinds.r store.resolve.Reads.Asked store.resolve.Reads.Post store.resolve.Symbol.code store.resolve.Symbol.name
    ∷ entry store.retained_count.Kinds.ps store.retained_count.Kinds.r store.retained_count.Reads.Asked store.retained_count.Reads.Post store.retained_count.Symbol.code store.retained_count.Symbol.name
    ∷ entry store.contains_handle.Kinds.ps store.contains_handle.Kinds.r store.contains_handle.Reads.Asked store.contains_handle.Reads.Post store.contains_handle.Symbol.code store.contains_handle.Symbol.name
    ∷ entry store.publish.Kinds.ps store.publish.Kinds.r store.publish.Reads.Asked store.publish.Reads.Post store.publish.Symbol.code store.publish.Symbol.name
    ∷ entry store.replace.Kinds.ps store.replace.Kinds.r store.replace.Reads.Asked store.replace.Reads.Post store.replace.Symbol.code store.replace.Symbol.name
    ∷ entry store.revoke.Kinds.ps store.revoke.Kinds.r store.revoke.Reads.Asked store.revoke.Reads.Post store.revoke.Symbol.code store.revoke.Symbol.name
    ∷ entry store.acquire_for.Kinds.ps store.acquire_for.Kinds.r store.acquire_for.Reads.Asked store.acquire_for.Reads.Post store.acquire_for.Symbol.code store.acquire_for.Symbol.name
    ∷ entry store.release.Kinds.ps store.release.Kinds.r store.release.Reads.Asked store.release.Reads.Post store.release.Symbol.code store.release.Symbol.name
    ∷ entry store.adopt.Kinds.ps store.adopt.Kinds.r store.adopt.Reads.Asked store.adopt.Reads.Post store.adopt.Symbol.code store.adopt.Symbol.name
    ∷ entry store.reclaim.Kinds.ps store.reclaim.Kinds.r store.reclaim.Reads.Asked store.reclaim.Reads.Post store.reclaim.Symbol.code store.reclaim.Symbol.name
    ∷ entry store.apply.Kinds.ps store.apply.Kinds.r store.apply.Reads.Asked store.apply.Reads.Post store.apply.Symbol.code store.apply.Symbol.name
    ∷ []

abbrev pub cell_entries : List Entry
cell_entries =
    entry cell.new.Kinds.ps cell.new.Kinds.r cell.new.Reads.Asked cell.new.Reads.Post cell.new.Symbol.code cell.new.Symbol.name
    ∷ entry cell.get.Kinds.ps cell.get.Kinds.r cell.get.Reads.Asked cell.get.Reads.Post cell.get.Symbol.code cell.get.Symbol.name
    ∷ entry cell.replace.Kinds.ps cell.replace.Kinds.r cell.replace.Reads.Asked cell.replace.Reads.Post cell.replace.Symbol.code cell.replace.Symbol.name
    ∷ []

abbrev pub registry_entries : List Entry
registry_entries =
    entry registry.new.Kinds.ps registry.new.Kinds.r registry.new.Reads.Asked registry.new.Reads.Post registry.new.Symbol.code registry.new.Symbol.name
    ∷ entry registry.default.Kinds.ps registry.default.Kinds.r registry.default.Reads.Asked registry.default.Reads.Post registry.default.Symbol.code registry.default.Symbol.name
    ∷ entry registry.for_domain.Kinds.ps registry.for_domain.Kinds.r registry.for_domain.Reads.Asked registry.for_domain.Reads.Post registry.for_domain.Symbol.code registry.for_domain.Symbol.name
    ∷ entry registry.domain.Kinds.ps registry.domain.Kinds.r registry.domain.Reads.Asked registry.domain.Reads.Post registry.domain.Symbol.code registry.domain.Symbol.name
    ∷ entry registry.publication_records.Kinds.ps registry.publication_records.Kinds.r registry.publication_records.Reads.Asked registry.publication_records.Reads.Post registry.publication_records.Symbol.code registry.publication_records.Symbol.name
    ∷ entry registry.lease_record_count.Kinds.ps registry.lease_record_count.Kinds.r registry.lease_record_count.Reads.Asked registry.lease_record_count.Reads.Post registry.lease_record_count.Symbol.code registry.lease_record_count.Symbol.name
    ∷ entry registry.lease_allocation_count.Kinds.ps registry.lease_allocation_count.Kinds.r registry.lease_allocation_count.Reads.Asked registry.lease_allocation_count.Reads.Post registry.lease_allocation_count.Symbol.code registry.lease_allocation_count.Symbol.name
    ∷ entry registry.entry.Kinds.ps registry.entry.Kinds.r registry.entry.Reads.Asked registry.entry.Reads.Post registry.entry.Symbol.code registry.entry.Symbol.name
    ∷ entry registry.lease.Kinds.ps registry.lease.Kinds.r registry.lease.Reads.Asked registry.lease.Reads.Post registry.lease.Symbol.code registry.lease.Symbol.name
    ∷ entry registry.resolve.Kinds.ps registry.resolve.Kinds.r registry.resolve.Reads.Asked registry.resolve.Reads.Post registry.resolve.Symbol.code registry.resolve.Symbol.name
    ∷ entry registry.publish.Kinds.ps registry.publish.Kinds.r registry.publish.Reads.Asked registry.publish.Reads.Post registry.publish.Symbol.code registry.publish.Symbol.name
    ∷ entry registry.can_adopt.Kinds.ps registry.can_adopt.Kinds.r registry.can_adopt.Reads.Asked registry.can_adopt.Reads.Post registry.can_adopt.Symbol.code registry.can_adopt.Symbol.name
    ∷ entry registry.adopt.Kinds.ps registry.adopt.Kinds.r registry.adopt.Reads.Asked registry.adopt.Reads.Post registry.adopt.Symbol.code registry.adopt.Symbol.name
    ∷ entry registry.check_lease_capacity.Kinds.ps registry.check_lease_capacity.Kinds.r registry.check_lease_capacity.Reads.Asked registry.check_lease_capacity.Reads.Post registry.check_lease_capacity.Symbol.code registry.check_lease_capacity.Symbol.name
    ∷ entry registry.acquire.Kinds.ps registry.acquire.Kinds.r registry.acquire.Reads.Asked registry.acquire.Reads.Post registry.acquire.Symbol.code registry.acquire.Symbol.name
    ∷ entry registry.acquire_for.Kinds.ps registry.acquire_for.Kinds.r registry.acquire_for.Reads.Asked registry.acquire_for.Reads.Post registry.acquire_for.Symbol.code registry.acquire_for.Symbol.name
    ∷ entry registry.leased_slot.Kinds.ps registry.leased_slot.Kinds.r registry.leased_slot.Reads.Asked registry.leased_slot.Reads.Post registry.leased_slot.Symbol.code registry.leased_slot.Symbol.name
    ∷ entry registry.release.Kinds.ps registry.release.Kinds.r registry.release.Reads.Asked registry.release.Reads.Post registry.release.Symbol.code registry.release.Symbol.name
    ∷ entry registry.revoke.Kinds.ps registry.revoke.Kinds.r registry.revoke.Reads.Asked registry.revoke.Reads.Post registry.revoke.Symbol.code registry.revoke.Symbol.name
    ∷ entry registry.reclaim.Kinds.ps registry.reclaim.Kinds.r registry.reclaim.Reads.Asked registry.reclaim.Reads.Post registry.reclaim.Symbol.code registry.reclaim.Symbol.name
    ∷ []

abbrev pub trace_entries : List Entry
trace_entries =
    entry trace.run.Kinds.ps trace.run.Kinds.r trace.run.Reads.Asked trace.run.Reads.Post trace.run.Symbol.code trace.run.Symbol.name
    ∷ entry trace.report.Kinds.ps trace.report.Kinds.r trace.report.Reads.Asked trace.report.Reads.Post trace.report.Symbol.code trace.report.Symbol.name
    ∷ entry blocks.block_at.Kinds.ps blocks.block_at.Kinds.r blocks.block_at.Reads.Asked blocks.block_at.Reads.Post blocks.block_at.Symbol.code blocks.block_at.Symbol.name
    ∷ entry reader.block_after.Kinds.ps reader.block_after.Kinds.r reader.block_after.Reads.Asked reader.block_after.Reads.Post reader.block_after.Symbol.code reader.block_after.Symbol.name
    ∷ entry text.op_at.Kinds.ps text.op_at.Kinds.r text.op_at.Reads.Asked text.op_at.Reads.Post text.op_at.Symbol.code text.op_at.Symbol.name
    ∷ entry text.key_line_at.Kinds.ps text.key_line_at.Kinds.r text.key_line_at.Reads.Asked text.key_line_at.Reads.Post text.key_line_at.Symbol.code text.key_line_at.Symbol.name
    ∷ entry text.key_code.Kinds.ps text.key_code.Kinds.r text.key_code.Reads.Asked text.key_code.Reads.Post text.key_code.Symbol.code text.key_code.Symbol.name
    ∷ entry text.word_at.Kinds.ps text.word_at.Kinds.r text.word_at.Reads.Asked text.word_at.Reads.Post text.word_at.Symbol.code text.word_at.Symbol.name
    ∷ entry text.read_value.Kinds.ps text.read_value.Kinds.r text.read_value.Reads.Asked text.read_value.Reads.Post text.read_value.Symbol.code text.read_value.Symbol.name
    ∷ []

abbrev pub columns_entries : List Entry
columns_entries =
    entry columns.is_sound.Kinds.ps columns.is_sound.Kinds.r columns.is_sound.Reads.Asked columns.is_sound.Reads.Post columns.is_sound.Symbol.code columns.is_sound.Symbol.name
    ∷ entry columns.is_store_sound.Kinds.ps columns.is_store_sound.Kinds.r columns.is_store_sound.Reads.Asked columns.is_store_sound.Reads.Post columns.is_store_sound.Symbol.code columns.is_store_sound.Symbol.name
    ∷ entry records.holds_port.Kinds.ps records.holds_port.Kinds.r records.holds_port.Reads.Asked records.holds_port.Reads.Post records.holds_port.Symbol.code records.holds_port.Symbol.name
    ∷ entry records.holds_slot.Kinds.ps records.holds_slot.Kinds.r records.holds_slot.Reads.Asked records.holds_slot.Reads.Post records.holds_slot.Symbol.code records.holds_slot.Symbol.name
    ∷ entry records.is_owned_by.Kinds.ps records.is_owned_by.Kinds.r records.is_owned_by.Reads.Asked records.is_owned_by.Reads.Post records.is_owned_by.Symbol.code records.is_owned_by.Symbol.name
    ∷ entry records.may_adopt.Kinds.ps records.may_adopt.Kinds.r records.may_adopt.Reads.Asked records.may_adopt.Reads.Post records.may_adopt.Symbol.code records.may_adopt.Symbol.name
    ∷ entry records.adopt_verdict.Kinds.ps records.adopt_verdict.Kinds.r records.adopt_verdict.Reads.Asked records.adopt_verdict.Reads.Post records.adopt_verdict.Symbol.code records.adopt_verdict.Symbol.name
    ∷ entry records.acquire_verdict.Kinds.ps records.acquire_verdict.Kinds.r records.acquire_verdict.Reads.Asked records.acquire_verdict.Reads.Post records.acquire_verdict.Symbol.code records.acquire_verdict.Symbol.name
    ∷ entry records.reclaim_verdict.Kinds.ps records.reclaim_verdict.Kinds.r records.reclaim_verdict.Reads.Asked records.reclaim_verdict.Reads.Post records.reclaim_verdict.Symbol.code records.reclaim_verdict.Symbol.name
    ∷ entry records.replace_verdict.Kinds.ps records.replace_verdict.Kinds.r records.replace_verdict.Reads.Asked records.replace_verdict.Reads.Post records.replace_verdict.Symbol.code records.replace_verdict.Symbol.name
    ∷ entry records.has_id.Kinds.ps records.has_id.Kinds.r records.has_id.Reads.Asked records.has_id.Reads.Post records.has_id.Symbol.code records.has_id.Symbol.name
    ∷ entry records.names_publication.Kinds.ps records.names_publication.Kinds.r records.names_publication.Reads.Asked records.names_publication.Reads.Post records.names_publication.Symbol.code records.names_publication.Symbol.name
    ∷ entry records.blank_publication.Kinds.ps records.blank_publication.Kinds.r records.blank_publication.Reads.Asked records.blank_publication.Reads.Post records.blank_publication.Symbol.code records.blank_publication.Symbol.name
    ∷ entry records.blank_lease.Kinds.ps records.blank_lease.Kinds.r records.blank_lease.Reads.Asked records.blank_lease.Reads.Post records.blank_lease.Symbol.code records.blank_lease.Symbol.name
    ∷ entry records.is_kept.Kinds.ps records.is_kept.Kinds.r records.is_kept.Reads.Asked records.is_kept.Reads.Post records.is_kept.Symbol.code records.is_kept.Symbol.name
    ∷ entry records.mark_of.Kinds.ps records.mark_of.Kinds.r records.mark_of.Reads.Asked records.mark_of.Reads.Post records.mark_of.Symbol.code records.mark_of.Symbol.name
    ∷ entry records.is_both.Kinds.ps records.is_both.Kinds.r records.is_both.Reads.Asked records.is_both.Reads.Post records.is_both.Symbol.code records.is_both.Symbol.name
    ∷ entry records.is_either.Kinds.ps records.is_either.Kinds.r records.is_either.Reads.Asked records.is_either.Reads.Post records.is_either.Symbol.code records.is_either.Symbol.name
    ∷ entry records.is_in_order.Kinds.ps records.is_in_order.Kinds.r records.is_in_order.Reads.Asked records.is_in_order.Reads.Post records.is_in_order.Symbol.code records.is_in_order.Symbol.name
    ∷ entry records.is_nobody.Kinds.ps records.is_nobody.Kinds.r records.is_nobody.Reads.Asked records.is_nobody.Reads.Post records.is_nobody.Symbol.code records.is_nobody.Symbol.name
    ∷ entry records.is_blank_record.Kinds.ps records.is_blank_record.Kinds.r records.is_blank_record.Reads.Asked records.is_blank_record.Reads.Post records.is_blank_record.Symbol.code records.is_blank_record.Symbol.name
    ∷ entry records.is_blank_lease.Kinds.ps records.is_blank_lease.Kinds.r records.is_blank_lease.Reads.Asked records.is_blank_lease.Reads.Post records.is_blank_lease.Symbol.code records.is_blank_lease.Symbol.name
    ∷ entry records.is_own_cell.Kinds.ps records.is_own_cell.Kinds.r records.is_own_cell.Reads.Asked records.is_own_cell.Reads.Post records.is_own_cell.Symbol.code records.is_own_cell.Symbol.name
    ∷ entry records.is_blank_cell.Kinds.ps records.is_blank_cell.Kinds.r records.is_blank_cell.Reads.Asked records.is_blank_cell.Reads.Post records.is_blank_cell.Symbol.code records.is_blank_cell.Symbol.name
    ∷ []

abbrev pub embed_entries : List Entry
embed_entries =
    entry embed.lease_broker_run.Kinds.ps embed.lease_broker_run.Kinds.r embed.lease_broker_run.Reads.Asked embed.lease_broker_run.Reads.Post embed.lease_broker_run.Symbol.code embed.lease_broker_run.Symbol.name
    ∷ entry embed.lease_broker_report.Kinds.ps embed.lease_broker_report.Kinds.r embed.lease_broker_report.Reads.Asked embed.lease_broker_report.Reads.Post embed.lease_broker_report.Symbol.code embed.lease_broker_report.Symbol.name
    ∷ entry embed.lease_broker_name.Kinds.ps embed.lease_broker_name.Kinds.r embed.lease_broker_name.Reads.Asked embed.lease_broker_name.Reads.Post embed.lease_broker_name.Symbol.code embed.lease_broker_name.Symbol.name
    ∷ []

abbrev pub number_entries : List Entry
number_entries =
    entry refusal.from.Kinds.ps refusal.from.Kinds.r refusal.from.Reads.Asked refusal.from.Reads.Post refusal.from.Symbol.code refusal.from.Symbol.name
    ∷ entry stop.from.Kinds.ps stop.from.Kinds.r stop.from.Reads.Asked stop.from.Reads.Post stop.from.Symbol.code stop.from.Symbol.name
    ∷ []

infixr 20 ◌and◌
-- each of them is total
pub data EachTotal : List Entry → Type 3 where
  none : EachTotal []
  ◌and◌ : {f : Entry} {fs : List Entry} → Total f → EachTotal fs → EachTotal (f ∷ fs)

-- Four calls take or hand back a `Reader`, which holds a reference. They are no `Entry`: each stands here with its signature, the assertions
-- that its source makes, on the machine, and the code that the machine runs.

pub record ReaderEntry : Type 2 where
  pub ended : Ended
  pub contract : Clauses 𝓤 ended
  -- the contract binds nothing of its own
  pub ghost : (κs : Lfts ended.signature.lifetimes) (a : Args ended.signature κs) → (contract κs a).ghost
  pub code : Code
  pub name : Callee

module _ (f : ReaderEntry) where
  -- what a call is made on, and a memory that holds that, beside the rest

  abbrev pub CalledOn : Type 0
  CalledOn = Bound logic₀ f.ended.signature

  abbrev pub ReaderBegins : CalledOn → Memory → Held → Type 1
  ReaderBegins x σ rest = Satisfies 𝓤 H model⁺ σ (sep 𝓤 (on_entry logic₀ f.ended.signature x.0 x.1 x.3 x.4) rest)

  -- a machine value stands for a result, and the contract holds of that result
  abbrev pub Promised : (x : CalledOn) → Val → Res f.ended.signature x.0 → Held
  Promised x v r =
      sep 𝓤 (Back logic₀ f.ended.signature x v r) (ensured logic₀ f.ended f.contract x.0 x.3 (f.ghost x.0 x.3) r)

  -- how such a call came back
  pub record Answered (γ : Env) (x : CalledOn) (σ : Memory) (rest : Held) : Type 1 where
    pub steps : ℕ
    pub value : Val
    pub memory : Memory
    pub runs : step (γ f.name) steps (passed logic₀ f.ended.signature x) σ ≡ done (value, memory)
    pub answer : Res f.ended.signature x.0
    pub holds : Satisfies 𝓤 H model⁺ memory (sep 𝓤 (Promised x value answer) rest)

  abbrev pub ReaderAsksNothing : Type 1
  ReaderAsksNothing =
      (κs : Lfts f.ended.signature.lifetimes) (a : Args f.ended.signature κs) → ent 𝓤 (emp 𝓤) ((f.contract κs a).requires (f.ghost κs a))

  pub record ReaderTotal : Type 2 where
    pub asks_nothing : ReaderAsksNothing
    pub ends : (γ : Env) → Wired γ f.code → (x : CalledOn) (σ : Memory) (rest : Held) → ReaderBegins x σ rest → ∥ Answered γ x σ rest ∥₁
    -- the crates as they are built are such an environment
    pub in_build : Wired built f.code

abbrev pub reader_new : ReaderEntry
reader_new =
    record { ended = contracts.Reader.new.ended; contract = contracts.Reader.new.clauses logic₀ model⁺.mem real⁺.returns; ghost = λ κs a. tt; code = reader.Reader.new.Symbol.code; name = reader.Reader.new.Symbol.name }

abbrev pub reader_at_end : ReaderEntry
reader_at_end =
    record { ended = contracts.Reader.at_end.ended; contract = contracts.Reader.at_end.clauses logic₀ model⁺.mem real⁺.returns; ghost = λ κs a. tt; code = reader.Reader.at_end.Symbol.code; name = reader.Reader.at_end.Symbol.name }

abbrev pub reader_next_block : ReaderEntry
reader_next_block =
    record { ended = contracts.Reader.next_block.ended; contract = contracts.Reader.next_block.clauses logic₀ model⁺.mem real⁺.returns; ghost = λ κs a. tt; code = reader.Reader.next_block.Symbol.code; name = reader.Reader.next_block.Symbol.name }

abbrev pub reader_moved : ReaderEntry
reader_moved =
    record { ended = contracts.Reader.moved.ended; contract = contracts.Reader.moved.clauses logic₀ model⁺.mem real⁺.returns; ghost = λ κs a. tt; code = reader.Reader.moved.Symbol.code; name = reader.Reader.moved.Symbol.name }

pub record ReadersTotal : Type 2 where
  pub new : ReaderTotal reader_new
  pub at_end : ReaderTotal reader_at_end
  pub next_block : ReaderTotal reader_next_block
  pub moved : ReaderTotal reader_moved
