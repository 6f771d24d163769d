-- Every function of the crates stands in the build with its code, and so does what it calls: by crate, what is needed of the crates below.
-- Assumes nothing.
use mathlib.Core.Path.{refl}
use mathlib.Core.Bool.{true}
use prog.Linked.{in_world}
use prog.LinkedThreads.{HasT, tie_t-follows, tie_t-threads, has-wired_t}
use prog.Wired.{Code, Wired}
use Rattle.rules.proofs.Build as rules
use Rattle.columns.proofs.Build as columns
use Rattle.registry.proofs.Build as registry
use Rattle.store.proofs.Build as store
use Rattle.text.proofs.Build as text
use Rattle.writing.proofs.Build as writing
use Rattle.blocks.proofs.Build as blocks
use Rattle.reader.proofs.Build as reader
use Rattle.trace.proofs.Build as trace
use Rattle.embed.proofs.Build as embed
use Rattle.demands.specs.Built.{crates, built}

wired : (c : Code) → HasT (in_world crates) true c → Wired built c
wired = has-wired_t (in_world crates) built (tie_t-follows (in_world crates)) (tie_t-threads (in_world crates))

-- a function of rules, by how it stands there
pub in_rules : (c : Code) → rules.Stands c → Wired built c
in_rules c stands = wired c (stands crates refl)

columns_below : columns.Below crates
columns_below = tt

-- a function of columns, by how it stands there
pub in_columns : (c : Code) → columns.Stands c → Wired built c
in_columns c stands = wired c (stands crates refl columns_below)

registry_below : registry.Below crates
registry_below = (
  columns.inner-close_up-stands crates refl columns_below,
  (
    columns.inner-rows-acquire_verdict-stands crates refl columns_below,
    (
      columns.inner-rows-adopt_verdict-stands crates refl columns_below,
      (
        columns.inner-rows-capacity_verdict-stands crates refl columns_below,
        (
          columns.inner-rows-lease_lookup-stands crates refl columns_below,
          (
            columns.inner-rows-reclaim_verdict-stands crates refl columns_below,
            (
              columns.inner-rows-revoke_verdict-stands crates refl columns_below,
              (
                columns.inner-rows-slot_publish_verdict-stands crates refl columns_below,
                (
                  columns.inner-search-known-stands crates refl columns_below,
                  (
                    columns.inner-search-lease_place-stands crates refl columns_below,
                    (
                      columns.inner-search-port_place-stands crates refl columns_below,
                      (
                        columns.is_sound-stands crates refl columns_below,
                        (
                          columns.records-blank_lease-stands crates refl columns_below,
                          (columns.records-blank_publication-stands crates refl columns_below, tt),
                        ),
                      ),
                    ),
                  ),
                ),
              ),
            ),
          ),
        ),
      ),
    ),
  ),
)

-- a function of registry, by how it stands there
pub in_registry : (c : Code) → registry.Stands c → Wired built c
in_registry c stands = wired c (stands crates refl registry_below)

store_below : store.Below crates
store_below = (
  columns.inner-rows-lease_lookup-stands crates refl columns_below,
  (
    columns.inner-rows-publish_verdict-stands crates refl columns_below,
    (
      columns.inner-rows-reclaim_verdict-stands crates refl columns_below,
      (
        columns.inner-search-known-stands crates refl columns_below,
        (
          columns.is_store_sound-stands crates refl columns_below,
          (
            columns.records-is_both-stands crates refl columns_below,
            (
              columns.records-replace_verdict-stands crates refl columns_below,
              (
                registry.PublicationRegistry-new-stands crates refl registry_below,
                (
                  registry.inner-Sound-acquire-stands crates refl registry_below,
                  (
                    registry.inner-Sound-adopt-stands crates refl registry_below,
                    (
                      registry.inner-Sound-leases-stands crates refl registry_below,
                      (
                        registry.inner-Sound-publications-stands crates refl registry_below,
                        (
                          registry.inner-Sound-release-stands crates refl registry_below,
                          (
                            registry.inner-Sound-resolve-stands crates refl registry_below,
                            (
                              registry.inner-Sound-revoke-stands crates refl registry_below,
                              (
                                registry.inner-empty-stands crates refl registry_below,
                                (registry.inner-refused-stands crates refl registry_below, tt),
                              ),
                            ),
                          ),
                        ),
                      ),
                    ),
                  ),
                ),
              ),
            ),
          ),
        ),
      ),
    ),
  ),
)

-- a function of store, by how it stands there
pub in_store : (c : Code) → store.Stands c → Wired built c
in_store c stands = wired c (stands crates refl store_below)

text_below : text.Below crates
text_below = tt

-- a function of text, by how it stands there
pub in_text : (c : Code) → text.Stands c → Wired built c
in_text c stands = wired c (stands crates refl text_below)

writing_below : writing.Below crates
writing_below = tt

-- a function of writing, by how it stands there
pub in_writing : (c : Code) → writing.Stands c → Wired built c
in_writing c stands = wired c (stands crates refl writing_below)

blocks_below : blocks.Below crates
blocks_below = (
  rules.number-stands crates refl,
  (
    text.key_code-stands crates refl text_below,
    (
      text.key_line_at-stands crates refl text_below,
      (
        text.op_at-stands crates refl text_below,
        (
          writing.inner-put_line-stands crates refl writing_below,
          (writing.inner-put_line_at-stands crates refl writing_below, tt),
        ),
      ),
    ),
  ),
)

-- a function of blocks, by how it stands there
pub in_blocks : (c : Code) → blocks.Stands c → Wired built c
in_blocks c stands = wired c (stands crates refl blocks_below)

reader_below : reader.Below crates
reader_below = (blocks.block_at-stands crates refl blocks_below, tt)

-- a function of reader, by how it stands there
pub in_reader : (c : Code) → reader.Stands c → Wired built c
in_reader c stands = wired c (stands crates refl reader_below)

trace_below : trace.Below crates
trace_below = (
  blocks.block_at-stands crates refl blocks_below,
  (
    blocks.inner-put_response_at-stands crates refl blocks_below,
    (
      store.inner-Sound-empty-stands crates refl store_below,
      (
        store.inner-Sound-tested-stands crates refl store_below,
        (
          store.inner-any-apply-stands crates refl store_below,
          (
            writing.inner-put-stands crates refl writing_below,
            (
              writing.inner-put_name-stands crates refl writing_below,
              (writing.inner-put_number-stands crates refl writing_below, tt),
            ),
          ),
        ),
      ),
    ),
  ),
)

-- a function of trace, by how it stands there
pub in_trace : (c : Code) → trace.Stands c → Wired built c
in_trace c stands = wired c (stands crates refl trace_below)

embed_below : embed.Below crates
embed_below = (
  store.PublicationStore-new-stands crates refl store_below,
  (
    trace.number-stands crates refl trace_below,
    (
      trace.report-stands crates refl trace_below,
      (
        trace.run-stands crates refl trace_below,
        (writing.inner-put_name-stands crates refl writing_below, tt),
      ),
    ),
  ),
)

-- a function of embed, by how it stands there
pub in_embed : (c : Code) → embed.Stands c → Wired built c
in_embed c stands = wired c (stands crates refl embed_below)
