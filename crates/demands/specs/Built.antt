-- The crates as they are built: each function stands under its name with its own code, and a call of it runs that code.
-- Assumes nothing.
use Rattle.std.specs.Prelude.{[], ◌∷◌}
use lib.Chars.{codes}
use prog.Linked.{World, in_world}
use prog.LinkedThreads.{tie_t}
use prog.Routine.{Env}
use Rattle.rules.proofs.Build as rules
use Rattle.columns.proofs.Build as columns
use Rattle.registry.proofs.Build as registry
use Rattle.store.proofs.Build as store
use Rattle.text.proofs.Build as text
use Rattle.writing.proofs.Build as writing
use Rattle.blocks.proofs.Build as blocks
use Rattle.reader.proofs.Build as reader
use Rattle.trace.proofs.Build as trace
use Rattle.embed.proofs.Build as embed

-- each crate's functions, under the crate's name
abbrev pub crates : World
crates =
    (codes "rules", rules.table)
    ∷ (codes "columns", columns.table)
    ∷ (codes "registry", registry.table)
    ∷ (codes "store", store.table)
    ∷ (codes "text", text.table)
    ∷ (codes "writing", writing.table)
    ∷ (codes "blocks", blocks.table)
    ∷ (codes "reader", reader.table)
    ∷ (codes "trace", trace.table)
    ∷ (codes "embed", embed.table)
    ∷ []

-- what each call means there
abbrev pub built : Env
built = tie_t (in_world crates)
