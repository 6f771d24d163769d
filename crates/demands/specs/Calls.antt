-- Commands and queries made by the store's public calls: what comes back, as the contract that the call's source states allows.
-- Assumes nothing.
use Rattle.std.specs.Prelude.{ℕ, ◌≡◌, Option, Some, None, Result}
use Rattle.rules.specs.Limits.{box}
use Rattle.rules.specs.Commands.{AnswerTo}
use Rattle.rules.specs.Table.{Store}
use Rattle.rules.specs.Columns.{used, filled}
use Rattle.rules.specs.Sound.{StoreColumnsSound}
use Rattle.rules.specs.Queries.{Query, ReplyTo, leased_value, value, contains_handle, registry_copy}
use Rattle.rules.specs.Responses.{response_of}
use Rattle.rules.specs.declared.Command.{Command}
use Rattle.rules.specs.declared.Command.TheVariants.{Publish, Adopt, Acquire, Release, Revoke, Replace, Reclaim, Read, Observe, Resolve, Count}
use Rattle.rules.specs.declared.Refusal.{Refusal}
use Rattle.rules.specs.declared.Leased.{Leased}
use Rattle.rules.specs.declared.Answered.{Answered}
use Rattle.registry.specs.Answers.{result_of}
use Rattle.registry.specs.declared.PublicationRegistry.{PublicationRegistry}
use Rattle.store.specs.Columns.{columns_of, store_of}
use Rattle.store.specs.Answers.{rejected_of, contained_of, registry_copy_of}
use Rattle.store.specs.declared.Contained.{Contained}
use Rattle.store.specs.declared.PublicationStore.{PublicationStore}
use Rattle.store.proofs.PublicationStore as store

-- a store is sound; the table that it holds; a table as a store

abbrev pub Sound : PublicationStore → Type 0
Sound s = StoreColumnsSound box (columns_of s)

abbrev pub table_of : PublicationStore → Store
table_of s = used (columns_of s)

abbrev pub stored : Store → PublicationStore
stored u = store_of (filled box u)

-- a contract holds of arguments and a result; what is passed by value is at exit what it was
abbrev pub holds : {A R : Type 0} → (Unit {0} → A → R → A → Type 0) → A → R → Type 0
holds contract arguments result = contract tt arguments result arguments

-- a new store, with or without domain

abbrev pub Made : Option ℕ → PublicationStore → Type 0
Made None s = holds store.new.Reads.Post tt s
Made (Some n) s = holds store.for_domain.Reads.Post (n, tt) s

-- a command made on a store comes back with an answer and leaves a store; the four that only look leave it as it is

abbrev pub Called : (c : Command) → PublicationStore → AnswerTo c → PublicationStore → Type 0
Called (Publish o g q v) s a t = holds store.publish.Reads.Post (s, (o, (g, (q, (v, tt))))) (record { answer = rejected_of a; table = t })
Called (Adopt p o g) s a t = holds store.adopt.Reads.Post (s, (p, (o, (g, tt)))) (record { answer = result_of a; table = t })
Called (Acquire p o g) s a t = holds store.acquire_for.Reads.Post (s, (p, (o, (g, tt)))) (record { answer = result_of a; table = t })
Called (Release i) s a t = holds store.release.Reads.Post (s, (i, tt)) (record { answer = result_of a; table = t })
Called (Revoke p) s a t = holds store.revoke.Reads.Post (s, (p, tt)) (record { answer = result_of a; table = t })
Called (Replace p o g v) s a t = holds store.replace.Reads.Post (s, (p, (o, (g, (v, tt))))) (record { answer = rejected_of a; table = t })
Called (Reclaim p) s a t = holds store.reclaim.Reads.Post (s, (p, tt)) (record { answer = result_of a; table = t })
Called (Read i) s a t = holds store.leased_observation.Reads.Post (s, (i, tt)) (result_of a) × (t ≡ s)
Called (Observe p) s a t = holds store.observation.Reads.Post (s, (p, tt)) (result_of a) × (t ≡ s)
Called (Resolve q) s a t = holds store.resolve.Reads.Post (s, (q, tt)) (result_of a) × (t ≡ s)
Called Count s a t = holds store.retained_count.Reads.Post (s, tt) (result_of a) × (t ≡ s)

-- the same by the one call that takes any command
abbrev pub Applied : (c : Command) → PublicationStore → AnswerTo c → PublicationStore → Type 0
Applied c s a t = holds store.apply.Reads.Post (s, (c, tt)) (record { answer = response_of c a; table = t })

-- one of the other queries, and what the code gives for a reply to it

abbrev pub Given : Query → Type 0
Given (leased_value i) = Result Leased Refusal
Given (value p) = Result ℕ Refusal
Given (contains_handle h) = Contained
Given registry_copy = Answered (Result (Unit {0}) Refusal) PublicationRegistry

abbrev pub given : (q : Query) → ReplyTo q → Given q
given (leased_value i) a = result_of a
given (value p) a = result_of a
given (contains_handle h) a = contained_of a
given registry_copy a = registry_copy_of a

abbrev pub Queried : (q : Query) → PublicationStore → Given q → Type 0
Queried (leased_value i) s x = holds store.leased_value.Reads.Post (s, (i, tt)) x
Queried (value p) s x = holds store.value.Reads.Post (s, (p, tt)) x
Queried (contains_handle h) s x = holds store.contains_handle.Reads.Post (s, (h, tt)) x
Queried registry_copy s x = holds store.registry.Reads.Post (s, tt) x
