-- The trace reader's public calls: each contract lets one outcome through.
-- Assumes nothing.
use mathlib.Core.Path.{refl, sym, ◌∙◌}
use seplogic.Ra.Ura.{Ura}
use base.Logic.{ent, sep, fst∗, snd∗}
use contract.Monad.{fact, fact_i, fact_use}
use Rattle.reader.proofs as reader
use Rattle.reader.specs.contracts as contracts
use Rattle.unique.specs.OneOutcome.{OneOutcome, OneOutcomeHeld}

-- what follows from two facts
from : {M : Type 1} (𝓤 : Ura M) {φ ψ χ : Type 0} → (φ → ψ → χ) → ent 𝓤 (sep 𝓤 (fact 𝓤 φ) (fact 𝓤 ψ)) (fact 𝓤 χ)
from 𝓤 {φ} {ψ} {χ} f =
    fact_use 𝓤 φ (fst∗ 𝓤 (fact 𝓤 φ) (fact 𝓤 ψ)) (λ p.
    fact_use 𝓤 ψ (snd∗ 𝓤 (fact 𝓤 φ) (fact 𝓤 ψ)) (λ q. fact_i 𝓤 χ (sep 𝓤 (fact 𝓤 φ) (fact 𝓤 ψ)) (f p q)))

pub new_one : OneOutcomeHeld contracts.Reader.new.ended (λ m. contracts.Reader.new.clauses m.𝓛 m.𝓜.mem m.𝓡.returns)
new_one m κs a g x y v w = from m.𝓤 (λ p q. (λ i. record { trace = (p.0 ∙ sym q.0) i; at = (p.1 ∙ sym q.1) i }, refl))

pub at_end_one : OneOutcomeHeld contracts.Reader.at_end.ended (λ m. contracts.Reader.at_end.clauses m.𝓛 m.𝓜.mem m.𝓡.returns)
at_end_one m κs a g x y v w = from m.𝓤 (λ p q. (p ∙ sym q, refl))

pub next_block_one : OneOutcomeHeld contracts.Reader.next_block.ended (λ m. contracts.Reader.next_block.clauses m.𝓛 m.𝓜.mem m.𝓡.returns)
next_block_one m κs a g x y v w = from m.𝓤 (λ p q. (p ∙ sym q, refl))

pub moved_one : OneOutcomeHeld contracts.Reader.moved.ended (λ m. contracts.Reader.moved.clauses m.𝓛 m.𝓜.mem m.𝓡.returns)
moved_one m κs a g x y v w = from m.𝓤 (λ p q. (λ i. record { trace = (p.0 ∙ sym q.0) i; at = (p.1 ∙ sym q.1) i }, refl))

pub block_after_one : OneOutcome 1 reader.block_after.Kinds.ps reader.block_after.Kinds.r reader.block_after.Reads.Post
block_after_one κs a x y s p q = p ∙ sym q
