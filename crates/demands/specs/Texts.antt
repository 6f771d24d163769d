-- Traces run and reported by the public calls: what comes back, and what is left in the output, as the contracts that their sources state
-- allow; and exchanges written down in bytes.
-- Assumes nothing.
use Rattle.std.specs.Prelude.{ℕ, ◌≡◌, List, [], ◌∷◌, ◌++◌, length, take, drop}
use contract.Lifetimes.{Lfts}
use Rattle.std.specs.Borrow.{Bor, MutBor}
use Rattle.rules.specs.Responses.{response_of}
use Rattle.rules.specs.declared.Response.{Response}
use Rattle.blocks.specs.Answers.{answers_text}
use Rattle.store.specs.declared.PublicationStore.{PublicationStore}
use Rattle.trace.specs.Report.{stop_line}
use Rattle.trace.specs.Embedding.{stop_number}
use Rattle.trace.specs.Followed.{Blocks}
use Rattle.trace.specs.declared.Stopped.{Stopped}
use Rattle.trace.specs.declared.Reported.{Reported}
use Rattle.trace.proofs as trace
use Rattle.demands.specs.Sessions.{Exchange, Leads, Session, commands}

-- references to bytes: the trace, the output as it is lent, and the output as it is left
pub record Lent (text out left : List ℕ) : Type 0 where
  pub lifetimes : Lfts 2
  pub from : Bor (List ℕ)
  pub into : MutBor (List ℕ)
  pub end : MutBor (List ℕ)
  pub text_is : from.now ≡ text
  pub out_is : into.now ≡ out
  pub left_is : end.now ≡ left

-- a text run on a store into an output comes back so, and leaves these bytes in the output
abbrev pub Run : PublicationStore → (text out : List ℕ) → Stopped → (left : List ℕ) → Type 0
Run s text out r left =
    (b : Lent text out left) × trace.run.Reads.Post b.lifetimes (s, (b.from, (b.into, tt))) r (s, (b.from, (b.end, tt)))

-- the same of a report
abbrev pub Report : (text out : List ℕ) → Reported → (left : List ℕ) → Type 0
Report text out r left =
    (b : Lent text out left) × trace.report.Reads.Post b.lifetimes (b.from, (b.into, tt)) r (b.from, (b.end, tt))

-- exchanges written down: the texts of their commands, one after the other, and the texts of their answers

abbrev pub responses : List Exchange → List Response
responses [] = []
responses (x ∷ xs) = response_of x.command x.answer ∷ responses xs

pub record WrittenDown (xs : List Exchange) (read written : List ℕ) : Type 0 where
  pub commands_read : Blocks (commands xs) read
  pub answers_written : written ≡ answers_text (responses xs)

-- what a run did: its blocks are calls made one after the other on the store, written down in the bytes read and the bytes written; later
-- bytes of the output stay
pub record MadeTheCalls (s : PublicationStore) (text out : List ℕ) (r : Stopped) (left : List ℕ) : Type 0 where
  pub exchanges : List Exchange
  pub leads : Leads s exchanges r.store
  pub bytes : WrittenDown exchanges (take r.read text) (take r.written left)
  pub blocks : r.blocks ≡ length exchanges
  pub rest : drop r.written left ≡ drop r.written out

-- what a report tells: a session, written down in the bytes read and the answers told, and after them the line that says why it stopped
pub record ToldASession (text : List ℕ) (r : Reported) (left : List ℕ) : Type 0 where
  pub exchanges : List Exchange
  pub store : PublicationStore
  pub session : Session exchanges store
  pub read : ℕ
  pub answers : List ℕ
  pub bytes : WrittenDown exchanges (take read text) answers
  pub told : take r.written left ≡ answers ++ stop_line (stop_number r.stop)
