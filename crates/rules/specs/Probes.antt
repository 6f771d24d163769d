-- How an example is written down: commands with plain numbers, and what each must answer.
-- Assumes nothing.
use Rattle.std.specs.Prelude.{ℕ, zero, suc, Bool, true, false, ◌&&◌, List, [], ◌∷◌, eqb, Option, None}
use Rattle.lists.specs.Every.{every}
use Rattle.rules.specs.Limits.{box}
use Rattle.rules.specs.Answers.{refused, done, answer_number}
use Rattle.rules.specs.Commands.{Offered, AnswerTo, answer_values}
use Rattle.rules.specs.Table.{Store, empty_store}
use Rattle.rules.specs.Rows.{step}
use Rattle.rules.specs.declared.Publication.{Publication}
use Rattle.rules.specs.declared.Lease.{Lease}
use Rattle.rules.specs.declared.Consumer.{Consumer}
use Rattle.rules.specs.declared.Command.{Command}
use Rattle.rules.specs.declared.Command.TheVariants.{Publish, Adopt, Acquire, Release, Revoke, Replace, Reclaim, Read, Observe, Resolve, Count}

infix 20 ◌gives◌
infix 20 ◌refused_with◌
infix 20 ◌refused_with◌back◌
-- a command and what it must answer: the number, the values of the answer, and the handles that come back beside a refusal
pub record Probe : Type 0 where
  pub command : Command
  pub number : ℕ
  pub values : List ℕ
  pub back : List ℕ

-- carried out, with these values
abbrev pub ◌gives◌ : Command → List ℕ → Probe
c gives vs = record { command = c; number = 0; values = vs; back = [] }

-- refused with this number, and nothing beside it
abbrev pub ◌refused_with◌ : Command → ℕ → Probe
c refused_with n = record { command = c; number = n; values = []; back = [] }

-- refused with this number, and the offered handle back
abbrev pub ◌refused_with◌back◌ : Command → ℕ → ℕ → Probe
c refused_with n back h = record { command = c; number = n; values = []; back = h ∷ [] }

-- commands one after the other, from a table on
pub record Case : Type 0 where
  pub from : Store
  pub asked : List Probe

-- the commands, with plain numbers in a trace's order

abbrev pub publish : ℕ → ℕ → ℕ → ℕ → Command
publish owner generation port payload = Publish (record { 0 = owner }) generation (record { 0 = port }) payload

abbrev pub adopt : ℕ → ℕ → ℕ → Command
adopt id owner generation = Adopt (record { 0 = id }) (record { 0 = owner }) generation

abbrev pub acquire : ℕ → ℕ → ℕ → Command
acquire id owner generation = Acquire (record { 0 = id }) (record { 0 = owner }) generation

abbrev pub release : ℕ → Command
release lease = Release (record { 0 = lease })

abbrev pub revoke : ℕ → Command
revoke id = Revoke (record { 0 = id })

abbrev pub replace : ℕ → ℕ → ℕ → ℕ → Command
replace id owner generation payload = Replace (record { 0 = id }) (record { 0 = owner }) generation payload

abbrev pub reclaim : ℕ → Command
reclaim id = Reclaim (record { 0 = id })

abbrev pub read : ℕ → Command
read lease = Read (record { 0 = lease })

abbrev pub observe : ℕ → Command
observe id = Observe (record { 0 = id })

abbrev pub resolve : ℕ → Command
resolve port = Resolve (record { 0 = port })

abbrev pub count : Command
count = Count

-- records, with plain numbers

abbrev pub entry : ℕ → ℕ → ℕ → ℕ → Bool → Bool → Publication
entry owner generation port slot visible retained =
    record { owner = record { 0 = owner }; generation = generation; port = record { 0 = port }; slot = slot; visible = visible; retained = retained }

abbrev pub lent : ℕ → ℕ → Option Consumer → Lease
lent id publication consumer = record { id = record { 0 = id }; publication = record { 0 = publication }; consumer = consumer }

-- when an answer is right

abbrev pub same_numbers : List ℕ → List ℕ → Bool
same_numbers [] [] = true
same_numbers [] (y ∷ ys) = false
same_numbers (x ∷ xs) [] = false
same_numbers (x ∷ xs) (y ∷ ys) = eqb x y && same_numbers xs ys

-- the handles that an answer hands back because it is a refusal

abbrev pub offered_handles : (c : Command) → Offered c → List ℕ
offered_handles (Publish o g q v) h = h ∷ []
offered_handles (Adopt p o g) b = []
offered_handles (Acquire p o g) b = []
offered_handles (Release i) b = []
offered_handles (Revoke p) b = []
offered_handles (Replace p o g v) h = h ∷ []
offered_handles (Reclaim p) b = []
offered_handles (Read i) b = []
offered_handles (Observe p) b = []
offered_handles (Resolve q) b = []
offered_handles Count b = []

abbrev pub handles_back : (c : Command) → AnswerTo c → List ℕ
handles_back c (refused r b) = offered_handles c b
handles_back c (done x) = []

-- an answer has the number, the values and the handles back that it must have
abbrev pub right_answer : (p : Probe) → AnswerTo p.command → Bool
right_answer p a =
    every
    (eqb (answer_number a) p.number
    ∷ same_numbers (answer_values p.command a) p.values
    ∷ same_numbers (handles_back p.command a) p.back
    ∷ [])

abbrev pub all_answered : Store → List Probe → Bool
all_answered s [] = true
all_answered s (p ∷ ps) = every (right_answer p (step box s p.command).answer ∷ all_answered (step box s p.command).table ps ∷ [])

abbrev pub all_right : List Case → Bool
all_right [] = true
all_right (k ∷ ks) = every (all_answered k.from k.asked ∷ all_right ks ∷ [])

-- one for each number below n, and then others
abbrev pub many : {A : Type 0} → ℕ → (ℕ → A) → List A → List A
many zero f xs = xs
many (suc n) f xs = many n f (f n ∷ xs)

-- an empty store
abbrev pub empty : Store
empty = empty_store None

-- a store with one visible publication, by owner 4 in generation 0 on port 7 with the handle 900, at a revision, and a counter
abbrev pub given : ℕ → ℕ → Store
given revision counter =
    record {
      registry =
          record {
            domain = None;
            publications = entry 4 0 7 0 true true ∷ [];
            leases = [];
            counter = counter;
          };
      payloads = 900 ∷ [];
      revisions = revision ∷ [];
    }
