-- The third demand from any sound table, with the handles and the leases in it counted as the start.
-- Assumes nothing.
use Rattle.std.specs.Prelude as std
use Prim.Native.Nat.{ℕ, zero, suc, ◌+◌, ◌<◌}
use mathlib.Core.Path.{◌≡◌, refl, sym, ap, ◌∙◌}
use mathlib.Core.Bool.{Bool, true, false, cond}
use mathlib.Core.List.{List, [], ◌∷◌, ◌++◌, append_assoc, append-nil}
use mathlib.Core.Option.{Option, none, some}
use native.Mathlib.Omega.{arith}
use native.Mathlib.Nat.{zero-add}
use lib.Dec.{eqb}
use lib.ListN.{length, get_or}
use borrow.Author.Tests.{eq-eqb, ne_eqb}
use Rattle.lists.proofs.Bools.{either}
use Rattle.lists.proofs.Total.{total, total-same, total-cons, tally}
use Rattle.rules.specs.Limits.{Limits}
use Rattle.rules.specs.Table.{Store, empty_store, blank_publication, publication_of, payload_of}
use Rattle.rules.specs.Conditions.{names}
use Rattle.rules.specs.Broker.{Event, run, told, ended}
use Rattle.rules.specs.History.{gather, follow, takes, gives, among, holds, owes, notes, holding, outstanding, given_out}
use Rattle.rules.specs.Demand2.{by_the_rows}
use Rattle.rules.specs.Demand3.{Demand3}
use Rattle.rules.specs.Past.{past, past_publications, past_leases}
use Rattle.rules.specs.Sound.{StoreSound}
use Rattle.rules.specs.declared.PublicationId.{PublicationId}
use Rattle.rules.specs.declared.LeaseId.{LeaseId}
use Rattle.rules.specs.declared.Publication.{Publication}
use Rattle.rules.specs.declared.Lease.{Lease}
use Rattle.rules.specs.declared.Command.{Command}
use Rattle.rules.proofs.KeepsStore.{empty_sound}
use Rattle.rules.proofs.Along.{gather_append, follow_append}
use Rattle.rules.proofs.Linked.{Linked, kept_in, weight, ids, upto, above_upto}
use Rattle.rules.proofs.Third.{facts, third_from}

-- the leases

leases_hold : (p : PublicationId) (o : Option ℕ) (ls : List Lease) → follow (holds p) o (past_leases ls) ≡ o
leases_hold p o [] = refl
leases_hold p o (l ∷ ls) = leases_hold p o ls

leases_note : (ps : List PublicationId) (ls : List Lease) → follow notes ps (past_leases ls) ≡ ps
leases_note ps [] = refl
leases_note ps (l ∷ ls) = leases_note ps ls

leases_take : (ls : List Lease) → gather takes (past_leases ls) ≡ []
leases_take [] = refl
leases_take (l ∷ ls) = leases_take ls

leases_give : (ls : List Lease) → gather gives (past_leases ls) ≡ []
leases_give [] = refl
leases_give (l ∷ ls) = leases_give ls

leases_owe : (p : PublicationId) (is : List LeaseId) (ls : List Lease) → follow (owes p) is (past_leases ls) ≡ is ++ ids p ls
leases_owe p is [] = sym (append-nil is)
leases_owe p is (l ∷ ls) = go (names p l) (λ js. leases_owe p js ls)
  where
    go : (b : Bool) → ((js : List LeaseId) → follow (owes p) js (past_leases ls) ≡ js ++ ids p ls)
        → follow (owes p) (cond b (is ++ (l.id ∷ [])) is) (past_leases ls) ≡ is ++ cond b (l.id ∷ ids p ls) (ids p ls)
    go true r = r (is ++ (l.id ∷ [])) ∙ append_assoc is (l.id ∷ []) (ids p ls)
    go false r = r is

-- the publications, from the identifier i on
module _ (vs : List ℕ) where
  abbrev end : ℕ → Bool → List Event
  end i b = cond b [] (ended (record { 0 = i }) (get_or vs i 0) ∷ [])

  publications_owe : (p : PublicationId) (is : List LeaseId) (i : ℕ) (es : List Publication) → follow (owes p) is (past_publications i es vs) ≡ is
  publications_owe p is i [] = refl
  publications_owe p is i (e ∷ es) =
      either (λ b. follow (owes p) is (end i b ++ past_publications (suc i) es vs) ≡ is)
      (publications_owe p is (suc i) es)
      (publications_owe p is (suc i) es)
      e.retained

  publications_note : (i : ℕ) (es : List Publication) → follow notes (upto i) (past_publications i es vs) ≡ upto (i + length es)
  publications_note i [] = let e : i ≡ i + 0 = omega arith in ap upto e
  publications_note i (e ∷ es) = go e.retained ∙ publications_note (suc i) es ∙ ap upto one
    where
      one : suc i + length es ≡ i + suc (length es)
      one = omega arith

      new : cond (among (record { 0 = i }) (upto i)) (upto i) (upto i ++ (record { 0 = i } ∷ [])) ≡ upto (suc i)
      new = rw (above_upto i (record { 0 = i }) (omega arith))

      go : (b : Bool)
          → follow notes (cond (among (record { 0 = i }) (upto i)) (upto i) (upto i ++ (record { 0 = i } ∷ []))) (end i b ++ past_publications (suc i) es vs)
          ≡ follow notes (upto (suc i)) (past_publications (suc i) es vs)
      go true = ap (λ (ps : List PublicationId). follow notes ps (past_publications (suc i) es vs)) new
      go false = ap (λ (ps : List PublicationId). follow notes ps (past_publications (suc i) es vs)) new

  -- what a publication and those after it weigh
  abbrev weights : (ℕ → ℕ) → ℕ → List Publication → ℕ → ℕ
  weights w i es n = weight w (get_or es n blank_publication) (get_or vs (i + n) 0)

  publications_balance : (w : ℕ → ℕ) (i : ℕ) (es : List Publication)
      → tally w (gather takes (past_publications i es vs)) ≡ tally w (gather gives (past_publications i es vs)) + total (length es) (weights w i es)
  publications_balance w i [] = refl
  publications_balance w i (e ∷ es) =
      rw (total-cons (length es) (weights w i (e ∷ es)), total-same (length es) (λ n. weights w i (e ∷ es) (suc n)) (weights w (suc i) es) (λ n h. ap (λ (k : ℕ). weight w (get_or es n blank_publication) (get_or vs k 0)) (on n)), here)
      (either
      (λ b. w (get_or vs i 0) + tally w (gather takes (end i b ++ past_publications (suc i) es vs))
      ≡ tally w (gather gives (end i b ++ past_publications (suc i) es vs)) + (cond b (w (get_or vs i 0)) 0 + total (length es) (weights w (suc i) es)))
      (omega (arith, publications_balance w (suc i) es))
      (omega (arith, publications_balance w (suc i) es))
      e.retained)
    where
      on : (n : ℕ) → i + suc n ≡ suc i + n
      on n = omega arith

      at_0 : i + 0 ≡ i
      at_0 = omega arith

      here : weights w i (e ∷ es) 0 ≡ weight w e (get_or vs i 0)
      here = ap (λ (k : ℕ). weight w e (get_or vs k 0)) at_0

  -- one publication: its handle if it is retained, and nothing of any other
  one_held : (p : PublicationId) (o : Option ℕ) (i : ℕ) (e : Publication) (es : List Publication)
      → follow (holds p) o (past_publications i (e ∷ es) vs) ≡ follow (holds p) (cond (eqb i p.0) (kept_in e (get_or vs i 0)) o) (past_publications (suc i) es vs)
  one_held p o i e es = go e.retained
    where
      go : (b : Bool)
          → follow (holds p) (cond (eqb i p.0) (some (get_or vs i 0)) o) (end i b ++ past_publications (suc i) es vs)
          ≡ follow (holds p) (cond (eqb i p.0) (cond b (some (get_or vs i 0)) none) o) (past_publications (suc i) es vs)
      go true = refl
      go false =
          ap (λ (x : Option ℕ). follow (holds p) x (past_publications (suc i) es vs))
          (either (λ c. cond c none (cond c (some (get_or vs i 0)) o) ≡ cond c none o) refl refl (eqb i p.0))

  earlier_held : (p : PublicationId) (o : Option ℕ) (i : ℕ) (es : List Publication) → p.0 < i → follow (holds p) o (past_publications i es vs) ≡ o
  earlier_held p o i [] h = refl
  earlier_held p o i (e ∷ es) h =
      one_held p o i e es
      ∙ ap (λ (b : Bool). follow (holds p) (cond b (kept_in e (get_or vs i 0)) o) (past_publications (suc i) es vs)) (ne_eqb i p.0 (omega arith))
      ∙ earlier_held p o (suc i) es (omega arith)

  publications_hold : (i : ℕ) (es : List Publication) (k : ℕ) (p : PublicationId) → p.0 ≡ i + k
      → follow (holds p) none (past_publications i es vs) ≡ kept_in (get_or es k blank_publication) (get_or vs p.0 0)
  publications_hold i [] k p h = refl
  publications_hold i (e ∷ es) zero p h =
      one_held p none i e es
      ∙ ap (λ (b : Bool). follow (holds p) (cond b (kept_in e (get_or vs i 0)) none) (past_publications (suc i) es vs)) (eq-eqb i p.0 (omega arith))
      ∙ earlier_held p (kept_in e (get_or vs i 0)) (suc i) es (omega arith)
      ∙ ap (λ (n : ℕ). kept_in e (get_or vs n 0)) same
    where
      same : i ≡ p.0
      same = omega arith
  publications_hold i (e ∷ es) (suc k) p h =
      one_held p none i e es
      ∙ ap (λ (b : Bool). follow (holds p) (cond b (kept_in e (get_or vs i 0)) none) (past_publications (suc i) es vs)) (ne_eqb i p.0 (omega arith))
      ∙ publications_hold (suc i) es k p (omega arith)

pub past_linked : (s : Store) → Linked s (past s)
past_linked s =
    record {
      cells = λ p.
          follow_append (holds p) none publications leases
          ∙ leases_hold p _ s.registry.leases
          ∙ publications_hold s.payloads 0 s.registry.publications p.0 p (omega arith);
      owed = λ p.
          follow_append (owes p) [] publications leases
          ∙ leases_owe p _ s.registry.leases
          ∙ ap (λ (is : List LeaseId). is ++ ids p s.registry.leases) (publications_owe s.payloads p [] 0 s.registry.publications);
      given =
          follow_append notes [] publications leases
          ∙ leases_note _ s.registry.leases
          ∙ publications_note s.payloads 0 s.registry.publications
          ∙ ap upto (zero-add (length s.registry.publications));
      balance = λ w.
          rw (gather_append takes publications, gather_append gives publications, leases_take s.registry.leases, leases_give s.registry.leases, append-nil (gather takes publications), append-nil (gather gives publications))
          (omega (
            arith,
            publications_balance s.payloads w 0 s.registry.publications,
            total-same (length s.registry.publications) (weights s.payloads w 0 s.registry.publications) (λ n. weight w (publication_of s (record { 0 = n })) (payload_of s (record { 0 = n })))
                (λ n h. ap (λ (k : ℕ). weight w (publication_of s (record { 0 = n })) (get_or s.payloads k 0)) (zero-add n)),
          ));
    }
  where
    publications : List Event
    publications = past_publications 0 s.registry.publications s.payloads

    leases : List Event
    leases = past_leases s.registry.leases

-- from any sound table
pub third_of : (L : Limits) (s : Store) → StoreSound L s → Demand3 (past s) (by_the_rows L s)
third_of L s k = third_from L s (past s) k (past_linked s)

-- from an empty store, with or without domain
pub third : (L : Limits) (d : std.Option ℕ) → Demand3 [] (by_the_rows L (empty_store d))
third L d = third_of L (empty_store d) (empty_sound L d)

-- a table tells as much as the history that led to it: after a save and a restore, nothing is forgotten
pub record SamePast (es fs : List Event) : Type 0 where
  pub handles : (p : PublicationId) → holding p es ≡ holding p fs
  pub leases : (p : PublicationId) → outstanding p es ≡ outstanding p fs
  pub identifiers : given_out es ≡ given_out fs

pub restored : (L : Limits) (s : Store) → StoreSound L s → (cs : List Command)
    → SamePast (past s ++ told (by_the_rows L s) s cs) (past (run (by_the_rows L s) s cs))
restored L s k cs =
    record {
      handles = λ p. here.cells p ∙ sym (there.cells p);
      leases = λ p. here.owed p ∙ sym (there.owed p);
      identifiers = here.given ∙ sym there.given;
    }
  where
    here : Linked (run (by_the_rows L s) s cs) (past s ++ told (by_the_rows L s) s cs)
    here = (facts L s (past s) k (past_linked s) cs).1

    there : Linked (run (by_the_rows L s) s cs) (past (run (by_the_rows L s) s cs))
    there = past_linked (run (by_the_rows L s) s cs)
