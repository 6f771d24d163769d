-- A session follows the rules: its answers are those of the rows, and its store is the table of the rows.
-- Assumes nothing.
use Rattle.std.specs.Prelude.{Option, Some, None, ℕ}
use mathlib.Core.Path.{◌≡◌, refl, sym, ap, subst, ◌∙◌}
use mathlib.Core.List.{List, [], ◌∷◌, ◌++◌, append_assoc}
use Rattle.rules.specs.Limits.{box}
use Rattle.rules.specs.Commands.{AnswerTo}
use Rattle.rules.specs.Table.{Store, empty_store}
use Rattle.rules.specs.Columns.{used, filled}
use Rattle.rules.specs.Rows.{step}
use Rattle.rules.specs.Sound.{StoreSound}
use Rattle.rules.specs.Broker.{Broker, Event, events, run, told}
use Rattle.rules.specs.Demand2.{by_the_rows}
use Rattle.rules.specs.declared.Command.{Command}
use Rattle.rules.proofs.KeepsStore.{step_sound, empty_sound}
use Rattle.rules.proofs.Columns.{used_filled, filled_sound}
use Rattle.rules.proofs.Called.{command_answers, command_leaves}
use Rattle.store.specs.Columns.{store_of}
use Rattle.store.specs.declared.PublicationStore.{PublicationStore}
use Rattle.demands.specs.Calls.{stored, Made, Called}
use Rattle.demands.specs.Sessions.{Exchange, Leads, Session, ◌answered◌, commands, happened, by_the_rules}
use Rattle.demands.proofs.Calls.{answer_on, store_after, called, calls}

-- a new store is the empty one

pub new_is : (d : Option ℕ) (s : PublicationStore) → Made d s → s ≡ stored (empty_store d)
new_is None s m = m
new_is (Some n) s m = m

pub makes : (d : Option ℕ) → Made d (stored (empty_store d))
makes None = refl
makes (Some n) = refl

-- a call on a table's store does the row's step

module _ (u : Store) (sound : StoreSound box u) (c : Command) where
  is : used (filled box u) ≡ u
  is = used_filled box u sound.s5.payload_each sound.s5.revision_each

  answers : answer_on (stored u) c ≡ (step box u c).answer
  answers = command_answers box (filled box u) c (filled_sound box u sound) ∙ ap (λ (v : Store). (step box v c).answer) is

  leaves : store_after (stored u) c ≡ stored (step box u c).table
  leaves = ap store_of (command_leaves box (filled box u) c (filled_sound box u sound) ∙ ap (λ (v : Store). filled box (step box v c).table) is)

  pub steps : (a : AnswerTo c) (t : PublicationStore) → Called c (stored u) a t → (a ≡ (step box u c).answer) × (t ≡ stored (step box u c).table)
  steps a t h = ((called c (stored u) a t h).0 ∙ answers, (called c (stored u) a t h).1 ∙ leaves)

  stepped : Called c (stored u) (step box u c).answer (stored (step box u c).table)
  stepped =
      subst (λ (t : PublicationStore). Called c (stored u) (step box u c).answer t) leaves
      (subst (λ (a : AnswerTo c). Called c (stored u) a (store_after (stored u) c)) answers (calls c (stored u)))

-- the broker of the rows
abbrev pub rows : Store → Broker
rows u = by_the_rows box u

-- exchanges that lead on from a table's store, along the rows
pub record Follows (B u : Store) (xs : List Exchange) (t : PublicationStore) : Type 0 where
  pub answers : xs ≡ by_the_rules u (commands xs)
  pub left : t ≡ stored (run (rows B) u (commands xs))
  pub tells : happened xs ≡ told (rows B) u (commands xs)
  pub sound : StoreSound box (run (rows B) u (commands xs))

module _ (B : Store) where
  one_more : (x : Exchange) (xs : List Exchange) (u : Store) (t : PublicationStore) → x.answer ≡ (step box u x.command).answer
      → Follows B (step box u x.command).table xs t → Follows B u (x ∷ xs) t
  unfolding run told
  one_more x xs u t e f =
      record {
        answers =
            ap (λ (a : AnswerTo x.command). (x.command answered a) ∷ xs) e
            ∙ ap (λ (ys : List Exchange). (x.command answered (step box u x.command).answer) ∷ ys) f.answers;
        left = f.left;
        tells =
            ap (λ (a : AnswerTo x.command). events x.command a ++ happened xs) e
            ∙ ap (λ (es : List Event). events x.command (step box u x.command).answer ++ es) f.tells;
        sound = f.sound;
      }

  pub follow : (xs : List Exchange) (u : Store) → StoreSound box u → (s t : PublicationStore) → s ≡ stored u → Leads s xs t → Follows B u xs t
  unfolding run told
  follow [] u k s t e l = record { answers = refl; left = l ∙ e; tells = refl; sound = k }
  follow (x ∷ xs) u k s t e l =
      let now = steps u k x.command x.answer l.0 (subst (λ (z : PublicationStore). Called x.command z x.answer l.0) e l.1) in
      one_more x xs u t now.0 (follow xs (step box u x.command).table (step_sound box u x.command k) l.0 t now.1 l.2)

  -- and any commands have such exchanges
  pub led : (cs : List Command) (u : Store) → StoreSound box u → Leads (stored u) (by_the_rules u cs) (stored (run (rows B) u cs))
  unfolding run
  led [] u k = refl
  led (c ∷ cs) u k = (stored (step box u c).table, stepped u k c, led cs (step box u c).table (step_sound box u c k))

pub asked_for : (cs : List Command) (u : Store) → commands (by_the_rules u cs) ≡ cs
asked_for [] u = refl
asked_for (c ∷ cs) u = ap (λ (ds : List Command). c ∷ ds) (asked_for cs (step box u c).table)

-- exchanges, in two parts

pub parts : (xs ys : List Exchange) (s t : PublicationStore) → Leads s (xs ++ ys) t → (u : PublicationStore) × Leads s xs u × Leads u ys t
parts [] ys s t l = (s, refl, l)
parts (x ∷ xs) ys s t l =
    let rest = parts xs ys l.0 t l.2 in
    (rest.0, (l.0, l.1, rest.1), rest.2)

pub happened_append : (xs ys : List Exchange) → happened (xs ++ ys) ≡ happened xs ++ happened ys
happened_append [] ys = refl
happened_append (x ∷ xs) ys = rw (happened_append xs ys) (sym (append_assoc (events x.command x.answer) _ _))

pub commands_append : (xs ys : List Exchange) → commands (xs ++ ys) ≡ commands xs ++ commands ys
commands_append [] ys = refl
commands_append (x ∷ xs) ys = rw (commands_append xs ys)

-- a session follows the rows from the empty table on

abbrev pub start : {xs : List Exchange} {t : PublicationStore} → Session xs t → Store
start k = empty_store k.domain

pub session_follows : (xs : List Exchange) (t : PublicationStore) (k : Session xs t) → Follows (start k) (start k) xs t
session_follows xs t k =
    follow (start k) xs (start k) (empty_sound box k.domain) k.first t (new_is k.domain k.first k.made) k.leads

-- where a session stands after its first exchanges, and what leads on from there
pub record Reached (u : Store) (ys : List Exchange) (t : PublicationStore) : Type 0 where
  pub store : PublicationStore
  pub is : store ≡ stored u
  pub sound : StoreSound box u
  pub on : Leads store ys t

module _ (zs : List Exchange) (t : PublicationStore) (k : Session zs t) where
  abbrev pub after : List Exchange → Store
  after xs = run (rows (start k)) (start k) (commands xs)

  pub reached : (xs ys : List Exchange) → zs ≡ xs ++ ys → Reached (after xs) ys t
  reached xs ys e =
      let l = parts xs ys k.first t (subst (λ (z : List Exchange). Leads k.first z t) e k.leads) in
      let f = session_follows xs l.0 (record { domain = k.domain; first = k.first; made = k.made; leads = l.1 }) in
      record { store = l.0; is = f.left; sound = f.sound; on = l.2 }

-- from there on, some exchanges tell what the rows tell, and the next one is answered as the row says
module _ (B u : Store) (t : PublicationStore) where
  pub tells_on : (ys ws : List Exchange) → Reached u (ys ++ ws) t → happened ys ≡ told (rows B) u (commands ys)
  tells_on ys ws r = let l = parts ys ws r.store t r.on in (follow B ys u r.sound r.store l.0 r.is l.1).tells

  pub answered_next : (x : Exchange) (ws : List Exchange) → Reached u (x ∷ ws) t → x.answer ≡ (step box u x.command).answer
  answered_next x ws r =
      (steps u r.sound x.command x.answer r.on.0
      (subst (λ (s : PublicationStore). Called x.command s x.answer r.on.0) r.is r.on.1)).0
