-- Brokers that answer alike meet the third demand alike: whoever meets the second meets the third.
-- Assumes nothing.
use Prim.Native.Nat.{ℕ}
use mathlib.Core.Path.{◌≡◌, refl, sym, ap, ◌∙◌}
use mathlib.Core.List.{List, [], ◌∷◌, ◌++◌}
use lib.ListN.{length}
use Rattle.rules.specs.Limits.{Limits}
use Rattle.rules.specs.Answers.{done}
use Rattle.rules.specs.Table.{Store}
use Rattle.rules.specs.Rows.{step}
use Rattle.rules.specs.Broker.{Broker, Event, run, told}
use Rattle.rules.specs.History.{given_out, holding, outstanding, unreleased, among}
use Rattle.rules.specs.Demand2.{by_the_rows, Demand2, Demand2Table}
use Rattle.rules.specs.Demand3.{asked, history, since, observed, retained, shown, left, Revoking, Demand3}
use Rattle.rules.specs.Past.{past}
use Rattle.rules.specs.Sound.{StoreSound}
use Rattle.rules.specs.declared.PublicationId.{PublicationId}
use Rattle.rules.specs.declared.Command.{Command}
use Rattle.rules.specs.declared.Command.TheVariants.{Revoke, Reclaim, Observe, Count}
use Rattle.rules.proofs.Along.{run_append}
use Rattle.rules.proofs.Past.{third_of}

alike : (B C : Broker) (s : B.State) (t : C.State) → ((cs : List Command) (c : Command) → B.answer (run B s cs) c ≡ C.answer (run C t cs) c)
    → (cs : List Command) → told B s cs ≡ told C t cs
unfolding run told
alike B C s t same [] = refl
alike B C s t same (c ∷ cs) = rw (same [] c, alike B C (B.next s c) (C.next t c) (λ ds. same (c ∷ ds)) cs)

module _ (B C : Broker) (same : (cs : List Command) (c : Command) → asked [] B cs c ≡ asked [] C cs c) (es : List Event) where
  histories : (cs : List Command) → history es B cs ≡ history es C cs
  histories cs = ap (λ (fs : List Event). es ++ fs) (alike B C B.first C.first same cs)

  sinces : (cs ds : List Command) → since es B cs ds ≡ since es C cs ds
  sinces cs ds =
      alike B C (run B B.first cs) (run C C.first cs)
      (λ fs c.
      ap (λ (s : B.State). B.answer s c) (sym (run_append B cs fs B.first))
      ∙ same (cs ++ fs) c
      ∙ ap (λ (s : C.State). C.answer s c) (run_append C cs fs C.first))
      ds

  observes : (cs : List Command) (ps : List PublicationId) → observed es B cs ps ≡ observed es C cs ps
  observes cs [] = refl
  observes cs (p ∷ ps) = rw (same cs (Observe p), observes cs ps)

  retains : (cs : List Command) → retained es B cs ≡ retained es C cs
  retains cs = observes cs (given_out (history es B cs)) ∙ ap (λ (fs : List Event). observed es C cs (given_out fs)) (histories cs)

  revokes : (cs : List Command) (p : PublicationId) → Revoking es B cs p → Revoking es C cs p
  revokes cs p v =
      record {
        stands = λ e. v.stands (ap (holding p) (histories cs) ∙ e);
        carried_out = sym (same cs (Revoke p)) ∙ v.carried_out;
      }

  lefts : (cs : List Command) (p : PublicationId) (ds : List Command) → left es B cs p ds ≡ left es C cs p ds
  lefts cs p ds =
      ap (λ (fs : List Event). unreleased (outstanding p fs) (since es B (cs ++ Revoke p ∷ []) ds)) (histories cs)
      ∙ ap (unreleased (outstanding p (history es C cs))) (sinces (cs ++ Revoke p ∷ []) ds)

  pub carried : Demand3 es C → Demand3 es B
  carried d =
      record {
        relied = λ cs ds p v n.
            same (cs ++ Revoke p ∷ ds) (Reclaim p) ∙ d.relied cs ds p (revokes cs p v) (λ e. n (lefts cs p ds ∙ e));
        returned = λ cs ds p h v e x.
            same (cs ++ Revoke p ∷ ds) (Reclaim p)
            ∙ d.returned cs ds p h (revokes cs p v) (sym (lefts cs p ds) ∙ e) (ap (holding p) (sym (histories (cs ++ Revoke p ∷ ds))) ∙ x);
        ledger = λ cs h. rw (retains cs, histories cs) (d.ledger cs h);
        counted = λ cs. same cs Count ∙ d.counted cs ∙ ap (λ (hs : List ℕ). done (length hs)) (sym (retains cs));
        no_other = λ cs p a.
            ap (shown p) (same cs (Observe p)) ∙ d.no_other cs p (ap (λ (fs : List Event). among p (given_out fs)) (sym (histories cs)) ∙ a);
      }

-- a broker that answers as the rows do, from any sound table
pub second_gives_third : (L : Limits) (s : Store) (B : Broker) → StoreSound L s → Demand2 L s B → Demand3 (past s) B
second_gives_third L s B k d = carried B (by_the_rows L s) d (past s) (third_of L s k)

-- a broker whose states show a table, and that answers and goes on as the rows do at each good state, meets the second demand
module _ (L : Limits) (B : Broker) (view : B.State → Store) (Good : B.State → Type 0)
    (goes : (s : B.State) (c : Command) → Good s
    → (B.answer s c ≡ (step L (view s) c).answer) × (view (B.next s c) ≡ (step L (view s) c).table) × Good (B.next s c)) where
  -- the table after some commands is that of the rows, and the state is good
  views : (t : Store) (s : B.State) → Good s → view s ≡ t → (cs : List Command)
      → (view (run B s cs) ≡ run (by_the_rows L (view B.first)) t cs) × Good (run B s cs)
  unfolding run
  views t s g e [] = (e, g)
  views t s g e (c ∷ cs) =
      views (step L t c).table (B.next s c) (goes s c g).2 ((goes s c g).1 ∙ ap (λ (x : Store). (step L x c).table) e) cs

  pub simulates_table : Good B.first → Demand2Table L (view B.first) B view
  simulates_table g cs = (views (view B.first) B.first g refl cs).0

  pub simulates : Good B.first → Demand2 L (view B.first) B
  simulates g cs c =
      (goes (run B B.first cs) c (views (view B.first) B.first g refl cs).1).0
      ∙ ap (λ (x : Store). (step L x c).answer) (simulates_table g cs)
