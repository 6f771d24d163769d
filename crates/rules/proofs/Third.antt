-- The third demand holds of the rows, from any sound table that is linked with what happened before.
-- Assumes nothing.
use Prim.Native.Nat.{ℕ, zero, suc, ◌+◌, ◌<◌}
use mathlib.Core.Path.{◌≡◌, refl, sym, ap, subst, ◌∙◌}
use mathlib.Core.Logic.{◌≢◌}
use mathlib.Core.Bool.{Bool, true, false, not, cond}
use mathlib.Core.List.{List, [], ◌∷◌, ◌++◌, append_assoc}
use mathlib.Core.Option.{none, some}
use native.Mathlib.Omega.{arith}
use lib.Dec.{eqb}
use lib.ListN.{length, length-set, get_or-eq_default}
use borrow.Author.Tests.{eq-eqb}
use Rattle.lists.proofs.Bools.{either}
use Rattle.lists.proofs.Place.{get_d_set}
use Rattle.lists.proofs.Total.{total, tally, tally-append, how_many-total, how_many-tally, length-tally}
use Rattle.rules.specs.Limits.{Limits}
use Rattle.rules.specs.Answers.{Outcome, refused, done}
use Rattle.rules.specs.Table.{Store, blank_publication, publication_of, payload_of}
use Rattle.rules.specs.Changes.{hidden}
use Rattle.rules.specs.Rows.{effect, step}
use Rattle.rules.specs.Broker.{Broker, Event, run, told}
use Rattle.rules.specs.History.{accepted, handed_back, times, among, given_out, holding, outstanding, unreleased}
use Rattle.rules.specs.Demand2.{by_the_rows}
use Rattle.rules.specs.Demand3.{Demand3, Revoking, shown, asked, observed}
use Rattle.rules.specs.Sound.{StoreSound}
use Rattle.rules.specs.declared.PublicationId.{PublicationId}
use Rattle.rules.specs.declared.LeaseId.{LeaseId}
use Rattle.rules.specs.declared.Publication.{Publication}
use Rattle.rules.specs.declared.Refusal.TheVariants.{Relied}
use Rattle.rules.specs.declared.Command.{Command}
use Rattle.rules.specs.declared.Command.TheVariants.{Revoke, Reclaim, Observe, Count}
use Rattle.rules.proofs.Along.{along, run_append}
use Rattle.rules.proofs.Linked.{Linked, stays_linked, kept_in, cell, weight, kept, upto, not_among}
use Rattle.rules.proofs.Gone.{none_left, leased_ids, known, named_kept, reclaim_answers, revoke_step, cell_list, observe_shows, Gone, stays_gone}

module _ (L : Limits) (u : Store) (past : List Event) (sound : StoreSound L u) (linked : Linked u past) where
  abbrev B : Broker
  B = by_the_rows L u

  abbrev after : List Command → Store
  after cs = run B u cs

  pub facts : (cs : List Command) → StoreSound L (after cs) × Linked (after cs) (past ++ told B u cs)
  facts cs = along L u Linked (λ s c es k h r. stays_linked L s k c es h r) cs u past sound linked

  -- what is retained, by a weight

  observed_append : (cs : List Command) (ps qs : List PublicationId) → observed past B cs (ps ++ qs) ≡ observed past B cs ps ++ observed past B cs qs
  observed_append cs [] qs = refl
  observed_append cs (p ∷ ps) qs = rw (observed_append cs ps qs) (sym (append_assoc (shown p (asked past B cs (Observe p))) _ _))

  tally-cell : (w : ℕ → ℕ) (s : Store) (p : PublicationId) → tally w (cell_list s p) ≡ weight w (publication_of s p) (payload_of s p)
  tally-cell w s p =
      either (λ b. tally w (cond b (payload_of s p ∷ []) []) ≡ cond b (w (payload_of s p)) 0) (omega arith) refl (publication_of s p).retained

  observed_total : (w : ℕ → ℕ) (cs : List Command) (n : ℕ)
      → tally w (observed past B cs (upto n)) ≡ total n (λ i. weight w (publication_of (after cs) (record { 0 = i })) (payload_of (after cs) (record { 0 = i })))
  observed_total w cs zero = refl
  observed_total w cs (suc n) =
      rw (observed_append cs (upto n) (record { 0 = n } ∷ []), tally-append w (observed past B cs (upto n)), tally-append w (shown (record { 0 = n }) (asked past B cs (Observe (record { 0 = n })))), observe_shows L (after cs) (record { 0 = n }))
      (omega (arith, observed_total w cs n, tally-cell w (after cs) (record { 0 = n })))

  retained_kept : (w : ℕ → ℕ) (cs : List Command) → tally w (observed past B cs (given_out (past ++ told B u cs))) ≡ kept w (after cs)
  retained_kept w cs = rw (facts cs).1.given (observed_total w cs (length (after cs).registry.publications))

  balanced : (cs : List Command) (h : ℕ)
      → times h (accepted (past ++ told B u cs)) ≡ times h (handed_back (past ++ told B u cs)) + times h (observed past B cs (given_out (past ++ told B u cs)))
  balanced cs h =
      rw (how_many-tally (λ k. eqb k h) (accepted (past ++ told B u cs)), how_many-tally (λ k. eqb k h) (handed_back (past ++ told B u cs)), how_many-tally (λ k. eqb k h) (observed past B cs (given_out (past ++ told B u cs))), retained_kept (λ k. cond (eqb k h) 1 0) cs)
      ((facts cs).1.balance (λ k. cond (eqb k h) 1 0))

  count_is : (cs : List Command) → asked past B cs Count ≡ done (length (observed past B cs (given_out (past ++ told B u cs))))
  unfolding step
  count_is cs =
      ap (λ (n : ℕ). done n)
      (how_many-total (λ e. e.retained) (after cs).registry.publications blank_publication
      ∙ sym (retained_kept (λ k. 1) cs)
      ∙ sym (length-tally (observed past B cs (given_out (past ++ told B u cs)))))

  none_other : (cs : List Command) (p : PublicationId) → among p (given_out (past ++ told B u cs)) ≡ false → shown p (asked past B cs (Observe p)) ≡ []
  none_other cs p a =
      observe_shows L (after cs) p
      ∙ ap (λ (e : Publication). cond e.retained (payload_of (after cs) p ∷ []) [])
      (get_or-eq_default (after cs).registry.publications blank_publication (not_among (length (after cs).registry.publications) p (rw (facts cs).1.given at a)))

  -- a cell that holds something

  cell_some : (e : Publication) (v h : ℕ) → kept_in e v ≡ some h → (e.retained ≡ true) × (v ≡ h)
  cell_some e v h x = go e.retained refl
    where
      go : (b : Bool) → e.retained ≡ b → (e.retained ≡ true) × (v ≡ h)
      go true f = let g : some v ≡ some h = rw f at x in (f, cc)
      go false f = let g : none ≡ some h = rw f at x in (cc, cc)

  cell_there : (e : Publication) (v : ℕ) → kept_in e v ≢ none → e.retained ≡ true
  cell_there e v n = go e.retained refl
    where
      go : (b : Bool) → e.retained ≡ b → e.retained ≡ true
      go true f = f
      go false f = absurd (n (rw f))

  some_left : (is : List LeaseId) → is ≢ [] → none_left is ≡ false
  some_left [] n = absurd (n refl)
  some_left (i ∷ is) n = refl

  none_is : (is : List LeaseId) → is ≡ [] → none_left is ≡ true
  none_is is e = rw e

  -- the drain: cs leads up to the revoke of p, and ds comes after it
  module _ (cs ds : List Command) (p : PublicationId) (v : Revoking past B cs p) where
    abbrev leases : List LeaseId
    leases = outstanding p (past ++ told B u cs)

    kept₀ : (publication_of (after cs) p).retained ≡ true
    kept₀ = cell_there (publication_of (after cs) p) (payload_of (after cs) p) (λ e. v.stands ((facts cs).1.cells p ∙ e))

    known₀ : p.0 < length (after cs).registry.publications
    known₀ = known (after cs) p kept₀

    abbrev s₁ : Store
    s₁ = effect (after cs) (Revoke p)

    gone₁ : Gone p s₁ leases
    gone₁ =
        record {
          left = sym ((facts cs).1.owed p);
          hid =
              rw (get_d_set (after cs).registry.publications p.0 (hidden (publication_of (after cs) p)) blank_publication p.0 known₀, eq-eqb p.0 p.0 refl);
          there = omega (arith, length-set (after cs).registry.publications p.0 (hidden (publication_of (after cs) p)), known₀);
        }

    is₁ : after (cs ++ (Revoke p ∷ [])) ≡ s₁
    unfolding run
    is₁ = run_append B cs (Revoke p ∷ []) u ∙ ap (λ (o : Outcome Store _). o.table) (revoke_step L (after cs) p known₀)

    is₂ : after (cs ++ Revoke p ∷ ds) ≡ run B s₁ ds
    unfolding run
    is₂ = run_append B cs (Revoke p ∷ ds) u ∙ ap (λ (o : Outcome Store _). run B o.table ds) (revoke_step L (after cs) p known₀)

    abbrev s₂ : Store
    s₂ = run B s₁ ds

    abbrev left_now : List LeaseId
    left_now = unreleased leases (told B (after (cs ++ (Revoke p ∷ []))) ds)

    gone₂ : StoreSound L s₂ × Gone p s₂ left_now
    gone₂ =
        rw is₁
        (along L u (λ s es. Gone p s (unreleased leases es)) (stays_gone L p leases) ds s₁ [] (subst (StoreSound L) is₁ (facts (cs ++ (Revoke p ∷ []))).0) gone₁)

    answers : (publication_of s₂ p).retained ≡ true
        → asked past B (cs ++ Revoke p ∷ ds) (Reclaim p) ≡ cond (none_left left_now) (done (payload_of s₂ p)) (refused Relied tt)
    answers r =
        ap (λ (s : Store). (step L s (Reclaim p)).answer) is₂
        ∙ reclaim_answers L s₂ p r gone₂.1.hid
        ∙ ap (λ (is : List LeaseId). cond (none_left is) (done (payload_of s₂ p)) (refused Relied tt)) gone₂.1.left

    is_relied : left_now ≢ [] → asked past B (cs ++ Revoke p ∷ ds) (Reclaim p) ≡ refused Relied tt
    is_relied n =
        answers
        (named_kept s₂.registry.publications p s₂.registry.leases gone₂.0.registry.s4.named
        (leased_ids p s₂.registry.leases ∙ ap not (ap none_left gone₂.1.left ∙ some_left left_now n)))
        ∙ rw (some_left left_now n)

    is_returned : (h : ℕ) → left_now ≡ [] → holding p (past ++ told B u (cs ++ Revoke p ∷ ds)) ≡ some h → asked past B (cs ++ Revoke p ∷ ds) (Reclaim p) ≡ done h
    is_returned h e x = answers held.0 ∙ rw (none_is left_now e, held.1)
      where
        held : ((publication_of s₂ p).retained ≡ true) × (payload_of s₂ p ≡ h)
        held =
            cell_some (publication_of s₂ p) (payload_of s₂ p) h
            (ap (λ (s : Store). cell s p) (sym is₂) ∙ sym ((facts (cs ++ Revoke p ∷ ds)).1.cells p) ∙ x)

  pub third_from : Demand3 past B
  third_from =
      record {
        relied = is_relied;
        returned = λ cs ds p h v e x. is_returned cs ds p v h e x;
        ledger = balanced;
        counted = count_is;
        no_other = none_other;
      }
