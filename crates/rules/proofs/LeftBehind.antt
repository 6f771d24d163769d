-- A broker that leaves the handle in a reclaimed cell answers as the rows do: no answer shows the key that it leaves behind, and only the
-- whole table does.
-- Assumes nothing.
use Rattle.std.specs.Prelude.{None}
use Prim.Native.Nat.{ℕ, zero, suc, ◌<◌}
use mathlib.Core.Path.{◌≡◌, refl, sym, ap}
use mathlib.Core.Bool.{true, false, not, cond}
use mathlib.Core.List.{List, [], ◌∷◌, ◌++◌}
use native.Mathlib.Omega.{arith}
use native.Mathlib.Nat.{not-suc-le-zero, le_of_suc-le-suc}
use lib.ListN.{length, get_or, set}
use borrow.Author.Tests.{leb-false, not-false}
use Rattle.lists.proofs.Bools.{or_right}
use Rattle.lists.proofs.Search.{first_every}
use Rattle.rules.specs.Limits.{Limits}
use Rattle.rules.specs.Answers.{Verdict, pass, stop, verdict, carry, done}
use Rattle.rules.specs.Commands.{Result, offered}
use Rattle.rules.specs.Table.{Store, blank_publication, blank_lease, empty_store, at, publication_of, payload_of}
use Rattle.rules.specs.Conditions.{unknown, is_lease}
use Rattle.rules.specs.Changes.{published, adopted, hidden, reclaimed}
use Rattle.rules.specs.Rows.{tests, result, effect, step, read_of}
use Rattle.rules.specs.Broken.{leaves_the_handle_behind, changing, release_right, leave_the_handle}
use Rattle.rules.specs.Demand2.{Demand2}
use Rattle.rules.specs.Sound.{StoreSound}
use Rattle.rules.specs.declared.PublicationId.{PublicationId}
use Rattle.rules.specs.declared.Publication.{Publication}
use Rattle.rules.specs.declared.Command.{Command}
use Rattle.rules.specs.declared.Command.TheVariants.{Publish, Adopt, Acquire, Release, Revoke, Replace, Reclaim, Read, Observe, Resolve, Count}
use Rattle.rules.proofs.Clear.{Clear, clear}
use Rattle.rules.proofs.KeepsStore.{step_sound, empty_sound}
use Rattle.rules.proofs.Carried.{simulates}

-- the payloads, with 0 in each cell that is not retained

abbrev cleaned : List Publication → List ℕ → List ℕ
cleaned [] vs = vs
cleaned (e ∷ es) [] = []
cleaned (e ∷ es) (v ∷ vs) = cond e.retained v 0 ∷ cleaned es vs

abbrev clean : Store → Store
clean s = record { registry = s.registry; payloads = cleaned s.registry.publications s.payloads; revisions = s.revisions }

cleaned_at : (es : List Publication) (vs : List ℕ) (i : ℕ) → (get_or es i blank_publication).retained ≡ true → get_or (cleaned es vs) i 0 ≡ get_or vs i 0
cleaned_at [] vs i r = refl
cleaned_at (e ∷ es) [] i r = refl
cleaned_at (e ∷ es) (v ∷ vs) zero r = rw r
cleaned_at (e ∷ es) (v ∷ vs) (suc i) r = cleaned_at es vs i r

-- one publication more
cleaned_snoc : (es : List Publication) (vs : List ℕ) (e : Publication) (v : ℕ) → length (cleaned es vs) ≡ length es → e.retained ≡ true
    → cleaned (es ++ (e ∷ [])) (vs ++ (v ∷ [])) ≡ cleaned es vs ++ (v ∷ [])
cleaned_snoc [] [] e v h r = rw r
cleaned_snoc [] (u ∷ vs) e v h r = let z : suc (length vs) ≡ 0 = h in absurd (omega arith)
cleaned_snoc (d ∷ es) [] e v h r = let z : 0 ≡ suc (length es) = h in absurd (omega arith)
cleaned_snoc (d ∷ es) (u ∷ vs) e v h r =
    ap (λ (l : List ℕ). cond d.retained u 0 ∷ l) (cleaned_snoc es vs e v (let z : suc (length (cleaned es vs)) ≡ suc (length es) = h in omega arith) r)

-- a record changed that stays retained or not; another handle in a retained cell; a publication that ends

cleaned_same : (es : List Publication) (vs : List ℕ) (i : ℕ) (e : Publication) → e.retained ≡ (get_or es i blank_publication).retained
    → cleaned (set es i e) vs ≡ cleaned es vs
cleaned_same [] vs i e r = refl
cleaned_same (d ∷ es) [] zero e r = refl
cleaned_same (d ∷ es) [] (suc i) e r = refl
cleaned_same (d ∷ es) (v ∷ vs) zero e r = rw r
cleaned_same (d ∷ es) (v ∷ vs) (suc i) e r = ap (λ (l : List ℕ). cond d.retained v 0 ∷ l) (cleaned_same es vs i e r)

cleaned_set : (es : List Publication) (vs : List ℕ) (i v : ℕ) → (get_or es i blank_publication).retained ≡ true
    → cleaned es (set vs i v) ≡ set (cleaned es vs) i v
cleaned_set [] vs i v r = refl
cleaned_set (d ∷ es) [] i v r = refl
cleaned_set (d ∷ es) (u ∷ vs) zero v r = rw r
cleaned_set (d ∷ es) (u ∷ vs) (suc i) v r = ap (λ (l : List ℕ). cond d.retained u 0 ∷ l) (cleaned_set es vs i v r)

cleaned_ended : (es : List Publication) (vs : List ℕ) (i : ℕ) (e : Publication) → i < length es → e.retained ≡ false
    → cleaned (set es i e) vs ≡ set (cleaned es vs) i 0
cleaned_ended [] vs i e h r = absurd (not-suc-le-zero h)
cleaned_ended (d ∷ es) [] zero e h r = refl
cleaned_ended (d ∷ es) [] (suc i) e h r = refl
cleaned_ended (d ∷ es) (v ∷ vs) zero e h r = rw r
cleaned_ended (d ∷ es) (v ∷ vs) (suc i) e h r = ap (λ (l : List ℕ). cond d.retained v 0 ∷ l) (cleaned_ended es vs i e (le_of_suc-le-suc h) r)

same_tests : (L : Limits) (s : Store) (c : Command) → tests L s c ≡ tests L (clean s) c
same_tests L s (Publish o g q v) = refl
same_tests L s (Adopt p o g) = refl
same_tests L s (Acquire p o g) = refl
same_tests L s (Release i) = refl
same_tests L s (Revoke p) = refl
same_tests L s (Replace p o g v) = refl
same_tests L s (Reclaim p) = refl
same_tests L s (Read i) = refl
same_tests L s (Observe p) = refl
same_tests L s (Resolve q) = refl
same_tests L s Count = refl

module _ (L : Limits) (s : Store) (k : StoreSound L (clean s)) where
  same_payload : (p : PublicationId) → (publication_of s p).retained ≡ true → payload_of s p ≡ payload_of (clean s) p
  same_payload p r = sym (cleaned_at s.registry.publications s.payloads p.0 r)

  same_result : (c : Command) → Clear (tests L s c) → result s c ≡ result (clean s) c
  same_result (Publish o g q v) h = refl
  same_result (Adopt p o g) h = refl
  same_result (Acquire p o g) h = refl
  same_result (Release i) h = refl
  same_result (Revoke p) h = refl
  same_result (Replace p o g v) h = same_payload p (k.registry.s2 p (not-false _ h.1.1.0))
  same_result (Reclaim p) h = same_payload p (not-false _ h.1.1.0)
  same_result (Read i) h =
      ap (λ (v : ℕ). record { id = read_of s i; revision = (result s (Read i)).revision; handle = v })
      (same_payload (read_of s i)
      (first_every (is_lease i) (λ l. (at s.registry.publications l.publication).retained ≡ true) s.registry.leases blank_lease k.registry.s4.named
      (not-false _ h.1.0)))
  same_result (Observe p) h =
      ap (λ (v : ℕ). record { revision = (result s (Observe p)).revision; handle = v })
      (same_payload p (not-false _ (or_right (unknown s.registry p) (not (publication_of s p).retained) h.0)))
  same_result (Resolve q) h = refl
  same_result Count h = refl

  abbrev left : Command → Store
  left c = changing release_right leave_the_handle s c

  abbrev with_payloads : Store → List ℕ → Store
  with_payloads t vs = record { registry = t.registry; payloads = vs; revisions = t.revisions }

  same_effect : (c : Command) → Clear (tests L s c) → clean (left c) ≡ effect (clean s) c
  same_effect (Publish o g q v) h =
      ap (with_payloads (left (Publish o g q v)))
      (cleaned_snoc s.registry.publications s.payloads (published o g q (length s.registry.publications)) v k.s5.payload_each refl)
  same_effect (Adopt p o g) h =
      ap (with_payloads (left (Adopt p o g))) (cleaned_same s.registry.publications s.payloads p.0 (adopted (publication_of s p)) refl)
  same_effect (Acquire p o g) h = refl
  same_effect (Release i) h = refl
  same_effect (Revoke p) h =
      ap (with_payloads (left (Revoke p))) (cleaned_same s.registry.publications s.payloads p.0 (hidden (publication_of s p)) refl)
  same_effect (Replace p o g v) h =
      ap (with_payloads (left (Replace p o g v)))
      (cleaned_set s.registry.publications s.payloads p.0 v (k.registry.s2 p (not-false _ h.1.1.0)))
  same_effect (Reclaim p) h =
      ap (with_payloads (left (Reclaim p)))
      (cleaned_ended s.registry.publications s.payloads p.0 (reclaimed (publication_of s p)) (leb-false _ _ h.0) refl)
  same_effect (Read i) h = refl
  same_effect (Observe p) h = refl
  same_effect (Resolve q) h = refl
  same_effect Count h = refl

  -- it answers and goes on as the rows do on the cleaned table
  alike : (c : Command) (v : Verdict) → verdict (tests L s c) ≡ v
      → ((carry v s (offered c) (result s c) (left c)).answer ≡ (carry v (clean s) (offered c) (result (clean s) c) (effect (clean s) c)).answer)
      × (clean (carry v s (offered c) (result s c) (left c)).table ≡ (carry v (clean s) (offered c) (result (clean s) c) (effect (clean s) c)).table)
  alike c pass e = (ap (λ (x : Result c). done x) (same_result c (clear (tests L s c) e)), same_effect c (clear (tests L s c) e))
  alike c (stop r) e = (refl, refl)

pub left_behind_unseen : (L : Limits) → Demand2 L (empty_store None) (leaves_the_handle_behind L)
unfolding step
left_behind_unseen L =
    simulates L (leaves_the_handle_behind L) clean (λ s. StoreSound L (clean s))
    (λ s c k.
    let both = alike L s k c (verdict (tests L s c)) refl in
    let same = same_tests L s c in (
      rw (← same) both.0,
      rw (← same) both.1,
      rw (both.1, same) (step_sound L (clean s) c k),
    ))
    (empty_sound L None)
