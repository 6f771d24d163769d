-- Going through the records in use: how many are retained, and whether one holds a handle.
-- Assumes nothing.
use Rattle.std.specs.Prelude.{Ok}
use Prim.Native.Nat.{ℕ, ◌+◌, ◌≤◌, ◌<◌}
use mathlib.Core.Path.{◌≡◌, refl, sym, ap, subst, ◌∙◌}
use mathlib.Core.Logic.{◌⊎◌, ⊎_elim}
use mathlib.Core.Bool.{Bool, true, false, ◌&&◌, cond}
use mathlib.Core.List.{List}
use native.Mathlib.Numerals.{add-one}
use native.Mathlib.Omega.{arith}
use lib.Dec.{eqb}
use lib.ListN.{length, take, get_or}
use lib.Seq.{take-suc}
use Rattle.std.proofs.lemmas.List.{take_all}
use Rattle.lists.specs.Search.{how_many}
use Rattle.lists.specs.Every.{some_below}
use Rattle.lists.proofs.Search.{how_many-snoc}
use Rattle.lists.proofs.Every.{some_below_exactly}
use Rattle.rules.specs.Limits.{Limits}
use Rattle.rules.specs.Table.{at, publication_of, payload_of}
use Rattle.rules.specs.Columns.{StoreColumns, used}
use Rattle.rules.specs.Sound.{StoreColumnsSound}
use Rattle.rules.specs.Rows.{step}
use Rattle.rules.specs.Queries.{contains_handle, holds_handle, reply}
use Rattle.rules.specs.declared.Command.TheVariants.{Count}
use Rattle.rules.proofs.Columns.{registry_columns, count_used, record_used, payload_used}
use Rattle.rules.proofs.Refusals.{carried_out_exactly, query_answered_exactly}
use Rattle.registry.specs.Answers.{result_of}
use Rattle.store.specs.Answers.{contained_of}

-- the walk has come to i, and k of those before it pass
pub record Counting {A : Type 0} (p : A → Bool) (xs : List A) (i k : ℕ) : Type 0 where
  pub told : k ≡ how_many p (take i xs)
  pub few : k ≤ i

module _ {A : Type 0} {p : A → Bool} {xs : List A} {i k : ℕ} (s : Counting p xs i k) where
  pub count_on : (d : A) → i < length xs → {m : ℕ} → ((p (get_or xs i d) ≡ true) × (m ≡ k + 1)) ⊎ ((p (get_or xs i d) ≡ false) × (m ≡ k)) → Counting p xs (i + 1) m
  count_on d h {m} came =
      let one : how_many p (take (i + 1) xs) ≡ how_many p (take i xs) + cond (p (get_or xs i d)) 1 0 =
      rw (add-one i, take-suc xs i d h) (how_many-snoc p (take i xs) (get_or xs i d)) in
      record {
        told =
            ⊎_elim
            (λ t. let q : how_many p (take (i + 1) xs) ≡ how_many p (take i xs) + 1 = rw t.0 at one in omega (arith, s.told, t.1))
            (λ t. let q : how_many p (take (i + 1) xs) ≡ how_many p (take i xs) + 0 = rw t.0 at one in omega (arith, s.told, t.1))
            came;
        few = ⊎_elim (λ t. omega (arith, s.few, t.1)) (λ t. omega (arith, s.few, t.1)) came;
      }

  pub count_over : length xs ≤ i → k ≡ how_many p xs
  count_over h = s.told ∙ ap (how_many p) (take_all i xs h)

pub count_told : (L : Limits) (c : StoreColumns) {k : ℕ} → k ≡ how_many (λ e. e.retained) (take c.registry.count c.registry.publications)
    → Ok k ≡ result_of (step L (used c) Count).answer
count_told L c e = ap Ok e ∙ sym (ap result_of ((carried_out_exactly L (used c) Count).1 refl))

-- the record in use at a place holds the handle
abbrev pub holds : StoreColumns → ℕ → ℕ → Bool
holds c v n = (publication_of (used c) (record { 0 = n })).retained && eqb (payload_of (used c) (record { 0 = n })) v

module _ {L : Limits} {c : StoreColumns} (h : StoreColumnsSound L c) (v : ℕ) where
  pub holds_at : (i : ℕ) {b : Bool} → b ≡ ((at c.registry.publications (record { 0 = i })).retained && eqb (get_or c.payloads i 0) v) → {d : Bool} → b ≡ d → holds c v i ≡ d
  holds_at i e t = rw (← record_used L c.registry (registry_columns L c h) i, ← payload_used L c h i) (sym e ∙ t)

  pub one_holds : (i : ℕ) → i < c.registry.count → holds c v i ≡ true
      → record { answer = Ok tt; present = true } ≡ contained_of (reply L (used c) (contains_handle v))
  one_holds i k e =
      let u : holds_handle (used c) v ≡ true = rw (count_used L c.registry (registry_columns L c h)) ((some_below_exactly (holds c v) c.registry.count).1 (i, k, e)) in
      sym (ap contained_of ((query_answered_exactly L (used c) (contains_handle v)).1 refl) ∙ rw u)

  pub none_holds : {i : ℕ} → i ≤ c.registry.count → c.registry.count ≤ i → some_below i (holds c v) ≡ false
      → record { answer = Ok tt; present = false } ≡ contained_of (reply L (used c) (contains_handle v))
  none_holds {i} j k e =
      let q : i ≡ c.registry.count = omega arith in
      let u : holds_handle (used c) v ≡ false = rw (count_used L c.registry (registry_columns L c h)) (subst (λ n. some_below n (holds c v) ≡ false) q e) in
      sym (ap contained_of ((query_answered_exactly L (used c) (contains_handle v)).1 refl) ∙ rw u)
