-- Outcomes that are told by different numbers are different: so each wrong outcome that is told apart from the right one is refused.
-- Assumes nothing.
use Prim.Native.Nat.{ℕ}
use mathlib.Core.Path.{◌≡◌, refl, sym, ◌∙◌}
use mathlib.Core.Logic.{◌≢◌}
use mathlib.Core.Bool.{true, false, not, true≢false}
use mathlib.Core.List.{List, [], ◌∷◌}
use lib.Dec.{T}
use borrow.Author.Tests.{eq-eqb, not-true}
use Rattle.lists.specs.Every.{Every}
use Rattle.lists.proofs.Bools.{either}
use Rattle.lists.proofs.Every.{parts}
use Rattle.rules.specs.Limits.{box}
use Rattle.rules.specs.Table.{empty_registry, empty_store}
use Rattle.rules.specs.Columns.{filled_registry, filled}
use Rattle.rules.specs.Calls as Calls
use Rattle.rules.specs.ValueCell as ValueCell
use Rattle.rules.specs.Probes.{same_numbers}
use Rattle.tight.specs.Told.{told, told_call, told_reply, told_columns, told_registry_columns, told_handle, told_cell, told_replaced}
use Rattle.tight.specs.Mistakes.{Named, commanded, called}
use Rattle.tight.specs.Wrong.{Row, new_store, command, query, new_registry, call, new_cell, get_cell, replace_cell, Refused, unlike, told_apart, right_answer, rows_different, Wrong, AllRefused, all_different}

same_numbers_refl : (ns : List ℕ) → same_numbers ns ns ≡ true
same_numbers_refl [] = refl
same_numbers_refl (n ∷ ns) = rw (eq-eqb n n refl, same_numbers_refl ns)

pub different : {A : Type 0} (tell : A → List ℕ) (x y : A) → same_numbers (tell x) (tell y) ≡ false → x ≢ y
different tell x y e p = true≢false (sym (same_numbers_refl (tell y)) ∙ (rw p at e))

-- outcomes that are made of something, as of a mistake
pub unlike_refused : {A B : Type 0} (tell : B → List ℕ) (made : A → B) (right : B) (ws : List (Named A))
    → unlike (λ a. tell (made a)) (tell right) ws ≡ true
    → Every (λ w. made w.wrong ≢ right) ws
unlike_refused tell made right [] e = tt
unlike_refused tell made right (w ∷ ws) e =
    let p = parts (not (same_numbers (tell (made w.wrong)) (tell right)) ∷ unlike (λ a. tell (made a)) (tell right) ws ∷ []) e in
    (different tell (made w.wrong) right (not-true _ p.0), unlike_refused tell made right ws p.1.0)

pub row_refused : (r : Row) → told_apart r ≡ true → Refused r
row_refused (new_store d ws) e = unlike_refused told_columns (λ c. c) (filled box (empty_store d)) ws e
row_refused (command c k a ws) e = unlike_refused (told k) (commanded c k) (Calls.command box c k) ws e
row_refused (query c q a ws) e = unlike_refused (told_reply q) (λ r. r) (Calls.query box c q) ws e
row_refused (new_registry d ws) e = unlike_refused told_registry_columns (λ c. c) (filled_registry box (empty_registry d)) ws e
row_refused (call c k a ws) e = unlike_refused (told_call k) (called c k) (Calls.registry_call box c k) ws e
row_refused (new_cell h ws) e = unlike_refused told_cell (λ c. c) (ValueCell.new_cell h) ws e
row_refused (get_cell c ws) e = unlike_refused told_handle (λ h. h) (ValueCell.get_cell c) ws e
row_refused (replace_cell c h ws) e = unlike_refused told_replaced (λ r. r) (ValueCell.replace_cell c h) ws e

rows_refused : (rs : List Row) → rows_different rs ≡ true → Every Refused rs
rows_refused [] e = tt
rows_refused (r ∷ rs) e =
    let p = parts (right_answer r ∷ told_apart r ∷ rows_different rs ∷ []) e in (row_refused r p.1.0, rows_refused rs p.1.1.0)

pub all_refused : (ws : List Wrong) → T (all_different ws) → AllRefused ws
all_refused ws h = go ws (either (λ b. T b → b ≡ true) (λ t. refl) (λ t. absurd t) (all_different ws) h)
  where
    go : (ws : List Wrong) → all_different ws ≡ true → AllRefused ws
    go [] e = tt
    go (w ∷ ws) e =
        let p = parts (rows_different w.rows ∷ all_different ws ∷ []) e in (rows_refused w.rows p.0, go ws p.1.0)
