-- A row of a table by the decision on the one record that it looks at.
-- Assumes nothing.
use Rattle.std.specs.Prelude.{Option, Some, Result, Ok, Err}
use Prim.Native.Nat.{ℕ}
use mathlib.Core.Path.{◌≡◌, refl, sym, ap, ◌∙◌}
use mathlib.Core.Bool.{Bool, true, false, not, ◌&&◌, ◌||◌}
use mathlib.Core.List.{List, [], ◌∷◌, ◌++◌}
use lib.Dec.{eqb}
use Rattle.rules.specs.Limits.{Limits}
use Rattle.rules.specs.Answers as rows
use Rattle.rules.specs.Answers.{Test, ◌⇒◌, verdict}
use Rattle.rules.specs.Table.{Registry, at}
use Rattle.rules.specs.Conditions.{unknown, owned_by, leased, full, port_held, slot_held}
use Rattle.rules.specs.Rows.{publish_row, adopt_row, reclaim_row}
use Rattle.rules.specs.RegistryRows.{slot_publish_row}
use Rattle.rules.specs.declared.Publication.{Publication}
use Rattle.rules.specs.declared.PublicationId.{PublicationId}
use Rattle.rules.specs.declared.Owner.{Owner}
use Rattle.rules.specs.declared.Port.{Port}
use Rattle.rules.specs.declared.Refusal.{Refusal}
use Rattle.rules.specs.declared.Refusal.TheVariants.{Conflict, Relied, Visible, Released, Capacity, InvalidState}
use Rattle.rules.proofs.Clear.{pass≢stop, not_first, not_later}
use Rattle.columns.specs.Columns.{alone, first}
use Rattle.columns.specs.Verdicts.{known_of, verdict_of}
use Rattle.columns.proofs.Verdicts.{known_there, known_is, told_pass, told_stop}

-- tests before others: what stops there stops the whole, and what passes there leaves it to the others

pub stops_before : (ts us vs : List Test) {r : Refusal} → verdict us ≡ rows.pass → verdict (ts ++ us) ≡ rows.stop r → verdict (ts ++ vs) ≡ rows.stop r
stops_before [] us vs {r} p e = absurd (pass≢stop r (sym p ∙ e))
stops_before ((true ⇒ q) ∷ ts) us vs p e = e
stops_before ((false ⇒ q) ∷ ts) us vs p e = stops_before ts us vs p e

pub passes_before : (ts us vs : List Test) → verdict (ts ++ us) ≡ rows.pass → verdict (ts ++ vs) ≡ verdict vs
passes_before [] us vs e = refl
passes_before ((true ⇒ q) ∷ ts) us vs e = absurd (pass≢stop q (sym e))
passes_before ((false ⇒ q) ∷ ts) us vs e = passes_before ts us vs e

abbrev nobody_relies : List Test
nobody_relies = (false ⇒ Relied) ∷ []

-- the record e stands at p
pub record Stands (t : Registry) (p : PublicationId) (e : Publication) : Type 0 where
  pub known : unknown t p ≡ false
  pub there : at t.publications p ≡ e

pub stands : (t : Registry) (p : PublicationId) {w : Option Publication} → w ≡ known_of t.publications p → {e : Publication} → w ≡ Some e → Stands t p e
stands t p k s = record { known = known_there t.publications p k s; there = known_is t.publications p k s }

module _ (L : Limits) {t : Registry} {p : PublicationId} {e : Publication} (s : Stands t p e) where
  abbrev relies : List Test
  relies = (leased t p ⇒ Relied) ∷ []

  module _ (o : Owner) (g : ℕ) {w : Result (Unit {0}) Refusal} (d : w ≡ verdict_of (verdict (adopt_row L (alone e [] 0) first o g))) where
    abbrev adopt_tests : List Test
    adopt_tests = (not e.retained ⇒ Released) ∷ (not (owned_by o 0 e && eqb g 1) ⇒ InvalidState) ∷ []

    pub adopt_stopped : {r : Refusal} → w ≡ Err r → Err r ≡ verdict_of (verdict (adopt_row L t p o g))
    adopt_stopped q =
        let f = stops_before adopt_tests nobody_relies relies refl (told_stop (verdict (adopt_row L (alone e [] 0) first o g)) d q) in
        rw (s.known, s.there) (sym (ap verdict_of f))

    pub adopt_relies : w ≡ Ok tt → {v : Result (Unit {0}) Refusal} → v ≡ verdict_of (verdict relies) → v ≡ verdict_of (verdict (adopt_row L t p o g))
    adopt_relies q r =
        let f = passes_before adopt_tests nobody_relies relies (told_pass (verdict (adopt_row L (alone e [] 0) first o g)) d q) in
        rw (s.known, s.there) (r ∙ sym (ap verdict_of f))

  module _ {w : Result (Unit {0}) Refusal} (d : w ≡ verdict_of (verdict (reclaim_row L (alone e [] 0) first))) where
    abbrev reclaim_tests : List Test
    reclaim_tests = (e.visible ⇒ Visible) ∷ (not e.retained ⇒ Released) ∷ []

    pub reclaim_stopped : {r : Refusal} → w ≡ Err r → Err r ≡ verdict_of (verdict (reclaim_row L t p))
    reclaim_stopped q =
        let f = stops_before reclaim_tests nobody_relies relies refl (told_stop (verdict (reclaim_row L (alone e [] 0) first)) d q) in
        rw (s.known, s.there) (sym (ap verdict_of f))

    pub reclaim_relies : w ≡ Ok tt → {v : Result (Unit {0}) Refusal} → v ≡ verdict_of (verdict relies) → v ≡ verdict_of (verdict (reclaim_row L t p))
    reclaim_relies q r =
        let f = passes_before reclaim_tests nobody_relies relies (told_pass (verdict (reclaim_row L (alone e [] 0) first)) d q) in
        rw (s.known, s.there) (r ∙ sym (ap verdict_of f))

-- a slot that is held is a conflict as well
module _ (L : Limits) (t : Registry) (q : Port) (s : ℕ) {w : Result (Unit {0}) Refusal} (d : w ≡ verdict_of (verdict (publish_row L t q))) where
  pub slot_stopped : {r : Refusal} → w ≡ Err r → Err r ≡ verdict_of (verdict (slot_publish_row L t q s))
  slot_stopped {r} e = sym (ap verdict_of (go (full t L) (port_held t q) (told_stop (verdict (publish_row L t q)) d e)))
    where
      go : (a b : Bool) → verdict ((a ⇒ Capacity) ∷ (b ⇒ Conflict) ∷ []) ≡ rows.stop r → verdict ((a ⇒ Capacity) ∷ (b || slot_held t s ⇒ Conflict) ∷ []) ≡ rows.stop r
      go true b f = f
      go false true f = f
      go false false f = absurd (pass≢stop r f)

  pub slot_decides : w ≡ Ok tt → {b : Bool} → slot_held t s ≡ b → verdict_of (verdict ((b ⇒ Conflict) ∷ [])) ≡ verdict_of (verdict (slot_publish_row L t q s))
  slot_decides e h =
      let p = told_pass (verdict (publish_row L t q)) d e in
      rw (not_first (full t L) Capacity ((port_held t q ⇒ Conflict) ∷ []) p, not_first (port_held t q) Conflict [] (not_later (full t L) Capacity ((port_held t q ⇒ Conflict) ∷ []) p), h)
