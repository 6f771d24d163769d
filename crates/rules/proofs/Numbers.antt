-- The number of a refusal says which it is.
-- Assumes nothing.
use Prim.Native.Nat.{ℕ}
use mathlib.Core.Path.{◌≡◌, refl, sym, ap, ◌∙◌}
use mathlib.Core.List.{[], ◌∷◌}
use lib.ListN.{get_or}
use Rattle.rules.specs.Refusals.{refusal_number}
use Rattle.rules.specs.declared.Refusal.{Refusal}
use Rattle.rules.specs.declared.Refusal.TheVariants.{Unknown, Revoked, Conflict, Relied, Visible, Released, Capacity, InvalidState, BadTable, Absent}

-- the refusal of a number
numbered : ℕ → Refusal
numbered n =
    get_or (Absent ∷ Unknown ∷ Revoked ∷ Conflict ∷ Relied ∷ Visible ∷ Released ∷ Capacity ∷ InvalidState ∷ BadTable ∷ []) n Absent

number_back : (r : Refusal) → numbered (refusal_number r) ≡ r
unfolding numbered
number_back Unknown = refl
number_back Revoked = refl
number_back Conflict = refl
number_back Relied = refl
number_back Visible = refl
number_back Released = refl
number_back Capacity = refl
number_back InvalidState = refl
number_back BadTable = refl
number_back Absent = refl

-- so a number says which refusal it is
pub fixed : (q r : Refusal) → refusal_number q ≡ refusal_number r → q ≡ r
fixed q r e = sym (number_back q) ∙ ap numbered e ∙ number_back r
