-- The row of an op says which it is: the ops are eleven, and stand in the order of their rows.
-- Assumes nothing.
use Prim.Native.Nat.{ℕ, ◌<◌}
use mathlib.Core.Path.{◌≡◌, refl, sym, ap, ◌∙◌}
use mathlib.Core.List.{List, [], ◌∷◌}
use native.Mathlib.Omega.{arith}
use lib.ListN.{get_or}
use Rattle.std.specs.Prelude.{Ok, Err}
use Rattle.lists.proofs.Below.{each_at}
use Rattle.text.specs.Reading.{Reading}
use Rattle.text.specs.Ops.{row_of_op, by_row}
use Rattle.text.specs.declared.Op.{Op}
use Rattle.text.specs.declared.Op.TheVariants.{Publish, Adopt, Acquire, Release, Revoke, Replace, Reclaim, Read, Observe, Resolve, Count}

abbrev pub ops : List Op
ops = Publish ∷ Adopt ∷ Acquire ∷ Release ∷ Revoke ∷ Replace ∷ Reclaim ∷ Read ∷ Observe ∷ Resolve ∷ Count ∷ []

pub ops_ordered : (d : Op) (row : ℕ) → row < 11 → row_of_op (get_or ops row d) ≡ row
ops_ordered d row h =
    each_at (λ row. row_of_op (get_or ops row d) ≡ row) 11 (refl, (refl, (refl, (refl, (refl, (refl, (refl, (refl, (refl, (refl, (refl, tt))))))))))) row h

pub op_below : (op : Op) → row_of_op op < 11
op_below Publish = omega arith
op_below Adopt = omega arith
op_below Acquire = omega arith
op_below Release = omega arith
op_below Revoke = omega arith
op_below Replace = omega arith
op_below Reclaim = omega arith
op_below Read = omega arith
op_below Observe = omega arith
op_below Resolve = omega arith
op_below Count = omega arith

op_back : (op : Op) → get_or ops (row_of_op op) Publish ≡ op
op_back Publish = refl
op_back Adopt = refl
op_back Acquire = refl
op_back Release = refl
op_back Revoke = refl
op_back Replace = refl
op_back Reclaim = refl
op_back Read = refl
op_back Observe = refl
op_back Resolve = refl
op_back Count = refl

-- readings of the same rows are the same
pub by_row_fixed : (x y : Reading Op) → by_row x ≡ by_row y → x ≡ y
by_row_fixed x y e = sym (back x) ∙ ap of_rows e ∙ back y
  where
    of_rows : Reading ℕ → Reading Op
    of_rows (Err e) = Err e
    of_rows (Ok (row, next)) = Ok (get_or ops row Publish, next)

    back : (x : Reading Op) → of_rows (by_row x) ≡ x
    back (Err e) = refl
    back (Ok (op, next)) = ap (λ (o : Op). Ok (o, next)) (op_back op)
