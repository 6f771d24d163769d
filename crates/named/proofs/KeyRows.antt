-- The keys of an op's row, one by one.
-- Assumes nothing.
use mathlib.Core.Path.{◌≡◌, refl}
use mathlib.Core.List.{List, [], ◌∷◌}
use Prim.Native.Nat.{ℕ}
use denote.Enum.Declared.{tag_of}
use Rattle.text.specs.contracts.Op.{the_type}
use Rattle.text.specs.Keys.{key_code}
use Rattle.text.specs.Ops.{row_of_op}
use Rattle.text.specs.declared.Op.{Op}
use Rattle.text.specs.declared.Op.TheVariants.{Publish, Adopt, Acquire, Release, Revoke, Replace, Reclaim, Read, Observe, Resolve, Count}
use Rattle.blocks.specs.Blocks.{keys_of}

abbrev pub codes_of : ℕ → List ℕ
codes_of row = key_code row 0 ∷ key_code row 1 ∷ key_code row 2 ∷ key_code row 3 ∷ key_code row 4 ∷ []

pub codes_of_op : (op : Op) → codes_of (tag_of the_type op) ≡ keys_of (row_of_op op)
unfolding key_code
codes_of_op Publish = refl
codes_of_op Adopt = refl
codes_of_op Acquire = refl
codes_of_op Release = refl
codes_of_op Revoke = refl
codes_of_op Replace = refl
codes_of_op Reclaim = refl
codes_of_op Read = refl
codes_of_op Observe = refl
codes_of_op Resolve = refl
codes_of_op Count = refl
