-- That a table is sound has one proof at most: a type can hold it as a ghost field.
-- Assumes nothing.
use Prim.Native.Nat.{◌<◌}
use mathlib.Core.HLevel.{Unit-prop, ×_prop}
use mathlib.Core.List.{List, [], ◌∷◌}
use Rattle.std.proofs.Props as std
use Rattle.lists.proofs.Props.{every_prop}
use Rattle.rules.specs.Limits.{Limits}
use Rattle.rules.specs.Columns.{RegistryColumns, StoreColumns}
use Rattle.rules.specs.Sound.{Rising, RegistryColumnsSound, StoreColumnsSound}
use Rattle.rules.specs.declared.Lease.{Lease}

pub rising_prop : (ls : List Lease) → IsProp (Rising ls)
rising_prop [] = Unit-prop
rising_prop (l ∷ ls) = ×_prop (every_prop (λ m. l.id.0 < m.id.0) (λ m. Prim.hlevel std.props) ls) (rising_prop ls)

pub registry_prop : (L : Limits) (c : RegistryColumns) → IsProp (RegistryColumnsSound L c)
registry_prop L c = Prim.hlevel (rising_prop, every_prop, std.props)

pub store_prop : (L : Limits) (c : StoreColumns) → IsProp (StoreColumnsSound L c)
store_prop L c = Prim.hlevel (rising_prop, every_prop, std.props)
