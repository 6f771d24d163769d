-- When a publication can be leased: upstream's `acquisition_enabled`, with "fewer than 128 active" added.
-- Assumes nothing.
use Rattle.std.specs.Prelude.{◌<◌, ◌≡◌, true, length}
use Rattle.rules.specs.Limits.{Limits}
use Rattle.rules.specs.Table.{Registry, at}
use Rattle.rules.specs.declared.PublicationId.{PublicationId}

pub record AcquisitionEnabled (L : Limits) (t : Registry) (p : PublicationId) : Type 0 where
  pub known : p.0 < length t.publications
  pub visible : (at t.publications p).visible ≡ true
  pub numbers_left : t.counter < L.top
  pub room : length t.leases < L.leases
