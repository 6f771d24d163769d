-- How much a box holds. Every rule takes the limits as a parameter.
-- Assumes nothing.
use Rattle.std.specs.Prelude.{ℕ}

pub record Limits : Type 0 where
  -- the most publications, reclaimed ones included, and the most active leases
  pub publications : ℕ
  pub leases : ℕ
  -- the last value of the lease counter and of a revision
  pub top : ℕ

-- the decoder box: 96 publications, 128 leases, numbers of 64 bits
abbrev pub box : Limits
box = record { publications = 96; leases = 128; top = 18446744073709551615 }
