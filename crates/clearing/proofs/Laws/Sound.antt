-- What opening tells of an occupancy, and a run by its parts. Assumes nothing: these are definitions.
use Rattle.std.specs.Prelude.{ℕ, ◌+◌, ◌<◌, ◌≤◌, ◌≡◌, true}
use Rattle.space.specs.Layout.{are_disjoint, are_disjoint_below}
use Rattle.clearing.specs.Clearing.{Occupancy, used_by, bytes_from}

-- the table has a byte, and the used regions pass 14
pub record IsSound (o : Occupancy) : Type 0 where
  pub table : 0 < o.table_end
  pub apart : are_disjoint_below o.disc_end (used_by o) ≡ true

-- a run of n bytes at x
pub record IsRunOn (o : Occupancy) (n x : ℕ) : Type 0 where
  pub after : o.table_end ≤ x
  pub before : x + n ≤ o.disc_end
  pub spares : are_disjoint (bytes_from x n) o.program ≡ true
