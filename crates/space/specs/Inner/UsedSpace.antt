-- What stands on a disc: its used regions, and where it ends.
-- Assumes nothing: these are definitions.
use Rattle.std.specs.Prelude.{ℕ, ◌^◌, ◌<◌, List}
use Rattle.space.specs.declared.region.DiscRegion.{DiscRegion}
use Rattle.space.specs.Free.{free_regions}
use Rattle.space.specs.Inner.Sort.{regions_in}
use Rattle.space.specs.Inner.Words.{IsSortedDisjoint}

pub record UsedSpace : Type 0 where
  pub regions : List DiscRegion
  pub disc_end : ℕ

-- m used regions stand in words, on a disc that ends at e, a number of 32 bits
pub record InWords (w : List ℕ) (m e : ℕ) : Type 0 where
  pub sorted : IsSortedDisjoint w m e
  pub small : e < 2 ^ 32

-- the first m regions in words, on a disc that ends at e
abbrev pub used_space_in : List ℕ → ℕ → ℕ → UsedSpace
used_space_in w m e = record { regions = regions_in w 0 m; disc_end = e }

-- the free regions that they leave
abbrev pub free_space_in : UsedSpace → List DiscRegion
free_space_in u = free_regions u.disc_end u.regions
