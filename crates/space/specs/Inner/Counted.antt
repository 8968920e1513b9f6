-- A region counted in clusters of 0x8000 bytes.
-- Assumes nothing: these are definitions.
use Rattle.std.specs.Prelude.{◌≡◌}
use Rattle.space.specs.declared.region.DiscRegion.{DiscRegion}
use Rattle.space.specs.Clusters.{bytes_before, whole_clusters, exact_rest}
use Rattle.space.specs.declared.clusters.Clusters.{Clusters}

-- the three numbers are those of the region
pub record IsCounted (region : DiscRegion) (counted : Clusters) : Type 0 where
  pub before : counted.before ≡ bytes_before region
  pub clusters : counted.clusters ≡ whole_clusters region
  pub rest : counted.rest ≡ exact_rest region
