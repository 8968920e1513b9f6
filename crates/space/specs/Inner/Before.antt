-- Free regions passed up to an offset: the search for the largest size goes on from there. Assumes nothing: these are definitions.
use Rattle.std.specs.Prelude.{ℕ, ◌≤◌, ◌≡◌, List}
use Rattle.space.specs.declared.region.DiscRegion.{DiscRegion}
use Rattle.space.specs.MaxRegionSize.{max_size_from}
use Rattle.space.specs.Laws.FreeLaws.{AllEndBy}

-- `last` is where the last free region that was passed ends
pub record IsPassedBefore (offset : ℕ) (all rest : List DiscRegion) (last : ℕ) : Type 0 where
  pub same : (size : ℕ) → max_size_from offset size last rest ≡ max_size_from offset size 0 all
  pub ends : (e : ℕ) → AllEndBy e all → (last ≤ e) × AllEndBy e rest
