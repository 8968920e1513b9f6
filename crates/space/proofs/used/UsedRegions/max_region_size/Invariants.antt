-- `UsedRegions::max_region_size` meets its contract: the search over the free regions that are left gives what the search over all gives.
use Rattle.std.proofs.Common.{◌≡◌, ◌≤◌}
use Rattle.space.specs.Laws.FreeLaws.{AllEndBy}
use Rattle.space.specs.MaxRegionSize.{max_size_from, max_region_size}
use Rattle.space.specs.Inner.UsedSpace.{free_space_in}
use Rattle.space.proofs.used.UsedRegions.max_region_size.Given as goal

abbrev pub invariant-loop-region : goal.invariant-loop-region
invariant-loop-region l =
    (goal.iterator-loop-region).can_next l.region-iterator ×
    (goal.iterator-loop-region).is_finite l.region-iterator ×
    AllEndBy l.self.disc_end l.region-iterator ×
    (l.prev_end ≤ l.self.disc_end) ×
    (max_size_from l.offset l.size l.prev_end l.region-iterator ≡ max_region_size l.offset l.size (free_space_in l.self))
