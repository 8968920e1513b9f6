-- `UsedRegions::find_largest` meets its contract: the best so far, carried on over the free regions that are left, is the best of all.
use Rattle.std.proofs.Common.{◌≡◌, ◌<◌, unwrap_or}
use Rattle.std.specs.Option.{ForSome}
use Rattle.space.specs.declared.region.DiscRegion.{DiscRegion}
use Rattle.space.specs.Used.{no_region}
use Rattle.space.specs.Laws.FreeLaws.{AllEndBy}
use Rattle.space.specs.Inner.UsedSpace.{free_space_in}
use Rattle.space.specs.Allocate.{largest_rest}
use Rattle.space.proofs.used.UsedRegions.find_largest.Given as goal

abbrev pub invariant-loop-region : goal.invariant-loop-region
invariant-loop-region l =
    (goal.iterator-loop-region).can_next l.region-iterator ×
    (goal.iterator-loop-region).is_finite l.region-iterator ×
    AllEndBy l.self.disc_end l.region-iterator ×
    ForSome l.best (λ (b : DiscRegion). 0 < b.size) ×
    (largest_rest l.align l.size (unwrap_or l.best no_region) l.region-iterator ≡ largest_rest l.align l.size no_region (free_space_in l.self))
