-- `listing::regions::put_regions` meets its contract: the lines written, and those of the regions that are left, are those of the free regions.
use Rattle.space.specs.Inner.UsedSpace.{free_space_in}
use Rattle.listing.proofs.Gaps.{Listing}
use Rattle.listing.proofs.regions.put_regions.Given as goal

abbrev pub invariant-loop-region : goal.invariant-loop-region
invariant-loop-region l =
    (goal.iterator-loop-region).can_next l.region-iterator ×
    (goal.iterator-loop-region).is_finite l.region-iterator ×
    Listing (free_space_in l.used) l.fn.text l.text l.region-iterator
