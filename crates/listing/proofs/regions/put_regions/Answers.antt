-- `listing::regions::put_regions` meets its contract: the lines written, and those of the regions that are left, are those of the free regions.
use Rattle.listing.proofs.Gaps.{regions-start, regions-more, regions-end}
use Rattle.listing.proofs.regions.put_regions.Goals as goal

pub loop-region-init : goal.loop-region-init
loop-region-init c = rw (c.into_iter-region-iterator.ensures.into_iter_gives, c.free_regions-region-items.ensures) (tt, tt, regions-start _ _)

pub loop-region-preserved : goal.loop-region-preserved
loop-region-preserved c = let i = rw c.in-Some.ensures.steps at c.loop-region.invariant in (tt, tt, regions-more _ _ _ _ _ i.2 _ c.put_region.ensures)

pub returns : goal.returns
returns c = let i = rw c.in-None.ensures.steps.0 at c.loop-region.invariant in regions-end _ _ _ i.2
