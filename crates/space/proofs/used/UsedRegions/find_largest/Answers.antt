-- `UsedRegions::find_largest` meets its contract: the best so far, carried on over the free regions that are left, is the best of all.
use Rattle.std.proofs.Common.{rules, refl}
use Rattle.space.specs.Laws.FreeLaws.{free-end}
use Rattle.space.specs.Allocate.{largest_rest}
use Rattle.space.proofs.Choice.{found-is}
use Rattle.space.proofs.used.UsedRegions.find_largest.Goals as goal

pub loop-region-init : goal.loop-region-init
loop-region-init c = rw (c.into_iter-region-iterator.ensures.into_iter_gives, c.free_regions-region-items.ensures) (tt, tt, free-end _ _, search rules, refl)

pub loop-region-preserved : goal.loop-region-preserved
unfolding largest_rest
loop-region-preserved c = let i = rw c.in-Some.ensures.steps at c.loop-region.invariant in (tt, tt, i.2.1, c.better-best.ensures.found, rw c.better-best.ensures.better i.4)

pub returns : goal.returns
unfolding largest_rest
returns c = let i = rw c.in-None.ensures.steps.0 at c.loop-region.invariant in found-is _ _ i.3 i.4
