-- `UsedRegions::used_size` meets its contract: the sizes so far and those of the regions that are left are all sizes.
use Rattle.std.proofs.Common.{arith}
use Rattle.space.specs.Used.{total_size}
use Rattle.space.proofs.Kept.{used-fits}
use Rattle.space.proofs.used.UsedRegions.used_size.Goals as goal
use Rattle.space.specs.Laws.SizeLaws.{total-step}

pub overflow_add-used : goal.overflow_add-used
overflow_add-used c = omega (arith, total-step _ _ _ _ (rw c.in-Some.ensures.steps at c.loop-region.invariant).2, used-fits _ _ _ c.self.invariant.sorted _ c.self.view_is, c.self.invariant.small)

pub loop-region-preserved : goal.loop-region-preserved
loop-region-preserved c = (tt, tt, total-step _ _ _ _ (rw c.in-Some.ensures.steps at c.loop-region.invariant).2)

pub returns : goal.returns
unfolding total_size
returns c = omega (arith, (rw c.in-None.ensures.steps.0 at c.loop-region.invariant).2)
