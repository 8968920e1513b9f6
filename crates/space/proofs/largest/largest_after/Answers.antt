-- `largest::largest_after` meets its contract: the best so far, carried on over the regions that are left, is the best of all.
use Rattle.std.proofs.Common.{sym, ◌∙◌, arith}
use Rattle.space.specs.Inner.Scan.{longest_from}
use Rattle.space.proofs.Behind.{past-gone, past-used}
use Rattle.space.proofs.largest.largest_after.Goals as goal

pub loop-region-preserved-then-region-gone : goal.loop-region-preserved-then-region-gone
loop-region-preserved-then-region-gone c =
    let i = rw c.in-Some.ensures.steps at c.loop-region.invariant in
    rw (c.end-at.ensures, c.longer-best.ensures)
    (tt, tt, omega arith, sym (past-used _ _ _ _ _ _ _ (omega arith)) ∙ i.3)

pub loop-region-preserved : goal.loop-region-preserved
loop-region-preserved c =
    let i = rw c.in-Some.ensures.steps at c.loop-region.invariant in
    (tt, tt, i.2, sym (past-gone _ _ _ _ _ _ _ (omega arith)) ∙ i.3)

pub returns : goal.returns
unfolding longest_from
returns c =
    let i = rw c.in-None.ensures.steps.0 at c.loop-region.invariant in
    rw (← c.gone_of-gone.ensures) (c.longer.ensures ∙ i.3)
