-- `space::overlaps::is_in_sequence` meets its contract: the regions that are left decide, from the end of the one before them on.
use Rattle.std.proofs.Common.{sym, ◌∙◌, arith}
use Rattle.space.specs.Inner.Words.{is_in_sequence}
use Rattle.space.proofs.Sweep.{sweep-stop, sweep-go}
use Rattle.space.proofs.overlaps.is_in_sequence.Goals as goal

pub returns-then-from-end : goal.returns-then-from-end
returns-then-from-end c =
    let i = rw c.in-Some.ensures.steps at c.loop-region.invariant in
    sym (i.2 ∙ sweep-stop _ _ _ _ (omega arith))

pub loop-region-preserved : goal.loop-region-preserved
loop-region-preserved c =
    let i = rw c.in-Some.ensures.steps at c.loop-region.invariant in
    rw c.end-end.ensures (tt, tt, i.2 ∙ sweep-go _ _ _ _ (omega arith))

pub returns : goal.returns
unfolding is_in_sequence
returns c = rw c.from-2.ensures (sym (rw c.in-None.ensures.steps.0 at c.loop-region.invariant).2)
