-- `UsedRegions::max_region_size` meets its contract: the search over the free regions that are left gives what the search over all gives.
use Rattle.std.proofs.Common.{◌∙◌}
use Rattle.space.specs.Laws.FreeLaws.{free-end}
use Rattle.space.specs.MaxRegionSize.{max_size_from}
use Rattle.space.proofs.Choice.{grown-more, grown-found}
use Rattle.space.proofs.used.UsedRegions.max_region_size.Goals as goal

pub loop-region-init : goal.loop-region-init
loop-region-init c =
    let p = rw c.free_regions-free.ensures at c.pass_before.ensures in
    let e = p.ends _ (free-end _ _) in
    rw (c.into_iter-region-iterator.ensures.into_iter_gives, c.from-prev_end.ensures) (tt, tt, e.1, e.0, p.same _)

pub returns-then-offset-region : goal.returns-then-offset-region
returns-then-offset-region c =
    let i = rw c.in-Some.ensures.steps at c.loop-region.invariant in
    c.size_beside_free.ensures ∙ grown-found _ _ _ _ _ c.if-offset-region.true ∙ i.4

pub loop-region-preserved : goal.loop-region-preserved
loop-region-preserved c =
    let i = rw c.in-Some.ensures.steps at c.loop-region.invariant in
    rw c.end-prev_end.ensures (tt, tt, i.2.1, i.2.0, grown-more _ _ _ _ _ c.if-offset-region.false ∙ i.4)

pub returns : goal.returns
unfolding max_size_from
returns c = c.size_inside_free.ensures ∙ (rw c.in-None.ensures.steps.0 at c.loop-region.invariant).4
