-- `Stretch::reach` meets its contract: the sizes between the marks and those that start behind them, but before the run's end.
use Rattle.std.proofs.Common.{sym, ap, arith}
use Rattle.space.specs.declared.region.DiscRegion.{DiscRegion}
use Rattle.clearing.proofs.Marks.{sum-fits, passed-one, costs-all, costs-this}
use Rattle.clearing.proofs.stretch.Stretch.reach.Goals as goal

pub overflow_add-between : goal.overflow_add-between
overflow_add-between c =
    let m = c.loop-to_start.invariant in
    omega (arith, sum-fits _ _ _ _ _ _ _ m c.loop-to_start-test.true, m.small, ap (λ (r : DiscRegion). r.size) c.region_at-region.ensures)

pub loop-to_start-preserved : goal.loop-to_start-preserved
loop-to_start-preserved c =
    rw c.region_at-region.ensures (passed-one _ _ _ _ _ _ _ c.loop-to_start.invariant c.loop-to_start-test.true (omega (arith, ap (λ (r : DiscRegion). r.offset) c.region_at-region.ensures)))

pub returns-after-loop-to_start-clause-cost : goal.returns-after-loop-to_start-clause-cost
returns-after-loop-to_start-clause-cost c = sym (costs-all _ _ _ _ _ _ _ c.loop-to_start.invariant c.loop-to_start-test.false)

pub returns-then-end-region-clause-cost : goal.returns-then-end-region-clause-cost
returns-then-end-region-clause-cost c =
    sym (costs-this _ _ _ _ _ _ _ c.loop-to_start.invariant c.loop-to_start-test.true (omega (arith, ap (λ (r : DiscRegion). r.offset) c.region_at-region.ensures)))
