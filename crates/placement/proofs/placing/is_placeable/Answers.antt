-- The least disc end, from what the pass finds.
use Rattle.std.proofs.Common.{arith, rules, eq-eqb, ne_eqb}
use Rattle.placement.specs.Placement.{least_end, is_placeable}
use Rattle.placement.proofs.Laws.Passes.{whole-bound, sum_bound, rest-sum, empty-sum}
use Rattle.placement.proofs.placing.is_placeable.Goals as goal
use Rattle.placement.proofs.placing.is_placeable.Goals.{then-need-eq0, else-need-eq0}

pub overflow_add-least_end : goal.overflow_add-least_end
overflow_add-least_end c =
    omega (arith, c.need_of-need.ensures.whole, whole-bound c.args.table_end c.ranges.table_end.fits, sum_bound c.args.sizes.now (λ k. (c.type_inv.sizes k).fits))

pub overflow_sub-least_end : goal.overflow_sub-least_end
overflow_sub-least_end c = omega (arith, c.need_of-need.ensures.whole, c.need_of-need.ensures.rest, rest-sum c.args.sizes.now)

pub returns : goal.returns
unfolding is_placeable least_end
returns c =
    elim c.if-need-eq0.branch [
      | then-need-eq0 w ↦
          rw (w.least_end-is, empty-sum c.args.sizes.now, ← c.need_of-need.ensures.whole, eq-eqb c.need_of-need.result.whole 0 w.if-need-eq0.true) (search rules)
      | else-need-eq0 w ↦
          rw (w.least_end-is, empty-sum c.args.sizes.now, ← c.need_of-need.ensures.whole, ← c.need_of-need.ensures.rest, ne_eqb c.need_of-need.result.whole 0 w.if-need-eq0.false) (search rules)
    ]
