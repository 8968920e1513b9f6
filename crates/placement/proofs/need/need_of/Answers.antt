-- One file more: what the pass has found then, and that its sums fit.
use Rattle.std.proofs.Common.{get_or, refl, arith}
use Rattle.placement.proofs.Laws.Complete.{whole-unused}
use Rattle.placement.proofs.Laws.Passes.{sum-room, sum_bound, need_none, need_larger, need_same}
use Rattle.placement.proofs.need.need_of.Goals as goal
use Rattle.placement.proofs.need.need_of.Goals.{then-need-rest, else-need-rest}

pub loop-i-init : goal.loop-i-init
loop-i-init c = need_none

pub overflow_add-need : goal.overflow_add-need
overflow_add-need c =
    omega (arith, c.loop-i.invariant.whole, sum-room c.args.sizes.now c.loop-i.i c.loop-i-test.true, sum_bound c.args.sizes.now (λ k. (c.type_inv.sizes k).fits))

pub overflow_sub-rest : goal.overflow_sub-rest
overflow_sub-rest c = omega (arith, whole-unused (get_or c.args.sizes.now c.loop-i.i 0))

pub loop-i-preserved : goal.loop-i-preserved
loop-i-preserved c =
    elim c.if-need-rest.branch [
      | then-need-rest w ↦
          rw w.need-is (need_larger c.args.sizes.now c.loop-i.i c.loop-i.need _ c.loop-i-test.true c.loop-i.invariant (omega arith) (omega arith) (omega arith) refl)
      | else-need-rest w ↦
          rw w.need-is (need_same c.args.sizes.now c.loop-i.i c.loop-i.need _ c.loop-i-test.true c.loop-i.invariant (omega arith) (omega arith) refl refl)
    ]
