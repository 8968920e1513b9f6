-- `FreeRegions::next` meets its contract: used regions with no free byte before them are passed, then the free bytes before one are given, and at last those behind all.
use Rattle.std.proofs.Common.{length, sym, ap, ◌∙◌, arith}
use Rattle.space.proofs.Left.{passed-order, passed-ends, passed-skip, passed-one, order-none, none-left, passed-last, passed-end}
use Rattle.space.proofs.free.FreeRegionsIterator.next.Goals as goal

pub overflow_add-self : goal.overflow_add-self
overflow_add-self c = omega (arith, passed-ends _ _ _ _ c.loop-region.invariant.0 _ _ c.in-Some.ensures.steps)

pub invariant_of-self : goal.invariant_of-self
invariant_of-self c = rw c.loop-region.invariant.1 (passed-order _ _ _ _ c.loop-region.invariant.0 _ _ c.in-Some.ensures.steps)

pub returns-then-start-region-clause-steps : goal.returns-then-start-region-clause-steps
returns-then-start-region-clause-steps c = rw c.loop-region.invariant.1 (sym c.self.view_is ∙ passed-one _ _ _ _ c.loop-region.invariant.0 _ _ c.in-Some.ensures.steps c.if-start-region.true)

pub returns-then-start-region-clause-goes : goal.returns-then-start-region-clause-goes
returns-then-start-region-clause-goes c =
    let one = (sym c.self.view_is ∙ passed-one _ _ _ _ c.loop-region.invariant.0 _ _ c.in-Some.ensures.steps c.if-start-region.true) in
    rw c.loop-region.invariant.1 record { on = λ _. (tt, tt, omega (arith, ap length one)); keeps = tt; rests = λ _. tt }

pub loop-region-preserved : goal.loop-region-preserved
loop-region-preserved c = (passed-skip _ _ _ _ c.loop-region.invariant.0 _ _ c.in-Some.ensures.steps (omega arith), c.loop-region.invariant.1)

pub invariant_of-self-then-start-disc_end : goal.invariant_of-self-then-start-disc_end
invariant_of-self-then-start-disc_end c = rw c.loop-region.invariant.1 (let s = c.in_default.ensures.steps in order-none _ _ _ _ c.loop-region.invariant.0 _ s.0 s.1)

pub returns-then-start-disc_end-clause-steps : goal.returns-then-start-disc_end-clause-steps
returns-then-start-disc_end-clause-steps c =
    let s = c.in_default.ensures.steps in
    rw c.loop-region.invariant.1 (sym c.self.view_is ∙ passed-last _ _ _ _ c.loop-region.invariant.0 _ s.0 s.1 c.if-start-disc_end.true)

pub returns-then-start-disc_end-clause-goes : goal.returns-then-start-disc_end-clause-goes
returns-then-start-disc_end-clause-goes c =
    let s = c.in_default.ensures.steps in
    let one = (sym c.self.view_is ∙ passed-last _ _ _ _ c.loop-region.invariant.0 _ s.0 s.1 c.if-start-disc_end.true) in
    rw c.loop-region.invariant.1 record { on = λ _. (tt, tt, omega (arith, ap length one)); keeps = tt; rests = λ _. tt }

pub invariant_of-self-2 : goal.invariant_of-self-2
invariant_of-self-2 c = rw c.loop-region.invariant.1 (let s = c.in_default.ensures.steps in order-none _ _ _ _ c.loop-region.invariant.0 _ s.0 s.1)

pub returns-clause-steps : goal.returns-clause-steps
returns-clause-steps c =
    let s = c.in_default.ensures.steps in
    rw c.loop-region.invariant.1
    (sym c.self.view_is ∙ passed-end _ _ _ _ c.loop-region.invariant.0 _ s.0 s.1 (omega arith), none-left _ _ _ _ c.loop-region.invariant.0 _ s.0 s.1)
