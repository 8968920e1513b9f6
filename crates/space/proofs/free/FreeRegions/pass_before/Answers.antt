-- `FreeRegions::pass_before` meets its contract: each used region is passed, with the free bytes before it if there are any.
use Rattle.std.proofs.Common.{arith}
use Rattle.space.proofs.Passing.{stand-ends, stand-next}
use Rattle.space.proofs.free.FreeRegions.pass_before.Goals as goal

pub overflow_add-self : goal.overflow_add-self
overflow_add-self c = omega (arith, stand-ends _ _ _ _ _ _ c.loop-self.invariant.0 _ _ c.in-Some.ensures.steps)

pub loop-self-preserved : goal.loop-self-preserved
loop-self-preserved c = (stand-next _ _ _ _ _ _ c.loop-self.invariant.0 _ _ c.in-Some.ensures.steps (omega arith) _ c.end_before-last.ensures, c.loop-self.invariant.1)
