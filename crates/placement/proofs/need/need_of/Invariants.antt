-- The files so far: this is what the pass has found.
use Rattle.std.specs.Prelude.{take}
use Rattle.placement.specs.Inner.Need.{IsNeedOf}
use Rattle.placement.proofs.need.need_of.Given as goal

abbrev pub invariant-loop-i : goal.invariant-loop-i
invariant-loop-i l = IsNeedOf (take l.i l.sizes) l.need
