-- `growth::size_beside_free` meets its contract: one law for each of the three cases; the sum is the end of a free region.
use mathlib.Core.Path.{◌∙◌}
use native.Mathlib.Omega.{arith}
use Rattle.space.proofs.Choice.{beside_at, beside-next, beside-far}
use Rattle.space.proofs.growth.size_beside_free.Goals as goal

pub returns-then-next-offset : goal.returns-then-next-offset
returns-then-next-offset c = beside_at _ _ _ _ c.if-next-offset.true

pub returns-then-from : goal.returns-then-from
returns-then-from c = c.size_inside_free.ensures ∙ beside-next _ _ _ _ c.if-next-offset.false (omega arith)

pub returns : goal.returns
returns c = c.size_inside_free-2.ensures ∙ beside-far _ _ _ _ c.if-next-offset.false (λ e. c.if-from.false (omega arith))
