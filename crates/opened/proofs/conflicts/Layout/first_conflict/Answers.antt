-- `Layout::first_conflict` meets its contract. The invariant of its loop: what is left has the answer of the whole.
use Rattle.std.proofs.Common.{arith}
use Rattle.opened.specs.Inner.Owned.{layout_regions}
use Rattle.opened.proofs.OwnedRegions.{conflict-here, conflict-later, conflicts_none}
use Rattle.opened.proofs.conflicts.Layout.first_conflict.Goals as goal

pub returns-in-Some : goal.returns-in-Some
returns-in-Some c = conflict-here _ (layout_regions c.args.self.now) _ c.loop-i.invariant (omega (arith, c.len-i-end.ensures.len)) _ c.in-Some.ensures

pub loop-i-preserved : goal.loop-i-preserved
loop-i-preserved c = conflict-later _ (layout_regions c.args.self.now) _ c.loop-i.invariant (omega (arith, c.len-i-end.ensures.len)) c.in_default.ensures

pub returns : goal.returns
returns c = conflicts_none _ (layout_regions c.args.self.now) _ c.loop-i.invariant (omega (arith, c.len-i-end.ensures.len))
