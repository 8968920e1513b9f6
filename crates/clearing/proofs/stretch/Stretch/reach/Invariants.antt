-- `Stretch::reach` meets its contract: the sizes between the marks and those that start behind them, but before the run's end.
use Rattle.std.proofs.Common.{◌-◌}
use Rattle.clearing.specs.Inner.Marks.{AreMarks}
use Rattle.clearing.specs.Inner.Stretches.{by_limit}
use Rattle.clearing.proofs.stretch.Stretch.reach.Given as goal

abbrev pub invariant-loop-to_start : goal.invariant-loop-to_start
invariant-loop-to_start l =
    AreMarks (by_limit l.size l.self.limit) l.marks.offset l.self.words.now l.self.to l.marks.to_end l.to_start l.between

abbrev pub decreases-loop-to_start : goal.decreases-loop-to_start
decreases-loop-to_start l = l.self.to - l.to_start
