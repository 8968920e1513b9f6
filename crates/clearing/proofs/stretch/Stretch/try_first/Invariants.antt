-- `Stretch::try_first` meets its contract: what was tried and what is left make the whole.
use Rattle.std.proofs.Common.{◌-◌, take}
use Rattle.clearing.specs.Inner.Tried.{cheapest_from}
use Rattle.clearing.specs.Inner.Stretches.{runs_of}
use Rattle.clearing.proofs.Trying.{IsTrying}
use Rattle.clearing.proofs.stretch.Stretch.try_first.Given as goal

abbrev pub invariant-loop-marks : goal.invariant-loop-marks
invariant-loop-marks l =
    IsTrying l.size l.self.limit l.self.words.now l.self.to l.end (cheapest_from l.fn.before (take l.tried (runs_of l.self l.size))) l.marks l.cheapest

abbrev pub decreases-loop-marks : goal.decreases-loop-marks
decreases-loop-marks l = l.end - l.marks.to_end
