-- `Stretch::has_free` meets its contract: those that are left tell it.
use Rattle.std.proofs.Common.{◌-◌, ◌==◌, drop}
use Rattle.std.specs.List.{list_any}
use Rattle.clearing.specs.declared.stretch.Run.{Run}
use Rattle.clearing.specs.Inner.Stretches.{runs_of}
use Rattle.clearing.proofs.Stretches.{IsLooking}
use Rattle.clearing.proofs.stretch.Stretch.has_free.Given as goal

abbrev pub invariant-loop-k : goal.invariant-loop-k
invariant-loop-k l =
    IsLooking l.size l.self.limit l.self.words.now l.self.to l.end (list_any (λ (run : Run). run.cost == 0) (drop l.tried (runs_of l.self l.size))) l.k

abbrev pub decreases-loop-k : goal.decreases-loop-k
decreases-loop-k l = l.end - l.k
