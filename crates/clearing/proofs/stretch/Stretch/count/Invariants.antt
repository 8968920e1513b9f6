-- `Stretch::count` meets its contract: no run starts behind the first so many regions.
use Rattle.std.proofs.Common.{◌-◌, ◌≡◌, ◌≤◌, length}
use Rattle.space.specs.Inner.Sort.{regions_in}
use Rattle.clearing.specs.Inner.Marks.{runs_behind}
use Rattle.clearing.specs.Inner.Stretches.{by_limit, runs_of}
use Rattle.clearing.proofs.stretch.Stretch.count.Given as goal

abbrev pub invariant-loop-count : goal.invariant-loop-count
invariant-loop-count l =
    (l.count ≤ l.self.to - l.self.from)
    × (length (runs_of l.self l.size) ≡ length (runs_behind (by_limit l.size l.self.limit) (regions_in l.self.words.now l.self.from l.count)))

abbrev pub decreases-loop-count : goal.decreases-loop-count
decreases-loop-count l = l.count
