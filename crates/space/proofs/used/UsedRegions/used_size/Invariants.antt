-- `UsedRegions::used_size` meets its contract: the sizes so far and those of the regions that are left are all sizes.
use Rattle.std.proofs.Common.{◌≡◌, ◌+◌}
use Rattle.space.specs.Used.{total_size}
use Rattle.space.proofs.used.UsedRegions.used_size.Given as goal

abbrev pub invariant-loop-region : goal.invariant-loop-region
invariant-loop-region l =
    (goal.iterator-loop-region).can_next l.region-iterator ×
    (goal.iterator-loop-region).is_finite l.region-iterator ×
    (l.used + total_size l.region-iterator ≡ total_size l.self.regions)
