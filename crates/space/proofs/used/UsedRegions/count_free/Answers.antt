-- `UsedRegions::count_free` meets its contract: they can be counted.
use Rattle.std.proofs.Common.{inl, arith}
use Rattle.space.proofs.Kept.{free-few}
use Rattle.space.proofs.used.UsedRegions.count_free.Goals as goal

pub count-requires-clause-fits : goal.count-requires-clause-fits
count-requires-clause-fits c = inl (rw c.free_regions.ensures (omega (arith, free-few _ _ _ c.self.invariant.sorted _ c.self.view_is, c.self.invariant.sorted.held)))
