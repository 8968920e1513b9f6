-- `UsedRegions::list_free` meets its contract: the regions listed, and those that are left, are the free regions.
use Rattle.space.specs.Inner.UsedSpace.{free_space_in}
use Rattle.space.proofs.Written.{Listed}
use Rattle.space.proofs.used.UsedRegions.list_free.Given as goal

abbrev pub invariant-loop-region : goal.invariant-loop-region
invariant-loop-region g l =
    (goal.iterator-loop-region g).can_next l.region-iterator ×
    (goal.iterator-loop-region g).is_finite l.region-iterator ×
    Listed g.R.Row.words_of (free_space_in l.self) l.initial.list l.list l.at l.region-iterator
