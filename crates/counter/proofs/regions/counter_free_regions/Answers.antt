-- `counter::regions::counter_free_regions` meets its contract: there are few enough regions for a slot.
use Rattle.counter.proofs.Counts.{listed_small}
use Rattle.counter.proofs.regions.counter_free_regions.Goals as goal

pub give_count-requires : goal.give_count-requires
give_count-requires c = search listed_small
