-- `OpenDisc::used_regions` meets its contract: the words hold the used regions of the disc, in order.
use Rattle.std.proofs.Common.{arith}
use Rattle.opened.proofs.Fewer.{sorted-first}
use Rattle.opened.proofs.Discs.{free_backed, sums_backed, sorted_backed}
use Rattle.opened.proofs.open_disc.OpenDisc.used_regions.Goals as goal

pub new-requires : goal.new-requires
new-requires c = sorted-first _ _ _ _ (omega arith) (sorted_backed _ _ _ _ _ c.self.invariant _ c.self.view_is _ c.end.ensures)

pub returns-clause-free : goal.returns-clause-free
returns-clause-free c = rw c.new.ensures (free_backed _ _ _ _ _ c.self.invariant _ c.self.view_is _ c.end.ensures)

pub returns-clause-same : goal.returns-clause-same
returns-clause-same c = rw c.new.ensures (sums_backed _ _ _ _ _ c.self.invariant _ c.self.view_is)
