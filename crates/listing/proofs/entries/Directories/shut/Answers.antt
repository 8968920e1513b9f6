-- `Directories::shut` meets its contract. The invariant of its loop: the entry is nested in the last of the directories or in one around that.
use Rattle.std.proofs.Common.{arith}
use Rattle.listing.proofs.Chains.{shut-found, shut-root, shut-turn, named-shorter}
use Rattle.listing.proofs.entries.Directories.shut.Goals as goal

pub returns-else-next-k : goal.returns-else-next-k
returns-else-next-k c = (shut-found _ _ _ _ c.loop-self.invariant.0 _ c.next.ensures c.if-next-k.false, c.loop-self.invariant.1)

pub loop-self-preserved : goal.loop-self-preserved
loop-self-preserved c = (shut-turn _ _ _ _ c.loop-self.invariant.0 _ c.loop-self-test.true c.next.ensures c.if-next-k.true, named-shorter c.loop-self.invariant.1 _ (omega arith))

pub returns-after-loop-self : goal.returns-after-loop-self
returns-after-loop-self c = (shut-root _ _ _ _ c.loop-self.invariant.0 c.loop-self-test.false, c.loop-self.invariant.1)
