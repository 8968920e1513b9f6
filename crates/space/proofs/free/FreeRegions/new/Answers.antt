-- `FreeRegions::new` meets its contract: the gaps that have a byte are the free regions.
use Rattle.space.proofs.Gaps.{gaps-free}
use Rattle.space.proofs.free.FreeRegions.new.Goals as goal

pub returns : goal.returns
returns c = gaps-free _ _ c.requires.nonempty c.requires.in_order
