-- `pipeline::decide` meets its contract: a fill is decided by the length of its clip.
use Rattle.std.proofs.Common.{refl}
use Rattle.edit.proofs.pipeline.decide.Goals as goal

pub returns-in-Fill : goal.returns-in-Fill
returns-in-Fill c = let h = rw c.in-Fill.is at c.passable.ensures in rw c.in-Fill.is (record { decided = c.fill.ensures _ h refl; passable = h })
