-- `Marks::new` meets its contract: no block is marked at first.
use Rattle.table.proofs.BlockLaws.{marked-none}
use Rattle.table.proofs.marks.Marks.new.Goals as goal

pub invariant_of-marks : goal.invariant_of-marks
invariant_of-marks c = record { near = c.requires; marked = marked-none c.args.table.now c.args.base }
