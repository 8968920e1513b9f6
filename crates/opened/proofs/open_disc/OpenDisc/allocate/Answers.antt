-- `OpenDisc::allocate` meets its contract: what the used regions leave free is what is free of the disc.
use Rattle.std.proofs.Common.{ap, ◌∙◌}
use Rattle.space.specs.Allocate.{allocation_of}
use Rattle.opened.proofs.open_disc.OpenDisc.allocate.Goals as goal

pub returns : goal.returns
returns c = c.allocate.ensures ∙ ap (allocation_of c.args.align c.args.size) c.used_regions.ensures.free
