-- `OpenDisc::max_region_size` meets its contract: what the used regions leave free is what is free of the disc.
use Rattle.std.proofs.Common.{ap, ◌∙◌}
use Rattle.space.specs.MaxRegionSize.{max_region_size}
use Rattle.opened.proofs.open_disc.OpenDisc.max_region_size.Goals as goal

pub returns : goal.returns
returns c = c.max_region_size.ensures ∙ ap (max_region_size c.args.offset c.args.size) c.used_regions.ensures.free
