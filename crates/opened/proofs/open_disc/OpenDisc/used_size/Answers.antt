-- `OpenDisc::used_size` meets its contract: the regions in the words come to the same sum.
use Rattle.std.proofs.Common.{◌∙◌}
use Rattle.space.specs.Laws.SortLaws.{same_total}
use Rattle.opened.proofs.open_disc.OpenDisc.used_size.Goals as goal

pub returns : goal.returns
returns c = c.used_size.ensures ∙ same_total _ c.args.self.now.disc.used c.used_regions.ensures.same
