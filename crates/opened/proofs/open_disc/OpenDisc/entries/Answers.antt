-- `OpenDisc::entries` meets its contract: the root says how many entries there are.
use Rattle.opened.proofs.Discs.{entries_backed}
use Rattle.opened.proofs.open_disc.OpenDisc.entries.Goals as goal

pub returns : goal.returns
returns c = entries_backed _ _ _ _ _ c.self.invariant _ c.self.view_is _ c.read_u32.ensures
