-- `Collected::add_entry` meets its contract: a directory has no region.
use Rattle.std.proofs.Common.{refl}
use Rattle.opened.proofs.UsedRegions.{added_none}
use Rattle.opened.proofs.regions.Collected.add_entry.Goals as goal

pub returns-in_default-clause-added : goal.returns-in_default-clause-added
returns-in_default-clause-added c = added_none _ _ _ _ _ refl c.in_default.ensures
