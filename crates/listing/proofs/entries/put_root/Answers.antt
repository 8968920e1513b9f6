-- `listing::entries::put_root` meets its contract: its three numbers, and its path.
use Rattle.listing.proofs.LineParts.{root-written}
use Rattle.listing.proofs.entries.put_root.Goals as goal

pub returns : goal.returns
returns c = search root-written
