-- `listing::lines::put_pair` meets its contract: three texts, one behind the other.
use Rattle.listing.proofs.Joining.{appends-three}
use Rattle.listing.proofs.lines.put_pair.Goals as goal

pub returns : goal.returns
returns c = search appends-three
