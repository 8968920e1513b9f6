-- `listing::regions::put_region` meets its contract: the pair and the line feed.
use Rattle.listing.proofs.Joining.{appends-two}
use Rattle.listing.proofs.LineParts.{pair-more}
use Rattle.listing.proofs.regions.put_region.Goals as goal

pub returns : goal.returns
returns c = search (appends-two, pair-more)
