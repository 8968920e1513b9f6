-- `Entry::put_line` meets its contract: four texts, one behind the other.
use Rattle.listing.proofs.LineParts.{entry-written}
use Rattle.listing.proofs.entries.Entry.put_line.Goals as goal

pub returns : goal.returns
returns c = search entry-written
