-- `record_text::lines::push_count` meets its contract: the word with its space, the digits and the line feed.
use Rattle.listing.proofs.Joining.{appends-join}
use Rattle.record_text.proofs.lines.push_count.Goals as goal

pub returns : goal.returns
returns c = appends-join (appends-join c.push_bytes.ensures c.push_decimal.ensures) c.push.ensures
