-- `record_text::lines::push_named` meets its contract: two texts, one behind the other.
use Rattle.listing.proofs.Joining.{appends-join}
use Rattle.record_text.proofs.lines.push_named.Goals as goal

pub returns : goal.returns
returns c = appends-join c.push_bytes.ensures c.push_field.ensures
