-- `record_text::lines::push_beginning` meets its contract: four texts, one behind the other.
use Rattle.listing.proofs.Joining.{appends-join}
use Rattle.record_text.proofs.lines.push_beginning.Goals as goal

pub returns : goal.returns
returns c = appends-join (appends-join (appends-join c.push_named.ensures c.push.ensures) c.push_named-2.ensures) c.push_named-3.ensures
