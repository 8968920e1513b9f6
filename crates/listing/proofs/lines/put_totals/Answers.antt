-- `listing::lines::put_totals` meets its contract: five texts, one behind the other.
use Rattle.listing.proofs.Joining.{appends-join}
use Rattle.listing.proofs.lines.put_totals.Goals as goal

pub returns : goal.returns
returns c = appends-join c.push_text.ensures (appends-join c.push_field.ensures (appends-join c.push_text-2.ensures (appends-join c.push_field-2.ensures c.push.ensures)))
