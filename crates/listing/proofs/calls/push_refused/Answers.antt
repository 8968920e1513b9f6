-- `listing::calls::push_refused` meets its contract: three texts, one behind the other.
use Rattle.listing.proofs.Joining.{appends-join}
use Rattle.listing.proofs.calls.push_refused.Goals as goal

pub returns : goal.returns
returns c = appends-join c.push_text.ensures (appends-join (rw (c.from.ensures, c.number.ensures) at c.push_decimal.ensures) c.push.ensures)
