-- `TextBuffer::push_field` meets its contract: the space, and the digits behind it.
use Rattle.listing.proofs.Joining.{appends-join}
use Rattle.listing.proofs.buffer.TextBuffer.push_field.Goals as goal

pub returns : goal.returns
returns c = appends-join c.push.ensures (rw c.from.ensures at c.push_decimal.ensures)
