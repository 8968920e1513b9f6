-- `TextBuffer::push_decimal` meets its contract: a single digit, or those before the last and the last.
use Rattle.listing.proofs.Digits.{appends-digit, appends-digits}
use Rattle.listing.proofs.buffer.TextBuffer.+push_decimal.Goals as goal

pub returns-then-n-lt10 : goal.returns-then-n-lt10
returns-then-n-lt10 t c = search appends-digit

pub returns : goal.returns
returns t c = search appends-digits
