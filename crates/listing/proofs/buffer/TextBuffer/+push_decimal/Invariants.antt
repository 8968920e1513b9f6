-- `TextBuffer::push_decimal` ends: a call of itself is for a lower number.
use Rattle.listing.proofs.buffer.TextBuffer.+push_decimal.Given as goal

abbrev pub decreases-push_decimal : goal.decreases-push_decimal
decreases-push_decimal l = l.n
