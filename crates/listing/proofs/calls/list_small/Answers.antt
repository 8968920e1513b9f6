-- `listing::calls::list_small` meets its contract, by the length of the image.
use Rattle.listing.proofs.Answers.{large-answer, large-buffer, small-answer, small-buffer}
use Rattle.listing.proofs.calls.list_small.Goals as goal

pub returns-then-image-gt-INPUT_LIMIT-clause-answer : goal.returns-then-image-gt-INPUT_LIMIT-clause-answer
returns-then-image-gt-INPUT_LIMIT-clause-answer c = large-answer _ _ _ c.if-image-gt-INPUT_LIMIT.true

pub returns-then-image-gt-INPUT_LIMIT-clause-text_after : goal.returns-then-image-gt-INPUT_LIMIT-clause-text_after
returns-then-image-gt-INPUT_LIMIT-clause-text_after c = large-buffer _ _ _ c.if-image-gt-INPUT_LIMIT.true

pub returns-clause-answer : goal.returns-clause-answer
returns-clause-answer c = rw c.new-lent.ensures.memory at (small-answer _ _ _ _ c.if-image-gt-INPUT_LIMIT.false c.list_image.ensures.answer)

pub returns-clause-text_after : goal.returns-clause-text_after
returns-clause-text_after c = rw c.new-lent.ensures.memory at (small-buffer _ _ _ _ c.if-image-gt-INPUT_LIMIT.false c.list_image.ensures.text_after)
