-- `clear_run` meets its contract: the cheapest run on the disc, behind opening's tests.
use Rattle.std.specs.Prelude.{Err}
use Rattle.opened.proofs.Laws.AnswerLaws.{asked}
use Rattle.clearing.specs.Clearing.{clear_answer}
use Rattle.clearing.proofs.clear.clear_run.Goals as goal

pub returns-clause-answer : goal.returns-clause-answer
unfolding clear_answer
returns-clause-answer c = rw (← c.new-lent.ensures.memory) (asked Err _ _ _ _ c.of_image.ensures _ c.in_ok-disc.was _ (λ m. c.cheapest_run.ensures _ m))
