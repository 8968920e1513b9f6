-- `disc::regions::program` meets its contract: what the image says, behind opening's tests.
use Rattle.std.specs.Prelude.{Err}
use Rattle.opened.proofs.Laws.AnswerLaws.{asked}
use Rattle.disc.specs.Calls.{program_answer}
use Rattle.disc.proofs.regions.program.Goals as goal

pub returns-clause-answer : goal.returns-clause-answer
unfolding program_answer
returns-clause-answer c = rw (← c.new-lent.ensures.memory) (asked Err _ _ _ _ c.of_image.ensures _ c.in_ok-of_image.was _ (λ m. c.read.ensures))
