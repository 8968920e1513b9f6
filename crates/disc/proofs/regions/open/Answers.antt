-- `disc::regions::open` meets its contract: what the disc tells of itself, behind opening's tests.
use Rattle.std.specs.Prelude.{Ok, Err}
use Rattle.std.proofs.Common.{ap, ◌∙◌}
use Rattle.opened.proofs.Laws.AnswerLaws.{asked, told_meant}
use Rattle.disc.specs.Calls.{open_answer}
use Rattle.disc.proofs.regions.open.Goals as goal

pub returns-clause-answer : goal.returns-clause-answer
unfolding open_answer
returns-clause-answer c = rw (← c.new-lent.ensures.memory) (asked Err _ _ _ _ c.of_image.ensures _ c.in_ok-disc.was _ (λ m. ap Ok (c.told.ensures ∙ told_meant _ _ m)))
