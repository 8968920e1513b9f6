-- `disc::regions::make_record` meets its contract: the record of the disc, behind opening's tests.
use Rattle.std.specs.Prelude.{Ok, Err}
use Rattle.std.proofs.Common.{ap}
use Rattle.opened.proofs.Laws.AnswerLaws.{asked}
use Rattle.disc.specs.Calls.{record_answer}
use Rattle.disc.proofs.regions.make_record.Goals as goal

pub returns-clause-answer : goal.returns-clause-answer
unfolding record_answer
returns-clause-answer c = rw (← c.new-lent.ensures.memory) (asked Err _ _ _ _ c.of_image.ensures _ c.in_ok-disc.was _ (λ m. ap Ok (c.record_of.ensures _ m)))
