-- `disc::regions::totals` meets its contract: what the disc answers, behind opening's tests.
use Rattle.std.specs.Prelude.{Err}
use Rattle.opened.proofs.Laws.Meant.{end_meant, total_meant}
use Rattle.opened.proofs.Laws.AnswerLaws.{asked}
use Rattle.disc.specs.Calls.{totals_answer}
use Rattle.disc.proofs.regions.totals.Goals as goal

pub returns-clause-answer : goal.returns-clause-answer
unfolding totals_answer
returns-clause-answer c = rw (← c.new-lent.ensures.memory) (asked Err _ _ _ _ c.of_image.ensures _ c.in_ok-disc.was _ (λ m. rw (c.end.ensures, c.used_size.ensures, end_meant _ _ m, total_meant _ _ m)))
