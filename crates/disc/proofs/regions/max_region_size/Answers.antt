-- `disc::regions::max_region_size` meets its contract: what the disc answers, behind opening's tests.
use Rattle.std.specs.Prelude.{Ok, Err, List}
use Rattle.std.proofs.Common.{ap, refl}
use Rattle.std.proofs.lemmas.Result.{err_from_is_err_and}
use Rattle.space.specs.declared.region.DiscRegion.{DiscRegion}
use Rattle.space.specs.MaxRegionSize.{max_region_size}
use Rattle.opened.specs.Answers.{max_region_size_answer}
use Rattle.opened.proofs.Laws.AnswerLaws.{not_asked}
use Rattle.disc.proofs.Asked.{free_asked}
use Rattle.disc.proofs.regions.max_region_size.Goals as goal

pub returns-in_err-disc-clause-answer : goal.returns-in_err-disc-clause-answer
unfolding max_region_size_answer
returns-in_err-disc-clause-answer c =
    let p = err_from_is_err_and c.from_residual.result c.from_residual.ensures.1 in
    rw (p.1, p.2, ← c.new-lent.ensures.memory) (not_asked Err _ _ _ _ c.of_image.ensures _ c.in_err-disc.was)

pub returns-clause-answer : goal.returns-clause-answer
unfolding max_region_size_answer
returns-clause-answer c = rw (← c.new-lent.ensures.memory) (free_asked _ _ _ c.of_image.ensures _ c.in_ok-disc.was Err (λ (l : List DiscRegion). Ok (max_region_size c.args.offset c.args.size l)) _ refl _ (ap Ok c.max_region_size.ensures))
