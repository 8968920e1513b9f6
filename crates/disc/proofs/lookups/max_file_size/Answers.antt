-- `disc::lookups::max_file_size` meets its contract: what the disc answers for the file that was found, behind opening's tests.
use Rattle.std.specs.Prelude.{Ok}
use Rattle.std.proofs.Common.{ap, ◌∙◌}
use Rattle.std.proofs.lemmas.Result.{err_from_is_err_and}
use Rattle.disc.proofs.Asked.{no_size, size_asked}
use Rattle.disc.proofs.lookups.max_file_size.Goals as goal

pub returns-in_err-disc-clause-answer : goal.returns-in_err-disc-clause-answer
returns-in_err-disc-clause-answer c =
    let p = err_from_is_err_and c.from_residual.result c.from_residual.ensures.1 in
    rw (p.1, p.2, ← c.new-lent.ensures.memory) (no_size _ _ _ c.of_image.ensures _ _ c.in_err-disc.was)

pub returns-in_err-file-clause-answer : goal.returns-in_err-file-clause-answer
returns-in_err-file-clause-answer c =
    let p = err_from_is_err_and c.from_residual-in_err-file.result c.from_residual-in_err-file.ensures.1 in
    rw (p.1, p.2, ← c.new-lent.ensures.memory) (size_asked _ _ _ c.of_image.ensures _ _ c.in_ok-disc.was _ c.in_err-file.ensures)

pub returns-clause-answer : goal.returns-clause-answer
returns-clause-answer c = rw (← c.new-lent.ensures.memory) (ap Ok c.max_region_size.ensures ∙ size_asked _ _ _ c.of_image.ensures _ _ c.in_ok-disc.was _ (c.in_ok-file.ensures))
