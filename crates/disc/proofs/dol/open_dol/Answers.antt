-- `disc::dol::open_dol` meets its contract: what the image says, behind opening's tests.
use Rattle.std.proofs.Common.{◌∙◌}
use Rattle.std.proofs.lemmas.Result.{err_from_is_err_and}
use Rattle.disc.proofs.Asked.{dol_asked, dol_not_asked}
use Rattle.disc.proofs.dol.open_dol.Goals as goal

pub returns-in_err-of_image-clause-answer : goal.returns-in_err-of_image-clause-answer
returns-in_err-of_image-clause-answer c =
    let p = err_from_is_err_and c.from_residual.result c.from_residual.ensures.1 in
    rw (p.1, p.2, ← c.new-lent.ensures.memory) (dol_not_asked _ _ _ c.of_image.ensures _ c.in_err-of_image.was)

pub returns-clause-answer : goal.returns-clause-answer
returns-clause-answer c = rw (← c.new-lent.ensures.memory) (c.dol_in.ensures ∙ dol_asked _ _ _ c.of_image.ensures _ c.in_ok-of_image.was)
