-- `pipeline::decide_image` meets its contract: refused by opening, or what the edit comes to on the disc that opened.
use Rattle.std.proofs.Common.{refl}
use Rattle.std.proofs.lemmas.Result.{err_from_is_err_and}
use Rattle.edit.proofs.Edited.{unopened}
use Rattle.edit.proofs.EditCases.{opened-accounted}
use Rattle.edit.proofs.pipeline.decide_image.Goals as goal

pub returns-in_err-disc : goal.returns-in_err-disc
returns-in_err-disc c =
    let p = err_from_is_err_and c.from_residual.result c.from_residual.ensures.1 in
    rw (p.1, p.2) (unopened _ _ _ _ _ _ _ _ _ refl (rw c.in_err-disc.was at c.of_image.ensures))

pub returns : goal.returns
returns c = opened-accounted _ _ _ _ c.in_ok-disc.ensures _ _ _ _ _ _ (c.enter.ensures.entered _ c.in_ok-disc.ensures.0)
