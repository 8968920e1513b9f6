-- `run::decide_line` meets its contract: refused by opening or by the line's path, or what its edit comes to on the disc that opened.
use Rattle.std.proofs.Common.{refl}
use Rattle.std.proofs.lemmas.Result.{err_from_is_err_and}
use Rattle.sheet_run.proofs.LineRuns.{unopened, unfound, found}
use Rattle.sheet_run.proofs.run.decide_line.Goals as goal

pub returns-in_err-disc : goal.returns-in_err-disc
returns-in_err-disc c =
    let p = err_from_is_err_and c.from_residual.result c.from_residual.ensures.1 in
    rw (p.1, p.2) (unopened _ _ _ _ _ _ _ _ (rw c.in_err-disc.was at c.of_image.ensures) refl)

pub returns-in_err-edit : goal.returns-in_err-edit
returns-in_err-edit c =
    let p = err_from_is_err_and c.from_residual-in_err-edit.result c.from_residual-in_err-edit.ensures.1 in
    rw (p.1, p.2) (unfound _ _ _ _ _ _ _ c.in_ok-disc.ensures _ _ (rw c.in_err-edit.was at c.line_edit.ensures.edit) refl)

pub returns : goal.returns
returns c =
    found _ _ _ _ _ _ _ c.in_ok-disc.ensures _ _ _ (rw c.in_ok-edit.was at c.line_edit.ensures.edit) (rw c.in_ok-edit.was at c.line_edit.ensures.no_clip) c.enter.ensures.passable c.enter.ensures.entered
