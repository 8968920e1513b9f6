-- `deciding::decide` meets its contract: refused by opening, or what the edit or the fill comes to on the disc that opened.
use Rattle.std.proofs.Common.{refl, sym}
use Rattle.std.proofs.lemmas.Result.{err_from_is_err_and}
use Rattle.edit_rules.specs.Edits.{fill_file}
use Rattle.edit.specs.Asked.{edit_of}
use Rattle.edit.proofs.Edited.{unopened}
use Rattle.edit.proofs.EditCases.{opened-accounted}
use Rattle.journaled.proofs.deciding.decide.Goals as goal

pub returns-in_err-disc : goal.returns-in_err-disc
returns-in_err-disc g c =
    let p = err_from_is_err_and c.from_residual.result c.from_residual.ensures.1 in
    rw (p.1, p.2) (unopened _ _ _ _ _ _ _ _ _ refl (rw c.in_err-disc.was at c.open_behind.ensures))

pub returns-in-Edit : goal.returns-in-Edit
returns-in-Edit g c =
    let q = rw c.in-Edit.is at c.requires.clip in
    let e = rw q.0 at (c.enter.ensures.entered _ c.in_ok-disc.ensures.0) in
    rw (c.in-Edit.is, q.1) (opened-accounted (edit_of c.in-Edit.edit) _ _ _ c.in_ok-disc.ensures _ _ _ _ _ _ e)

pub returns-in-Fill : goal.returns-in-Fill
returns-in-Fill g c =
    let clip = (g.F.Files.state c.args.files.now).clip in
    let e = c.enter_fill.ensures clip c.clip_len.ensures.bytes (sym c.clip_len.ensures.len) _ c.in_ok-disc.ensures.0 in
    rw c.in-Fill.is (opened-accounted (fill_file c.in-Fill.file clip) _ _ _ c.in_ok-disc.ensures _ _ _ _ _ _ e)
