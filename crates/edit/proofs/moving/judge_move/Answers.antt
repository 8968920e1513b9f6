-- `edit::moving::judge_move` meets its contract: 15 and 16, then the move of the file that was found.
use Rattle.std.proofs.lemmas.Result.{err_from_is_err_and}
use Rattle.edit.proofs.Files.{file-found, file-refused, move-decided, move-refused}
use Rattle.edit.proofs.moving.judge_move.Goals as goal

pub returns-in_err-file : goal.returns-in_err-file
returns-in_err-file c =
    let a = c.args in
    let p = err_from_is_err_and c.from_residual.result c.from_residual.ensures.1 in
    let v = file-refused a.disc.now.disc.nodes a.number _ _ c.file_on_disc.ensures.answer c.in_err-file.was in
    rw (p.1, p.2) (record { draftable = tt; decides = λ bytes t image m. move-refused image _ _ _ _ _ a.disc.now.disc.nodes a.number _ _ v })

pub returns : goal.returns
returns c =
    let a = c.args in
    let f = file-found a.disc.now.disc.nodes a.number _ _ c.file_on_disc.ensures.answer c.in_ok-file.was in
    let j = rw f.number at c.relocate.ensures in
    record { draftable = j.draftable; decides = λ bytes t image m. move-decided image _ _ _ _ _ a.disc.now.disc.nodes a.number _ _ _ f.passed f.place (j.decides bytes t image m) }
