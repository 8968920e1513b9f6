-- `edit::moving::place_file` meets its contract: the tree with another place passes the tests of the tree as it is, and its table is as long.
use Rattle.std.proofs.lemmas.Result.{err_from_is_err_and}
use Rattle.edit.proofs.Outcomes.{place-refused, place-judged}
use Rattle.edit.proofs.moving.place_file.Goals as goal

pub returns-in_err-size : goal.returns-in_err-size
returns-in_err-size c =
    let a = c.args in
    let p = err_from_is_err_and c.from_residual.result c.from_residual.ensures.1 in
    rw (p.1, p.2) (record { draftable = tt; decides = λ bytes t image m. place-refused image a.disc.now m a.room _ a.number a.writing c.check_new_table.ensures.answer _ bytes c.in_err-size.was })

pub returns : goal.returns
returns c = place-judged c.args.disc.now c.args.room _ c.args.number c.args.writing c.check_new_table.ensures.answer _ c.in_ok-size.was c.requires.is_file c.requires.inside c.in_ok-size.ensures.held c.in_ok-size.ensures.small
