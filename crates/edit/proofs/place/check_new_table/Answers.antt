-- `place::check_new_table` meets its contract: the size that was measured settles the limits, and the place is judged by it.
use Rattle.std.proofs.Common.{refl}
use Rattle.std.proofs.lemmas.Result.{err_from_is_err_and}
use Rattle.edit.proofs.TableSlice.{opens-valid}
use Rattle.edit.proofs.BuiltTable.{judged-past, judged-sized}
use Rattle.edit.proofs.Discs.{new_table}
use Rattle.edit.proofs.place.check_new_table.Goals as goal

pub measure-requires : goal.measure-requires
measure-requires c = opens-valid _ c.table.ensures.opens

pub returns-in_err-size-clause-answer : goal.returns-in_err-size-clause-answer
returns-in_err-size-clause-answer c =
    let p = err_from_is_err_and c.from_residual.result c.from_residual.ensures.1 in
    rw (p.1, p.2) (judged-past _ _ c.table.ensures.of_image _ c.measure.ensures _ c.in_err-size.was _ _)

pub returns-in_err-check_place-clause-answer : goal.returns-in_err-check_place-clause-answer
returns-in_err-check_place-clause-answer c =
    let p = err_from_is_err_and c.from_residual-in_err-check_place.result c.from_residual-in_err-check_place.ensures.1 in
    rw (p.1, p.2) (judged-sized _ _ c.table.ensures.of_image _ c.measure.ensures _ c.in_ok-size.was _ _ _ c.in_err-check_place.ensures)

pub returns : goal.returns
returns c =
    let t = c.table.ensures.of_image in
    let answer = judged-sized _ _ t _ c.measure.ensures _ c.in_ok-size.was c.args.room c.args.place _ c.in_ok-check_place.ensures in
    let n = new_table t.image _ t.means c.args.room c.args.place _ answer _ refl in
    record { answer = answer; held = n.held; small = n.small }
