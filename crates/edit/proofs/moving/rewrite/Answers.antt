-- `edit::moving::rewrite` meets its contract: the tests of the table as it is, and the table written anew.
use Rattle.std.proofs.lemmas.Result.{err_from_is_err_and}
use Rattle.edit.proofs.TableSlice.{opens-valid}
use Rattle.edit.proofs.Outcomes.{rewrite-decided, rewrite-refused}
use Rattle.edit.proofs.moving.rewrite.Goals as goal

pub write_table-requires-clause-valid : goal.write_table-requires-clause-valid
write_table-requires-clause-valid c = opens-valid _ c.table.ensures.opens

pub returns : goal.returns
returns c = λ image m. rewrite-decided image c.args.disc.now m c.args.bytes.now _ c.check_new_table.ensures.answer _ _ c.in_ok-size.was (rw c.table.ensures.nodes at c.write_table.ensures)

pub returns-in_err-size : goal.returns-in_err-size
returns-in_err-size c =
    let p = err_from_is_err_and c.from_residual.result c.from_residual.ensures.1 in
    rw (p.1, p.2) (λ image m. rewrite-refused image c.args.disc.now m c.args.bytes.now _ c.check_new_table.ensures.answer _ _ c.in_err-size.was)
