-- `sheet::lines::check_rows` meets its contract.
use Rattle.std.proofs.Common.{◌∙◌, sym, arith}
use Rattle.std.proofs.lemmas.Result.{err_from_is_err_and}
use Rattle.sheet.proofs.Rows.{refused-here, refused-next, refused-none}
use Rattle.sheet.proofs.lines.check_rows.Goals as goal

pub returns-in_err-line_in : goal.returns-in_err-line_in
returns-in_err-line_in c =
    let p = err_from_is_err_and c.from_residual.result c.from_residual.ensures.1 in
    rw (p.1, p.2)
    (sym (c.loop-row.invariant ∙ refused-here c.args.texts.now c.args.rows.now c.loop-row.row-index c.loop-row-test.true _ c.in_err-line_in.ensures.err))

pub loop-row-preserved : goal.loop-row-preserved
loop-row-preserved c =
    c.loop-row.invariant ∙ refused-next c.args.texts.now c.args.rows.now c.loop-row.row-index c.loop-row-test.true _ c.in_ok-line_in.ensures.ok

pub returns : goal.returns
returns c =
    sym (c.loop-row.invariant ∙ refused-none c.args.texts.now c.args.rows.now c.loop-row.row-index (omega arith))
