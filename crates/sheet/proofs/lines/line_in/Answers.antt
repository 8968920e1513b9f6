-- `sheet::lines::line_in` meets its contract.
use Rattle.std.specs.Prelude.{drop}
use Rattle.std.proofs.Common.{ap, arith}
use Rattle.std.proofs.lemmas.List.{take_rest}
use Rattle.std.proofs.lemmas.Result.{err_from_is_err_and}
use Rattle.tree.specs.Table.{first_text}
use Rattle.sheet.specs.Inner.Read.{line_by}
use Rattle.sheet.proofs.Texts.{line_at-inside, line_at-past}
use Rattle.sheet.proofs.lines.line_in.Goals as goal

pub returns-then-texts-path-clause-err : goal.returns-then-texts-path-clause-err
returns-then-texts-path-clause-err c =
    line_at-past c.args.texts.now c.requires c.args.row.now 0 (omega arith)

pub returns-in_err-asked-clause-err : goal.returns-in_err-asked-clause-err
returns-in_err-asked-clause-err c =
    let texts = c.args.texts.now in
    let p = err_from_is_err_and c.from_residual.result c.from_residual.ensures.1 in
    rw (p.1, p.2)
    (cc (line_at-inside texts c.requires c.args.row.now 0 (omega arith), c.in_err-asked.ensures.err (first_text (drop c.read_u32-path.result texts))))

pub returns-clause-ok : goal.returns-clause-ok
returns-clause-ok c =
    let texts = c.args.texts.now in
    let at = c.read_u32-path.result in
    cc (
      line_at-inside texts c.requires c.args.row.now 0 (omega arith),
      c.in_ok-asked.ensures.ok (first_text (drop at texts)),
      ap (λ t. line_by c.in_ok-asked.asked (first_text t)) (take_rest texts at),
    )
