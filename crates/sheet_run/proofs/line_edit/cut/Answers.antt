-- `sheet_run::line_edit::cut` meets its contract: the place that it finds is that of the last `/`.
use Rattle.std.proofs.Common.{sym, rules}
use Rattle.std.proofs.lemmas.List.{take_rest}
use Rattle.sheet_run.proofs.Cutting.{cut-at, cut-nowhere}
use Rattle.sheet_run.proofs.line_edit.cut.Goals as goal

pub returns-in-Some : goal.returns-in-Some
returns-in-Some c =
    let found = cut-at c.args.path.now c.in-Some.slash (search rules) (search rules) (search rules) in
    record { parent = sym found.0; name = rw (found.1, take_rest) }

pub returns-in-None : goal.returns-in-None
returns-in-None c =
    let none = cut-nowhere c.args.path.now (search rules) in
    record { parent = sym none.0; name = sym none.1 }
