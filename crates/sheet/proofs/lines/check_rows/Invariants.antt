-- `sheet::lines::check_rows` meets its contract. The invariant of its loop: the rows are refused for what those that are left are refused for.
use Rattle.std.specs.Prelude.{◌≡◌, drop}
use Rattle.std.specs.Result.{result_err}
use Rattle.sheet.specs.Inner.Left.{lines_in}
use Rattle.sheet.proofs.lines.check_rows.Given as goal

abbrev pub invariant-loop-row : goal.invariant-loop-row
invariant-loop-row l = result_err (lines_in l.texts l.rows) ≡ result_err (lines_in l.texts (drop l.row-index l.rows))
