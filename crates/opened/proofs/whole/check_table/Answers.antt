-- `whole::check_table` meets its contract: once the header passed, the table is there.
use Rattle.std.proofs.Common.{◌∙◌}
use Rattle.std.proofs.lemmas.Result.{err_from_is_err_and}
use Rattle.opened.proofs.Heads.{bounds_are}
use Rattle.opened.proofs.Opens.{refused_head, tested}
use Rattle.opened.proofs.whole.check_table.Goals as goal

pub returns-in_err-check_bounds_within : goal.returns-in_err-check_bounds_within
returns-in_err-check_bounds_within g c =
    let p = err_from_is_err_and c.from_residual.result c.from_residual.ensures.1 in
    rw (p.1, p.2) (refused_head _ _ _ (c.in_err-check_bounds_within.ensures ∙ bounds_are _ _ _ c.requires.head))

pub returns : goal.returns
returns g c = tested g.image _ c.requires.table_is _ _ (c.in_ok-check_bounds_within.ensures ∙ bounds_are _ _ _ c.requires.head) c.check.ensures
