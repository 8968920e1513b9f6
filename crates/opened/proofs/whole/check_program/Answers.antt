-- `whole::check_program` meets its contract: a refused header is the answer, and what an accepted one takes behind the table is the program's own region.
use Rattle.std.proofs.Common.{◌∙◌}
use Rattle.std.proofs.lemmas.Result.{err_from_is_err_and}
use Rattle.opened.proofs.Tests.{own_is}
use Rattle.opened.proofs.Heads.{start_is}
use Rattle.opened.proofs.whole.check_program.Goals as goal

pub returns-in_err-program : goal.returns-in_err-program
returns-in_err-program g c =
    let p = err_from_is_err_and c.from_residual.result c.from_residual.ensures.1 in
    rw (p.1, p.2, ← c.in_err-program.ensures)

pub returns : goal.returns
returns g c =
    let own = own_is g.image _ _ _ c.in_ok-program.ensures (c.fst_offset.ensures ∙ start_is _ _ _ c.requires.head) c.own_region.ensures in
    rw (← c.in_ok-program.ensures, own)
