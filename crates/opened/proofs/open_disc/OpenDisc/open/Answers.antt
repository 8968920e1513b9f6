-- `OpenDisc::open` meets its contract: the tests in their order are opening's, and the parts of an image that opens say its disc.
use Rattle.std.proofs.Common.{sym}
use Rattle.std.proofs.lemmas.Result.{err_from_is_err_and}
use Rattle.opened.proofs.Tests.{refused-before, refused-24}
use Rattle.opened.proofs.Heads.{own_passed, own_refused}
use Rattle.opened.proofs.Discs.{backed, means}
use Rattle.opened.proofs.open_disc.OpenDisc.open.Goals as goal

pub returns-in_err-check_table : goal.returns-in_err-check_table
returns-in_err-check_table g c =
    let p = err_from_is_err_and c.from_residual.result c.from_residual.ensures.1 in
    rw (p.1, p.2) (refused-before _ _ _ c.in_err-check_table.ensures)

pub returns-in_err-own : goal.returns-in_err-own
returns-in_err-own g c =
    let p = err_from_is_err_and c.from_residual-in_err-own.result c.from_residual-in_err-own.ensures.1 in
    rw (p.1, p.2) (refused-24 g.image _ _ (sym c.in_ok-check_table.ensures) (own_refused _ _ _ c.in_err-own.ensures))

pub check_used-requires : goal.check_used-requires
check_used-requires g c =
    let own = own_passed _ _ _ c.in_ok-own.ensures in
    (c.requires, (sym c.in_ok-check_table.ensures, (own.0, own.1)))

pub returns-in_err-used : goal.returns-in_err-used
returns-in_err-used g c =
    let p = err_from_is_err_and c.from_residual-in_err-used.result c.from_residual-in_err-used.ensures.1 in
    rw (p.1, p.2, ← c.check_used.auto.words) c.in_err-used.ensures

pub invariant_of-result : goal.invariant_of-result
invariant_of-result g c = backed g.image _ _ _ _ c.requires _ _ c.in_ok-used.ensures _ (own_passed _ _ _ c.in_ok-own.ensures).1

pub returns : goal.returns
returns g c = (means g.image _ _ _ _ c.requires _ _ c.in_ok-used.ensures _ (own_passed _ _ _ c.in_ok-own.ensures).1, c.check_used.auto.words)
