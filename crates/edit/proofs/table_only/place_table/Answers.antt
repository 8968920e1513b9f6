-- `table_only::place_table` meets its contract: the limits are passed, so the verdict on the place is the table's.
use Rattle.std.proofs.Common.{refl}
use Rattle.std.proofs.lemmas.Result.{err_from_is_err_and}
use Rattle.edit.proofs.TableChanges.{place-refuses, place-writes}
use Rattle.edit.proofs.table_only.place_table.Goals as goal

pub returns-in_err-check_place : goal.returns-in_err-check_place
returns-in_err-check_place c =
    let p = err_from_is_err_and c.from_residual.result c.from_residual.ensures.1 in
    rw (p.1, p.2) (place-refuses _ _ c.args.number c.args.disc.now (rw c.requires at c.args.table.now.stands) _ c.in_err-check_place.ensures _ refl)

pub returns : goal.returns
returns c = place-writes _ _ c.args.number c.args.disc.now (rw c.requires at c.args.table.now.stands) _ c.in_ok-check_place.ensures refl
