-- `table_only::start_table` meets its contract: the size that was measured settles the limits, and what is written is the tree.
use Rattle.std.proofs.Common.{refl, arith}
use Rattle.std.proofs.lemmas.Result.{err_from_is_err_and}
use Rattle.edit.proofs.TableSlice.{opens-valid, past-cause}
use Rattle.edit.proofs.BuiltTable.{past-never, within-limit, size-measured, table-small, started}
use Rattle.edit.proofs.table_only.start_table.Goals as goal

pub measure-requires : goal.measure-requires
measure-requires c = opens-valid _ c.table-table.ensures.opens

pub returns-in_err-size-clause-built : goal.returns-in_err-size-clause-built
returns-in_err-size-clause-built c =
    let p = err_from_is_err_and c.from_residual.result c.from_residual.ensures.1 in
    let t = c.table-table.ensures.of_image in
    rw (p.1, p.2) (past-cause t.image _ t.is _ t.means.known _ c.measure.ensures _ c.in_err-size.was, past-never _ _ c.table-table.ensures.of_image _ c.measure.ensures _ _ c.in_err-size.was)

pub returns-then-bytes-size-clause-built : goal.returns-then-bytes-size-clause-built
returns-then-bytes-size-clause-built c =
    let n = size-measured _ _ c.table-table.ensures.of_image _ c.measure.ensures _ c.in_ok-size.was in
    (refl, λ _. omega (arith, n))

pub write_table-requires : goal.write_table-requires
write_table-requires c =
    let n = size-measured _ _ c.table-table.ensures.of_image _ c.measure.ensures _ c.in_ok-size.was in
    record {
      valid = opens-valid _ c.table-table.ensures.opens;
      held = rw c.table-table.ensures.nodes (omega (arith, n));
      small = rw c.table-table.ensures.nodes (table-small _ _ c.table-table.ensures.of_image _ c.measure.ensures _ c.in_ok-size.was);
    }

pub returns-clause-built : goal.returns-clause-built
returns-clause-built c =
    let t = c.table-table.ensures.of_image in
    (within-limit _ _ t _ c.measure.ensures _ c.in_ok-size.was, size-measured _ _ t _ c.measure.ensures _ c.in_ok-size.was, omega arith, rw c.table-table.ensures.nodes at c.write_table.ensures)

pub returns-clause-table : goal.returns-clause-table
returns-clause-table c = (started _ _ c.table-table.ensures.of_image _ _ _ (returns-clause-built c)).0

pub returns-clause-tree : goal.returns-clause-tree
returns-clause-tree c = (started _ _ c.table-table.ensures.of_image _ _ _ (returns-clause-built c)).1
