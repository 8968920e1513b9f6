-- `Row::write` meets its contract: six stores, one behind the other.
use native.Mathlib.Omega.{arith}
use Prim.Native.Nat.{◌*◌}
use Rattle.table.proofs.RowLaws.{stores-6}
use Rattle.table.proofs.rows.Row.write.Goals as goal

pub returns : goal.returns
returns c =
    let a = c.args in
    let r = a.self in
    stores-6 a.list.now (6 * a.k) r.kind r.parent r.offset r.last r.place r.size (omega arith)
