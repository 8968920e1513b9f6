-- `Master::judge` meets its contract. Assumes nothing.
use Rattle.std.specs.Prelude.{Ok, ◌≡◌, ◌+◌, true, false, []}
use Rattle.std.proofs.Common.{arith, sym}
use Rattle.std.proofs.lemmas.Result.{err_from_is_err_and}
use Rattle.tree.specs.Table.{limits}
use Rattle.placement.specs.Placement.{is_placeable}
use Rattle.master.specs.Master.{nodes_at, table_size}
use Rattle.master.specs.Asked.{master_of}
use Rattle.master.proofs.Judging.{refused-list, refused-limits, refused-bytes, refused-room, refused-place, granted, Few, few}
use Rattle.master.proofs.Master.judge.Goals as goal
use Rattle.master.proofs.Master.judge.Goals.{then-bytes-size-via-then-bytes-size, then-bytes-size-via-else-bytes-size+then-room-self}

pub returns-in_err-list-clause-refused : goal.returns-in_err-list-clause-refused
returns-in_err-list-clause-refused c =
    let p = err_from_is_err_and c.from_residual.result c.from_residual.ensures.1 in
    rw (p.1, p.2) (refused-list (master_of c.args.self) c.args.room c.args.words c.args.bytes _ c.in_err-list.ensures.refused)

pub returns-in_err-table-clause-refused : goal.returns-in_err-table-clause-refused
returns-in_err-table-clause-refused c =
    let p = err_from_is_err_and c.from_residual-in_err-table.result c.from_residual-in_err-table.ensures.1 in
    rw (p.1, p.2)
    (refused-limits (master_of c.args.self) c.args.room c.args.words c.args.bytes c.in_ok-list.ensures.accepted _ (rw (c.in_ok-list.ensures.paths, c.in_ok-list.ensures.sizes) at c.in_err-table.ensures.err))

pub returns-then-bytes-size-clause-refused : goal.returns-then-bytes-size-clause-refused
returns-then-bytes-size-clause-refused c =
    let m = master_of c.args.self in
    let limited : limits (nodes_at m []) c.args.words ≡ Ok tt = rw (c.in_ok-list.ensures.paths, c.in_ok-list.ensures.sizes) at c.in_ok-table.ensures.ok in
    let size : c.size-size.result ≡ table_size m = rw (c.in_ok-table.ensures.list, c.in_ok-table.ensures.sizes, c.in_ok-list.ensures.paths, c.in_ok-list.ensures.sizes) at c.size-size.ensures in
    elim c.then-bytes-size.branch [
      | then-bytes-size-via-then-bytes-size w ↦ refused-bytes m c.args.room c.args.words c.args.bytes c.in_ok-list.ensures.accepted limited (omega arith)
      | then-bytes-size-via-else-bytes-size+then-room-self w ↦ refused-room m c.args.room c.args.words c.args.bytes c.in_ok-list.ensures.accepted limited (omega arith) (omega arith)
    ]

pub overflow_add-table_end : goal.overflow_add-table_end
overflow_add-table_end c =
    let m = master_of c.args.self in
    let limited : limits (nodes_at m []) c.args.words ≡ Ok tt = rw (c.in_ok-list.ensures.paths, c.in_ok-list.ensures.sizes) at c.in_ok-table.ensures.ok in
    let size : c.size-size.result ≡ table_size m = rw (c.in_ok-table.ensures.list, c.in_ok-table.ensures.sizes, c.in_ok-list.ensures.paths, c.in_ok-list.ensures.sizes) at c.size-size.ensures in
    let n : Few m c.args.words = few m c.args.words c.in_ok-list.ensures.accepted limited in
    omega (arith, n.table)

pub overflow_cast-table_end : goal.overflow_cast-table_end
overflow_cast-table_end c =
    let m = master_of c.args.self in
    let limited : limits (nodes_at m []) c.args.words ≡ Ok tt = rw (c.in_ok-list.ensures.paths, c.in_ok-list.ensures.sizes) at c.in_ok-table.ensures.ok in
    let size : c.size-size.result ≡ table_size m = rw (c.in_ok-table.ensures.list, c.in_ok-table.ensures.sizes, c.in_ok-list.ensures.paths, c.in_ok-list.ensures.sizes) at c.size-size.ensures in
    let n : Few m c.args.words = few m c.args.words c.in_ok-list.ensures.accepted limited in
    omega (arith, n.table)

pub is_placeable-requires : goal.is_placeable-requires
is_placeable-requires c =
    let m = master_of c.args.self in
    let limited : limits (nodes_at m []) c.args.words ≡ Ok tt = rw (c.in_ok-list.ensures.paths, c.in_ok-list.ensures.sizes) at c.in_ok-table.ensures.ok in
    let size : c.size-size.result ≡ table_size m = rw (c.in_ok-table.ensures.list, c.in_ok-table.ensures.sizes, c.in_ok-list.ensures.paths, c.in_ok-list.ensures.sizes) at c.size-size.ensures in
    let n : Few m c.args.words = few m c.args.words c.in_ok-list.ensures.accepted limited in
    n.files

pub returns-then-not-is_placeable-clause-refused : goal.returns-then-not-is_placeable-clause-refused
returns-then-not-is_placeable-clause-refused c =
    let m = master_of c.args.self in
    let limited : limits (nodes_at m []) c.args.words ≡ Ok tt = rw (c.in_ok-list.ensures.paths, c.in_ok-list.ensures.sizes) at c.in_ok-table.ensures.ok in
    let size : c.size-size.result ≡ table_size m = rw (c.in_ok-table.ensures.list, c.in_ok-table.ensures.sizes, c.in_ok-list.ensures.paths, c.in_ok-list.ensures.sizes) at c.size-size.ensures in
    let placed : is_placeable (0x440 + c.size-size.result) c.args.self.disc_end c.args.self.sizes.now ≡ false = sym c.if-not-is_placeable.ensures in
    refused-place m c.args.room c.args.words c.args.bytes c.in_ok-list.ensures.accepted limited (omega arith) (omega arith) (rw size at placed)

pub returns-clause-granted : goal.returns-clause-granted
returns-clause-granted c =
    let m = master_of c.args.self in
    let limited : limits (nodes_at m []) c.args.words ≡ Ok tt = rw (c.in_ok-list.ensures.paths, c.in_ok-list.ensures.sizes) at c.in_ok-table.ensures.ok in
    let size : c.size-size.result ≡ table_size m = rw (c.in_ok-table.ensures.list, c.in_ok-table.ensures.sizes, c.in_ok-list.ensures.paths, c.in_ok-list.ensures.sizes) at c.size-size.ensures in
    let placed : is_placeable (0x440 + c.size-size.result) c.args.self.disc_end c.args.self.sizes.now ≡ true = sym c.if-not-is_placeable.ensures in
    granted m c.args.room c.args.words c.args.bytes c.in_ok-list.ensures.accepted limited (omega arith) (omega arith) (rw size at placed)
