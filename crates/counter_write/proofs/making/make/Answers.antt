use Rattle.std.proofs.Common.{rules, IsOk}
use Rattle.counter_write.proofs.Ready.{after_looks, of_ok}
use Rattle.counter_write.proofs.making.make.Goals as goal

pub attempt-made-requires-clause-ready : goal.attempt-made-requires-clause-ready
attempt-made-requires-clause-ready g c = after_looks _ _ _ c.requires.ready c.table_size.ensures

pub attempt-requires-clause-ready : goal.attempt-requires-clause-ready
attempt-requires-clause-ready g c =
    let ok : IsOk c.attempt-made.result = search rules in
    of_ok _ c.attempt-made.result ok c.attempt-made.ensures
