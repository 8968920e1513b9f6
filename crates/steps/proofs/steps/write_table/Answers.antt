-- `steps::write_table` meets its contract: the table written is the plan's, and so is what is left to be zeroed.
use Rattle.std.proofs.Common.{rules}
use Rattle.std.proofs.lemmas.Result.{err_from_is_err_and}
use Rattle.steps.proofs.Called.{wrote-table, only-tabled, span-told, on-disc, not-told}
use Rattle.steps.proofs.steps.write_table.Goals as goal

pub returns-in_err-lost-clause-written : goal.returns-in_err-lost-clause-written
returns-in_err-lost-clause-written c =
    let p = err_from_is_err_and c.from_residual.result c.from_residual.ensures.1 in
    rw (p.1, p.2)
    (wrote-table _ c.table_part.ensures.place_edit _ _ _ _ _ _ c.new-words.ensures.memory c.new-bytes.ensures.memory _ c.of_bytes.ensures _ _ _ _ c.table_part.ensures.written _ _ (search rules) (search rules) _
    (not-told _ c.table_part.ensures.place_edit _ _ _ _ _ _ c.new-words.ensures.memory c.new-bytes.ensures.memory _ c.of_bytes.ensures _ _ _ _ c.table_part.ensures.written _ c.in_err-lost.was))

pub returns-in_err-lost-clause-own_part : goal.returns-in_err-lost-clause-own_part
returns-in_err-lost-clause-own_part c = only-tabled _ c.table_part.ensures.place_edit _ _ _ _ _ _ c.new-words.ensures.memory c.new-bytes.ensures.memory _ c.of_bytes.ensures _ _ _ _ c.table_part.ensures.written

pub region-requires : goal.region-requires
region-requires c = on-disc _ c.table_part.ensures.place_edit _ _ _ _ _ _ c.new-words.ensures.memory c.new-bytes.ensures.memory _ c.of_bytes.ensures _ _ _ _ c.table_part.ensures.written _ c.in_ok-lost.was

pub returns-clause-written : goal.returns-clause-written
returns-clause-written c =
    rw c.region.ensures
    (wrote-table _ c.table_part.ensures.place_edit _ _ _ _ _ _ c.new-words.ensures.memory c.new-bytes.ensures.memory _ c.of_bytes.ensures _ _ _ _ c.table_part.ensures.written _ _ (search rules) (search rules) _
    (span-told _ c.table_part.ensures.place_edit _ _ _ _ _ _ c.new-words.ensures.memory c.new-bytes.ensures.memory _ c.of_bytes.ensures _ _ _ _ c.table_part.ensures.written _ c.in_ok-lost.was))

pub returns-clause-own_part : goal.returns-clause-own_part
returns-clause-own_part c = only-tabled _ c.table_part.ensures.place_edit _ _ _ _ _ _ c.new-words.ensures.memory c.new-bytes.ensures.memory _ c.of_bytes.ensures _ _ _ _ c.table_part.ensures.written
