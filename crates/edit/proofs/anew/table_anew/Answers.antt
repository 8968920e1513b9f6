-- `edit::anew::table_anew` meets its contract: refused by opening, or as the table of the disc that was opened comes out.
use Rattle.std.proofs.lemmas.Result.{err_from_is_err_and}
use Rattle.edit.proofs.AnewLaws.{unopened-answer, unopened-buffer, unbuilt-answer, unbuilt-buffer, built-small, built-answer, built-buffer}
use Rattle.edit.proofs.anew.table_anew.Goals as goal

pub returns-in_err-disc-clause-answer : goal.returns-in_err-disc-clause-answer
returns-in_err-disc-clause-answer c =
    let p = err_from_is_err_and c.from_residual.result c.from_residual.ensures.1 in
    rw (p.1, p.2, ← c.new-lent.ensures.memory) (unopened-answer _ _ _ c.of_image.ensures c.args.table.now _ c.in_err-disc.was)

pub returns-in_err-disc-clause-table_after : goal.returns-in_err-disc-clause-table_after
returns-in_err-disc-clause-table_after c =
    rw (← c.new-lent.ensures.memory) (unopened-buffer _ _ _ c.of_image.ensures c.args.table.now _ c.in_err-disc.was)

pub returns-in_err-size-clause-answer : goal.returns-in_err-size-clause-answer
returns-in_err-size-clause-answer c =
    let p = err_from_is_err_and c.from_residual-in_err-size.result c.from_residual-in_err-size.ensures.1 in
    rw (p.1, p.2, ← c.new-lent.ensures.memory)
    (unbuilt-answer _ _ _ c.of_image.ensures c.args.table.now _ c.in_ok-disc.was _ _ c.start_table.ensures.built _ c.in_err-size.was)

pub returns-in_err-size-clause-table_after : goal.returns-in_err-size-clause-table_after
returns-in_err-size-clause-table_after c =
    rw (← c.new-lent.ensures.memory)
    (unbuilt-buffer _ _ _ c.of_image.ensures c.args.table.now _ c.in_ok-disc.was _ _ c.start_table.ensures.built _ c.in_err-size.was c.in_err-size.ensures.kept)

pub overflow_cast-result : goal.overflow_cast-result
overflow_cast-result c = record { fits = built-small _ _ _ c.of_image.ensures c.args.table.now _ c.in_ok-disc.was _ _ c.start_table.ensures.built _ c.in_ok-size.was }

pub returns-clause-answer : goal.returns-clause-answer
returns-clause-answer c =
    rw (← c.new-lent.ensures.memory) (built-answer _ _ _ c.of_image.ensures c.args.table.now _ c.in_ok-disc.was _ _ c.start_table.ensures.built _ c.in_ok-size.was)

pub returns-clause-table_after : goal.returns-clause-table_after
returns-clause-table_after c =
    rw (← c.new-lent.ensures.memory) (built-buffer _ _ _ c.of_image.ensures c.args.table.now _ c.in_ok-disc.was _ _ c.start_table.ensures.built _ c.in_ok-size.was)
