-- `Growing::grow` meets its contract: past a limit, too long, or the old table with the new entry put in.
use Rattle.std.proofs.lemmas.Result.{err_from_is_err_and}
use Rattle.table_writing.proofs.GrowthLaws.{past-cause, past-never, name-fits, grown-size-fits, short-built, may-insert, inserted-built, inserted-number, inserted-stands, inserted-tree}
use Rattle.table_writing.proofs.growing.Growing.grow.Goals as goal

pub returns-in_err-check_limits-clause-built : goal.returns-in_err-check_limits-clause-built
returns-in_err-check_limits-clause-built c =
    let p = err_from_is_err_and c.from_residual.result c.from_residual.ensures.1 in
    rw (p.1, p.2) (past-cause _ _ _ c.in_err-check_limits.ensures, past-never _ _ _ _ c.in_err-check_limits.ensures)

pub overflow_add-grown-2 : goal.overflow_add-grown-2
overflow_add-grown-2 c = search (name-fits, c.in_ok-check_limits.ensures)

pub overflow_add-grown-3 : goal.overflow_add-grown-3
overflow_add-grown-3 c = search (grown-size-fits, c.in_ok-check_limits.ensures)

pub returns-then-self-grown-clause-built : goal.returns-then-self-grown-clause-built
returns-then-self-grown-clause-built c = search short-built

pub insert-number-requires : goal.insert-number-requires
insert-number-requires c = search (may-insert, c.in_ok-check_limits.ensures)

pub returns-clause-built : goal.returns-clause-built
returns-clause-built c = search (inserted-built, c.in_ok-check_limits.ensures)

pub returns-clause-number : goal.returns-clause-number
returns-clause-number c = search (inserted-number, c.in_ok-check_limits.ensures)

pub invariant_of-self : goal.invariant_of-self
invariant_of-self c = record { stands = search (inserted-stands, c.in_ok-check_limits.ensures) }

pub returns-clause-tree : goal.returns-clause-tree
returns-clause-tree c = search (inserted-tree, c.in_ok-check_limits.ensures)
