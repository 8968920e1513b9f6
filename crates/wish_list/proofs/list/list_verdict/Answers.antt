-- `wish_list::list::list_verdict` meets its contract.
use Rattle.std.proofs.Common.{sym, ◌∙◌}
use Rattle.std.proofs.lemmas.Result.{err_from_is_err_and}
use Rattle.wish_list.specs.Paths.{list_verdict}
use Rattle.wish_list.proofs.Judging.{ends-passed}
use Rattle.wish_list.proofs.list.list_verdict.Goals as goal

pub returns-in_err-ends_verdict : goal.returns-in_err-ends_verdict
unfolding list_verdict
returns-in_err-ends_verdict c =
    let p = err_from_is_err_and c.from_residual.result c.from_residual.ensures.1 in
    rw (p.1, p.2, ← c.ends_verdict.ensures, c.in_err-ends_verdict.was)

pub paths_verdict-requires : goal.paths_verdict-requires
paths_verdict-requires c = (ends-passed c.args.paths.now c.args.count (sym c.ends_verdict.ensures ∙ c.in_ok-ends_verdict.was)).1

pub returns : goal.returns
unfolding list_verdict
returns c = rw (← c.ends_verdict.ensures, c.in_ok-ends_verdict.was) c.paths_verdict.ensures
