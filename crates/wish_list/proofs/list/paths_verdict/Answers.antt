-- `wish_list::list::paths_verdict` meets its contract.
use Rattle.std.proofs.Common.{sym, ◌∙◌, length, take, drop, arith, ◌+◌, ◌-◌, ◌∷◌}
use Rattle.std.proofs.lemmas.Result.{err_from_is_err_and}
use Rattle.wish_list.proofs.Judging.{behind-first, left-next, judged-next, judged-stop, judged-end}
use Rattle.wish_list.proofs.list.paths_verdict.Goals as goal

pub returns-in_err-add_path : goal.returns-in_err-add_path
returns-in_err-add_path c =
    let p = err_from_is_err_and c.from_residual.result c.from_residual.ensures.1 in
    let j = c.loop.invariant.judged in
    rw (p.1, p.2) (sym (judged-stop c.loop.rest.now c.first_path-path.result.now _ c.first_path-path.ensures.first j.0 _ j.2 _ (sym (c.add_path.ensures.verdict j.0 j.1) ∙ c.in_err-add_path.was)))

pub loop-preserved : goal.loop-preserved
loop-preserved c =
    let rest = c.loop.rest.now in
    let path = c.first_path-path.result.now in
    let k = length path + 1 in
    let e = behind-first rest path k c.first_path-path.ensures.first in
    let j = c.loop.invariant.judged in
    record {
      left = left-next rest path (take (length rest - k) (drop k rest)) e c.loop.counter c.args.count c.loop.invariant.left;
      judged = (
        path ∷ j.0,
        c.in_ok-add_path.ensures.kept j.0 j.1,
        judged-next rest path (take (length rest - k) (drop k rest)) e j.0 _ j.2 (sym (c.add_path.ensures.verdict j.0 j.1) ∙ c.in_ok-add_path.was),
      );
    }

pub returns : goal.returns
returns c =
    let j = c.loop.invariant.judged in
    sym (judged-end j.0 c.loop.rest.now _ j.2 (omega (arith, c.loop.invariant.left)))
