-- `run::run_line` meets its contract: what is decided on is carried out.
use Rattle.std.proofs.Common.{ap}
use Rattle.std.proofs.lemmas.Result.{err_from_is_err_and}
use Rattle.edit.specs.Inner.Decision.{verdict_in}
use Rattle.sheet_run.proofs.LineRuns.{carries, made}
use Rattle.sheet_run.proofs.run.run_line.Goals as goal

pub finish-requires : goal.finish-requires
finish-requires c = rw c.decide_line-decided.auto.bytes (carries _ _ _ _ _ _ _ _ c.decide_line-decided.ensures).0

pub returns-in_err-finish : goal.returns-in_err-finish
returns-in_err-finish c =
    let p = err_from_is_err_and c.from_residual.result c.from_residual.ensures.1 in
    made _ _ _ _ _ _ _ _ _ _ _ _ c.decide_line-decided.ensures c.finish.ensures.image_after _ (rw (p.1, p.2) (ap verdict_in (rw c.in_err-finish.was at c.finish.ensures.answer)))

pub returns : goal.returns
returns c =
    made _ _ _ _ _ _ _ _ _ _ _ _ c.decide_line-decided.ensures c.finish.ensures.image_after _ (ap verdict_in (rw c.in_ok-finish.was at c.finish.ensures.answer))
