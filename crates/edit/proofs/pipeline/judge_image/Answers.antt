-- `pipeline::judge_image` meets its contract: what is judged is decided on with a table drafted in some bytes, and entered in a copy of the record.
use Rattle.std.specs.Prelude.{[]}
use Rattle.std.proofs.Common.{refl}
use Rattle.std.proofs.lemmas.Result.{err_from_is_err_and}
use Rattle.edit.proofs.Edited.{numbered, unopened, teamless}
use Rattle.edit.proofs.EditCases.{opened-accounted, judged-on-disc, judged-accounted}
use Rattle.edit.proofs.pipeline.judge_image.Goals as goal

pub returns-in_err-disc-clause-foreseen : goal.returns-in_err-disc-clause-foreseen
returns-in_err-disc-clause-foreseen c =
    let p = err_from_is_err_and c.from_residual.result c.from_residual.ensures.1 in
    rw (p.1, p.2) (record { bytes = []; totals = c.args.totals.now; accounted = unopened _ _ _ _ _ _ [] _ _ refl (rw c.in_err-disc.was at c.of_image.ensures) })

pub returns-in_err-charged-clause-foreseen : goal.returns-in_err-charged-clause-foreseen
returns-in_err-charged-clause-foreseen c =
    let p = err_from_is_err_and c.from_residual-in_err-charged.result c.from_residual-in_err-charged.ensures.1 in
    rw (p.1, p.2) (record { bytes = []; totals = c.args.totals.now; accounted = opened-accounted _ _ _ _ c.in_ok-disc.ensures _ _ _ _ _ _ (teamless _ _ _ _ _ _ [] _ _ refl (rw c.in_err-charged.was at c.team_number.ensures.answer)) })

pub account-requires-clause-on_disc : goal.account-requires-clause-on_disc
account-requires-clause-on_disc c = judged-on-disc _ _ _ _ c.in_ok-disc.ensures _ _ c.judge-judged.ensures c.passable.ensures.passable

pub account-requires-clause-is_team : goal.account-requires-clause-is_team
account-requires-clause-is_team c = (numbered _ _ (rw c.in_ok-charged.was at c.team_number.ensures.answer)).2

pub returns-clause-foreseen : goal.returns-clause-foreseen
returns-clause-foreseen c =
    judged-accounted _ _ _ _ c.in_ok-disc.ensures _ _ c.judge-judged.ensures c.passable.ensures.passable _ _ _ _ _ (rw c.in_ok-charged.was at c.team_number.ensures.answer) c.account.ensures
