-- `pipeline::enter` meets its contract: refused for the team, or what is decided on, entered in the record.
use Rattle.std.proofs.Common.{refl, arith}
use Rattle.std.proofs.lemmas.Result.{err_from_is_err_and}
use Rattle.opened.proofs.Discs.{means_backed}
use Rattle.edit.proofs.Edited.{numbered, teamless}
use Rattle.edit.proofs.EditCases.{on_disc, edit-accounted}
use Rattle.edit.proofs.pipeline.enter.Goals as goal

pub returns-in_err-team-clause-entered : goal.returns-in_err-team-clause-entered
returns-in_err-team-clause-entered c =
    let p = err_from_is_err_and c.from_residual.result c.from_residual.ensures.1 in
    rw (p.1, p.2) (λ image m. teamless _ _ _ _ _ _ _ _ _ refl (rw c.in_err-team.was at c.team_number.ensures.answer))

pub account-requires : goal.account-requires
account-requires c = record {
  on_disc = on_disc _ _ _ (means_backed _ _ _ _ _ c.disc.invariant _ c.disc.view_is) _ _ _ _ c.decide-decided.ensures (omega arith);
  is_team = (numbered _ _ (rw c.in_ok-team.was at c.team_number.ensures.answer)).2;
}

pub returns-clause-entered : goal.returns-clause-entered
returns-clause-entered c = λ image m.
    edit-accounted _ image _ m _ _ _ _ c.decide-decided.ensures _ _ _ _ (rw c.in_ok-team.was at c.team_number.ensures.answer) c.account.ensures (omega arith)
