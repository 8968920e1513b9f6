-- `edit::account::account` meets its contract: a refusal is handed on, and what is decided on is entered.
use Rattle.std.proofs.Common.{refl}
use Rattle.std.proofs.lemmas.Result.{err_from_is_err_and}
use Rattle.opened.proofs.Discs.{open_backed, lent_is}
use Rattle.edit.proofs.Entering.{settled}
use Rattle.edit.proofs.account.account.Goals as goal

pub returns-in_err-decision : goal.returns-in_err-decision
returns-in_err-decision c =
    let p = err_from_is_err_and c.from_residual.result c.from_residual.ensures.1 in
    rw (p.1, p.2) (record {
      words = c.disc.inside.words.now;
      count = c.disc.inside.used;
      long = lent_is _ _ _ _ _ c.disc.invariant _ c.disc.view_is;
      held = λ image m. open_backed _ _ _ _ _ c.disc.invariant _ c.disc.view_is image m;
      is = λ image m. rw c.in_err-decision.was refl;
    })

pub returns-in_err-move_on : goal.returns-in_err-move_on
returns-in_err-move_on c =
    let p = err_from_is_err_and c.from_residual-in_err-move_on.result c.from_residual-in_err-move_on.ensures.1 in
    let e = c.in_err-move_on.ensures in
    rw (p.1, p.2) (settled _ _ _ _ _ _ _ c.in_ok-decision.was c.change_of.ensures.change e.answer e.accepted e.refused)

pub returns : goal.returns
returns c =
    let e = c.in_ok-move_on.ensures in
    settled _ _ _ _ _ _ _ c.in_ok-decision.was c.change_of.ensures.change e.answer e.accepted e.refused
