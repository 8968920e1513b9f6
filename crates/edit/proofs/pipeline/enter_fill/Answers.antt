-- `pipeline::enter_fill` meets its contract: refused for the team, or what is decided on for each clip of that length, entered in the record.
use Rattle.std.specs.Prelude.{ℕ, List, replicate}
use Rattle.std.proofs.Common.{refl, arith}
use Rattle.std.proofs.lemmas.List.{length-replicate}
use Rattle.std.proofs.lemmas.Result.{err_from_is_err_and}
use Rattle.opened.proofs.Discs.{means_backed}
use Rattle.edit_rules.specs.Edits.{fill_file}
use Rattle.edit_rules.proofs.Laws.Puts.{zeros-all}
use Rattle.edit.proofs.Edited.{numbered, teamless}
use Rattle.edit.proofs.EditCases.{on_disc, edit-accounted}
use Rattle.edit.proofs.pipeline.enter_fill.Goals as goal

pub returns-in_err-charged : goal.returns-in_err-charged
returns-in_err-charged c =
    let p = err_from_is_err_and c.from_residual.result c.from_residual.ensures.1 in
    rw (p.1, p.2) (λ clip b l image m. teamless _ _ _ _ _ _ _ _ _ refl (rw c.in_err-charged.was at c.team_number.ensures.answer))

-- some clip has that length
pub account-requires-clause-on_disc : goal.account-requires-clause-on_disc
account-requires-clause-on_disc c =
    let clip : List ℕ = replicate c.args.clip_len 0 in
    let b = zeros-all c.args.clip_len in
    on_disc (fill_file c.args.file clip) _ _ (means_backed _ _ _ _ _ c.disc.invariant _ c.disc.view_is) _ c.fill-decided.new.bytes clip _ (record { decided = c.fill-decided.ensures clip b (length-replicate c.args.clip_len 0); passable = b }) (omega arith)

pub account-requires-clause-is_team : goal.account-requires-clause-is_team
account-requires-clause-is_team c = (numbered _ _ (rw c.in_ok-charged.was at c.team_number.ensures.answer)).2

pub returns : goal.returns
returns c = λ clip b l image m.
    edit-accounted (fill_file c.args.file clip) image _ m _ _ clip _ (record { decided = c.fill-decided.ensures clip b l; passable = b }) _ _ _ _ (rw c.in_ok-charged.was at c.team_number.ensures.answer) c.account.ensures (omega arith)
