-- `record_text::push_record` meets its contract, by the two forms.
use Rattle.std.proofs.Common.{sym, ◌∙◌}
use Rattle.std.proofs.lemmas.Bool.{eqb-true, eqb-false}
use Rattle.listing.proofs.Joining.{appends-join, appends-as}
use Rattle.record_text.proofs.TextLaws.{record_text-bare, record_text-teams}
use Rattle.record_text.proofs.push_record.Goals as goal

pub returns-then-is_empty : goal.returns-then-is_empty
returns-then-is_empty c =
    appends-as (appends-join (appends-join c.push_beginning.ensures c.push_named.ensures) c.push.ensures)
    (record_text-bare c.args.teams.now c.args.totals.now (eqb-true _ _ (sym c.is_empty.ensures ∙ c.if-is_empty.true)))

pub returns : goal.returns
returns c =
    appends-as (appends-join (appends-join c.push_beginning-2.ensures c.push_count.ensures) c.push_teams.ensures)
    (record_text-teams c.args.teams.now c.args.totals.now (eqb-false _ _ (sym c.is_empty.ensures ∙ c.if-is_empty.false)))
