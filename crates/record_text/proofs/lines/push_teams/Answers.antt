-- `record_text::lines::push_teams` meets its contract: a line more at each turn, and all of them at last.
use Rattle.std.proofs.Common.{sym}
use Rattle.std.proofs.lemmas.List.{take_all}
use Rattle.listing.proofs.Joining.{appends-none, appends-join, appends-as}
use Rattle.record_text.proofs.TextLaws.{team_lines-none, team_lines-more}
use Rattle.record_text.proofs.lines.push_teams.Goals as goal

pub loop-listed-init : goal.loop-listed-init
loop-listed-init c = appends-as (appends-none c.args.text.now) (sym (team_lines-none c.args.totals.now))

pub loop-listed-preserved : goal.loop-listed-preserved
loop-listed-preserved c = appends-as (appends-join c.loop-listed.invariant (rw c.team_of.ensures at c.push_team.ensures)) (team_lines-more c.args.teams.now c.args.totals.now c.loop-listed.listed-index _ c.loop-listed-test.true)

pub returns : goal.returns
returns c = rw (take_all c.loop-listed.listed-index c.args.teams.now c.loop-listed-test.false) at c.loop-listed.invariant
