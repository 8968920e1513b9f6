-- `record_text::lines::push_teams` meets its contract. The invariant of its loop: the lines of so many teams are written.
use Rattle.std.proofs.Common.{take}
use Rattle.listing.specs.Inner.Writing.{Appends}
use Rattle.record_text.specs.Text.{team_lines}
use Rattle.record_text.proofs.lines.push_teams.Given as goal

abbrev pub invariant-loop-listed : goal.invariant-loop-listed
invariant-loop-listed l = Appends l.fn.text l.text (team_lines (take l.listed-index l.teams) l.totals)
