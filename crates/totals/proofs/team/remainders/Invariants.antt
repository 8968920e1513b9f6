-- `team::remainders` meets its contract: the sum over the teams so far.
use Rattle.std.proofs.Common.{◌≡◌, ◌≤◌, ◌*◌, ◌^◌, take}
use Rattle.totals.specs.Totals.{remainders}
use Rattle.totals.proofs.team.remainders.Given as goal

abbrev pub invariant-loop-team : goal.invariant-loop-team
invariant-loop-team l = (l.sum ≡ remainders (take l.team-index l.teams)) × (l.sum ≤ l.team-index * 2 ^ 32)
