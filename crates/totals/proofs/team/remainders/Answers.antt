-- `team::remainders` meets its contract: one more team.
use Rattle.std.proofs.Common.{arith, ◌≡◌, ◌<◌, ◌≤◌, ◌+◌, ◌*◌, ◌^◌, ℕ, List, length, get_or, take, sym}
use Rattle.std.proofs.lemmas.List.Sums.{sum_by_more}
use Rattle.totals.specs.declared.team.Team.{Team}
use Rattle.totals.specs.Totals.{new_team, remainder, remainders}
use Rattle.totals.proofs.team.remainders.Goals as goal

-- the sum of the first i teams, and of one more
more : (teams : List Team) (i sum next : ℕ) → (sum ≡ remainders (take i teams)) × (sum ≤ i * 2 ^ 32) → i < length teams → next ≡ sum + remainder (get_or teams i (new_team 0 0)) → next ≤ sum + 2 ^ 32 →
    (next ≡ remainders (take (i + 1) teams)) × (next ≤ (i + 1) * 2 ^ 32)
unfolding remainders
more teams i sum next (s, b) h e small = (rw (e, s) (sym (sum_by_more remainder teams i (new_team 0 0) h)), omega (arith, small, b))

pub loop-team-preserved : goal.loop-team-preserved
loop-team-preserved c = more c.args.teams.now c.loop-team.team-index c.loop-team.sum _ c.loop-team.invariant c.loop-team-test.true (omega arith) (omega arith)
