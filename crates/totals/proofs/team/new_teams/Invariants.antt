-- `team::new_teams` meets its contract: the teams so far have their limits and their shares.
use Rattle.std.proofs.Common.{◌≡◌, ℕ, length, take, map, zip}
use Rattle.totals.specs.Totals.{new_team}
use Rattle.totals.proofs.team.new_teams.Given as goal

abbrev pub invariant-loop-k : goal.invariant-loop-k
invariant-loop-k l = (length l.teams ≡ 16) × (take l.k l.teams ≡ map (λ (p : ℕ × ℕ). new_team p.0 p.1) (take l.k (zip l.limits l.shares)))
