-- `team::kept_for_others` meets its contract: the teams before that one, and those behind it.
use Rattle.std.proofs.Common.{sym, arith, ℕ, ◌+◌, ◌-◌, ◌≡◌, List, length, take, drop}
use Rattle.std.proofs.lemmas.List.{take_all, length-drop}
use Rattle.std.proofs.lemmas.List.Sums.{sum_by-append}
use Rattle.totals.specs.declared.team.Team.{Team}
use Rattle.totals.specs.Totals.{remainder, remainders, others}
use Rattle.totals.proofs.team.kept_for_others.Goals as goal

-- the teams before k and those from j on
apart : (teams : List Team) (k j a b : ℕ) → a ≡ remainders (take k teams) → b ≡ remainders (take (length teams - j) (drop j teams)) → j ≡ k + 1 → a + b ≡ remainders (others teams k)
unfolding remainders
apart teams k j a b p q e =
    let behind : take (length teams - j) (drop j teams) ≡ drop j teams = take_all _ _ (omega (arith, length-drop j teams)) in
    rw (p, q, behind, e) (sym (sum_by-append remainder (take k teams) (drop (k + 1) teams)))

pub returns : goal.returns
returns c = apart c.args.teams.now c.args.team _ _ _ c.remainders.ensures.sum c.remainders-2.ensures.sum (omega arith)
