-- `team::new_teams` meets its contract: one more team, and all of them at the end.
use Rattle.std.proofs.Common.{sym, ◌∙◌, arith, ◌<◌, zip}
use Rattle.std.proofs.lemmas.List.{take_all, take_more_set, length-set, map_more}
use Rattle.std.proofs.lemmas.Slice.Zip.{get_or-zip, length-zip}
use Rattle.totals.specs.Totals.{new_team, new_teams}
use Rattle.totals.proofs.team.new_teams.Goals as goal

pub loop-k-preserved : goal.loop-k-preserved
loop-k-preserved c =
    let k = c.loop-k.k in
    let limits = c.args.limits.now in
    let shares = c.args.shares.now in
    let n = length-zip limits shares in
    let h : k < 16 = omega arith in
    let got = get_or-zip limits shares k (0, 0) (omega (arith, c.told-limits)) (omega (arith, c.told-shares)) in
    (length-set _ _ _ ∙ c.loop-k.invariant.0, take_more_set _ k _ (omega (arith, c.loop-k.invariant.0)) ∙ rw (c.loop-k.invariant.1, map_more (λ p. new_team p.0 p.1) (zip limits shares) k (0, 0) (omega (arith, n, c.told-limits, c.told-shares)), got, c.new.ensures))

pub returns : goal.returns
unfolding new_teams
returns c =
    let k = c.loop-k.k in
    let limits = c.args.limits.now in
    let shares = c.args.shares.now in
    let n = length-zip limits shares in
    sym (take_all k c.loop-k.teams (omega (arith, c.loop-k.invariant.0))) ∙ c.loop-k.invariant.1 ∙ rw (take_all k (zip limits shares) (omega (arith, n, c.told-limits, c.told-shares)))
