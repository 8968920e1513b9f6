-- `Totals::move_on` meets its contract: the team that the tests go by is the edit's own.
use Rattle.std.specs.Prelude.{Result, ℕ, ◌≡◌, List, slice_index_or}
use Rattle.std.proofs.Common.{ap, ◌∙◌, arith, rules}
use Rattle.refusal.specs.declared.Refusal.{Refusal}
use Rattle.totals.specs.declared.team.Team.{Team}
use Rattle.totals.specs.Inner.Moving.{edits_after}
use Rattle.totals.specs.Totals.{new_team, totals_verdict}
use Rattle.totals.proofs.Totals.move_on.Goals as goal

-- 25 goes by the count of team i, which is k
own-count : (teams : List Team) (i k : ℕ) (r : Result ℕ Refusal) → r ≡ edits_after (slice_index_or teams i (new_team 0 0)) → i ≡ k → r ≡ edits_after (slice_index_or teams k (new_team 0 0))
own-count teams i k r h e = h ∙ ap (λ j. edits_after (slice_index_or teams j (new_team 0 0))) e

pub returns-clause-answer : goal.returns-clause-answer
unfolding totals_verdict
returns-clause-answer c =
    let count = own-count c.args.self.now.teams _ c.args.team _ c.edits_after.ensures (omega arith) in
    search rules
