-- The totals record: used bytes, the largest free region's size, and the teams. The tests that an edit ends with, 27, 28 and 25, and the
-- record moved on by an accepted one (RULES, The totals record). Assumes nothing: these are definitions.
use Rattle.std.specs.Prelude.{ℕ, ◌+◌, ◌-◌, ◌^◌, List, ◌++◌, Ok, nat_lt, nat_le, map, zip, take, drop, sum_by, slice_set, slice_index_or}
use Rattle.std.specs.Prelude.{Result}
use Rattle.std.specs.Result.{result_and}
use Rattle.refusal.specs.declared.Refusal.{Refusal}
use Rattle.refusal.specs.Refusal.{Verdict, refuse}
use Rattle.refusal.specs.declared.Refusal.TheVariants.{NoSuchEntry, TotalsOutOfRange, TakenAboveLimit, FreeBelowShares}
use Rattle.totals.specs.declared.team.Team.{Team}
use Rattle.totals.specs.declared.SpaceChange.{SpaceChange}
use Rattle.totals.specs.declared.Totals.{Totals}

-- ---- teams

-- one that has taken nothing
abbrev pub new_team : ℕ → ℕ → Team
new_team limit share = record { limit = limit; share = share; taken = 0; edits = 0 }

-- team k has the k-th limit and the k-th share
unfoldable pub new_teams : List ℕ → List ℕ → List Team
new_teams limits shares = map (λ p. new_team p.0 p.1) (zip limits shares)

abbrev pub team_of : Totals → ℕ → Team
team_of t k = slice_index_or t.teams k (new_team 0 0)

-- what a team has not yet taken of its share; 0 where it has taken more
abbrev pub remainder : Team → ℕ
remainder m = m.share - m.taken

unfoldable pub remainders : List Team → ℕ
remainders teams = sum_by remainder teams

-- the teams but team k
abbrev pub others : List Team → ℕ → List Team
others teams k = take k teams ++ drop (k + 1) teams

-- ---- what an edit of team k must pass

-- 15: teams are numbered 0 to 15
unfoldable pub team_verdict : ℕ → Verdict
team_verdict k = refuse (nat_le 16 k) NoSuchEntry (Ok tt)

-- its number as an index
abbrev pub numbered_team : ℕ → Result ℕ Refusal
numbered_team k = result_and (team_verdict k) (Ok k)

-- 27 for what it has taken, 28 for the others' shares, 25 for used bytes and its count of edits; an edit costs `after` - `before`, which may be below 0
unfoldable pub totals_verdict : Totals → ℕ → SpaceChange → Verdict
totals_verdict t k change =
    refuse (nat_lt ((team_of t k).limit + change.before) ((team_of t k).taken + change.after)) TakenAboveLimit
    (refuse (nat_lt change.free (remainders (others t.teams k))) FreeBelowShares
    (refuse (nat_lt (t.used + change.after) change.before) TotalsOutOfRange
    (refuse (nat_lt (2 ^ 32 - 1) (t.used + change.after - change.before)) TotalsOutOfRange
    (refuse (nat_lt (2 ^ 32 - 1) ((team_of t k).edits + 1)) TotalsOutOfRange
    (Ok tt)))))

-- ---- the record after an accepted edit of team k

-- what it has taken goes by the cost, down to 0 at least
abbrev pub charged_team : Team → SpaceChange → Team
charged_team m change = record { limit = m.limit; share = m.share; taken = m.taken + change.after - change.before; edits = m.edits + 1 }

-- used bytes move by as much as the image's; the other teams stay
unfoldable pub moved_totals : Totals → ℕ → SpaceChange → Totals
moved_totals t k change = record {
  used = t.used + change.after - change.before;
  largest = change.largest;
  teams = slice_set t.teams k (charged_team (team_of t k) change);
}
