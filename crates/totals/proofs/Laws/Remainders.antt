-- What all teams have not yet taken of their shares stays within the free bytes from edit to edit, and so an edit within its own team's
-- share never meets 28. Assumes nothing.
use Rattle.std.specs.Prelude.{ℕ, suc, ◌+◌, ◌-◌, ◌^◌, ◌<◌, ◌≤◌, ◌≡◌, refl, Ok, Err, List, [], ◌∷◌, length, take, drop, sum_by, slice_set, slice_index_or, Bool, true, false, nat_lt}
use Rattle.std.proofs.Common.{ap, ⊎_elim, arith, le-ltb}
use Rattle.std.proofs.lemmas.List.{take_all, drop_all, set_past, get_or_past}
use Rattle.std.proofs.lemmas.List.Sums.{sum_by-append, sum_by-cons, sum_by-take-drop, sum_by-drop_more, sum_by-set}
use Rattle.refusal.specs.Laws.Tests.{lt-or-le}
use Rattle.refusal.specs.declared.Refusal.TheVariants.{TotalsOutOfRange, TakenAboveLimit, FreeBelowShares}
use Rattle.refusal.specs.Refusal.{number_of, refuse}
use Rattle.totals.specs.declared.team.Team.{Team}
use Rattle.totals.specs.declared.Totals.{Totals}
use Rattle.totals.specs.declared.SpaceChange.{SpaceChange}
use Rattle.totals.specs.Totals.{new_team, team_of, remainder, remainders, others, charged_team, totals_verdict, moved_totals}
use Rattle.totals.proofs.Laws.Passed.{passed}

-- the sum over all teams
abbrev pub all_remainders : List Team → ℕ
all_remainders teams = sum_by (λ m. m.share - m.taken) teams

-- LAW: the other teams' and the team's own; none where there is no such team
pub remainders-split : (teams : List Team) (k : ℕ) → all_remainders teams ≡ remainders (others teams k) + remainder (slice_index_or teams k (new_team 0 0))
unfolding remainders
remainders-split teams k = ⊎_elim within past (lt-or-le k (length teams))
  where
    within : k < length teams → all_remainders teams ≡ all_remainders (others teams k) + remainder (slice_index_or teams k (new_team 0 0))
    within h = omega (arith, sum_by-append remainder (take k teams) (drop (k + 1) teams), sum_by-take-drop remainder teams k, sum_by-drop_more remainder teams k (new_team 0 0) h)

    past : length teams ≤ k → all_remainders teams ≡ all_remainders (others teams k) + remainder (slice_index_or teams k (new_team 0 0))
    past h = omega (arith, sum_by-append remainder (take k teams) (drop (k + 1) teams), ap all_remainders (take_all k teams h), ap all_remainders (drop_all (k + 1) teams (omega arith)), ap remainder (get_or_past teams k (new_team 0 0) h))

-- o is what is kept for the others, s the team's share, t what it has taken
kept-step : (o s t a b f f₀ : ℕ) → o + (s - t) ≤ f₀ → f₀ + b ≡ f + a → o ≤ f → o + (s - (t + a - b)) ≤ f
kept-step o s t a b f f₀ h e p = omega arith

share-step : (o s t a b f f₀ : ℕ) → o + (s - t) ≤ f₀ → f₀ + b ≡ f + a → t + a ≤ s + b → o ≤ f
share-step o s t a b f f₀ h e p = omega arith

-- an edit of team k that leaves x.free of the free bytes
module _ (t : Totals) (k : ℕ) (x : SpaceChange) (free : ℕ) (held : all_remainders t.teams ≤ free) (moves : free + x.before ≡ x.free + x.after) where
  abbrev kept : ℕ
  kept = remainders (others t.teams k)

  before : kept + remainder (team_of t k) ≤ free
  before = omega (arith, held, remainders-split t.teams k)

  -- LAW: accepted, it leaves at least what all teams have not yet taken of their shares
  pub remainders-kept : totals_verdict t k x ≡ Ok tt → all_remainders (moved_totals t k x).teams ≤ x.free
  unfolding moved_totals
  remainders-kept e = ⊎_elim within past (lt-or-le k (length t.teams))
    where
      passed-28 : kept ≤ x.free
      passed-28 = (passed t k x e).kept-for-others

      moved : List Team
      moved = slice_set t.teams k (charged_team (team_of t k) x)

      within : k < length t.teams → all_remainders moved ≤ x.free
      within h =
          let split = remainders-split t.teams k in
          let set = sum_by-set remainder t.teams k (charged_team (team_of t k) x) (new_team 0 0) h in
          let step = kept-step kept (team_of t k).share (team_of t k).taken x.after x.before x.free free before moves passed-28 in
          omega (arith, split, set, step)

      past : length t.teams ≤ k → all_remainders moved ≤ x.free
      past h = omega (arith, remainders-split t.teams k, ap all_remainders (set_past t.teams k (charged_team (team_of t k) x) h), ap remainder (get_or_past t.teams k (new_team 0 0) h), passed-28)

  -- what the team has taken and what the edit costs are within its share
  module _ (within : (team_of t k).taken + x.after ≤ (team_of t k).share + x.before) where
    pub kept-in-share : kept ≤ x.free
    kept-in-share = share-step kept (team_of t k).share (team_of t k).taken x.after x.before x.free free before moves within

    -- LAW: then it does not meet 28
    pub not-28 : totals_verdict t k x ≡ Err FreeBelowShares → ⊥
    unfolding totals_verdict
    not-28 e = go (nat_lt ((team_of t k).limit + x.before) ((team_of t k).taken + x.after)) (nat_lt (t.used + x.after) x.before) (nat_lt (2 ^ 32 - 1) (t.used + x.after - x.before)) (nat_lt (2 ^ 32 - 1) ((team_of t k).edits + 1)) (rw (le-ltb x.free kept kept-in-share) at e)
      where
        go : (over short below above : Bool) → refuse over TakenAboveLimit (refuse short TotalsOutOfRange (refuse below TotalsOutOfRange (refuse above TotalsOutOfRange (Ok tt)))) ≡ Err FreeBelowShares → ⊥
        go true a b c q = let z : number_of TakenAboveLimit ≡ number_of FreeBelowShares = cc in absurd (omega arith)
        go false true b c q = let z : number_of TotalsOutOfRange ≡ number_of FreeBelowShares = cc in absurd (omega arith)
        go false false true c q = let z : number_of TotalsOutOfRange ≡ number_of FreeBelowShares = cc in absurd (omega arith)
        go false false false true q = let z : number_of TotalsOutOfRange ≡ number_of FreeBelowShares = cc in absurd (omega arith)
        go false false false false q = let z : ◌≡◌ {A = ℕ} 0 1 = cc in absurd (omega arith)

-- LAW: where no team has taken anything, all shares
pub all-left : (teams : List Team) → ((k : ℕ) → (slice_index_or teams k (new_team 0 0)).taken ≡ 0) → all_remainders teams ≡ sum_by (λ m. m.share) teams
all-left [] h = refl
all-left (m ∷ teams) h =
    let none : m.taken ≡ 0 = h 0 in
    omega (arith, sum_by-cons remainder m teams, sum_by-cons (λ (m : Team). m.share) m teams, none, all-left teams (λ k. h (suc k)))
