-- Teams that have taken nothing, and a team without a limit beside others that keep nothing. Assumes nothing.
use Rattle.std.specs.Prelude.{ℕ, ◌+◌, ◌-◌, ◌^◌, ◌<◌, ◌≤◌, ◌≡◌, refl, min, Ok, List, [], ◌∷◌, length, zip, sum, sum_by, slice_index_or}
use Rattle.std.proofs.Common.{ap, ◌∙◌, ⊎_elim, arith}
use Rattle.std.proofs.lemmas.List.{length-map, get_or-map, get_or_past}
use Rattle.std.proofs.lemmas.List.Sums.{sum_by-cons}
use Rattle.std.proofs.lemmas.Slice.Zip.{get_or-zip, length-zip}
use Rattle.refusal.specs.Laws.Tests.{lt-or-le}
use Rattle.totals.specs.declared.team.Team.{Team}
use Rattle.totals.specs.declared.Totals.{Totals}
use Rattle.totals.specs.declared.SpaceChange.{SpaceChange}
use Rattle.totals.specs.Totals.{new_team, new_teams, team_of, others, remainders, totals_verdict}
use Rattle.totals.proofs.Laws.Passed.{passes}

abbrev made : ℕ × ℕ → Team
made p = new_team p.0 p.1

module _ (limits shares : List ℕ) where
  pub new-length : length (new_teams limits shares) ≡ min (length limits) (length shares)
  unfolding new_teams
  new-length = length-map (zip limits shares) made ∙ length-zip limits shares

  -- LAW: team k has the k-th limit and the k-th share
  pub new-team : (k : ℕ) → k < length limits → k < length shares → slice_index_or (new_teams limits shares) k (new_team 0 0) ≡ new_team (slice_index_or limits k 0) (slice_index_or shares k 0)
  unfolding new_teams
  new-team k l s = get_or-map made (zip limits shares) k (0, 0) (new_team 0 0) (omega (arith, length-zip limits shares)) ∙ ap made (get_or-zip limits shares k (0, 0) l s)

  -- in either case it is new
  of-new : (P : Team → Type 0) → ((limit share : ℕ) → P (new_team limit share)) → (k : ℕ) → P (slice_index_or (new_teams limits shares) k (new_team 0 0))
  of-new P new k = ⊎_elim within past (lt-or-le k (length (new_teams limits shares)))
    where
      within : k < length (new_teams limits shares) → P (slice_index_or (new_teams limits shares) k (new_team 0 0))
      within h = rw (new-team k (omega (arith, h, new-length)) (omega (arith, h, new-length))) (new (slice_index_or limits k 0) (slice_index_or shares k 0))

      past : length (new_teams limits shares) ≤ k → P (slice_index_or (new_teams limits shares) k (new_team 0 0))
      past h = rw (get_or_past (new_teams limits shares) k (new_team 0 0) h) (new 0 0)

  -- LAW: nothing is taken, and no edit is counted
  pub new-taken : (k : ℕ) → (slice_index_or (new_teams limits shares) k (new_team 0 0)).taken ≡ 0
  new-taken k = of-new (λ m. m.taken ≡ 0) (λ l s. refl) k

  pub new-edits : (k : ℕ) → (slice_index_or (new_teams limits shares) k (new_team 0 0)).edits ≡ 0
  new-edits k = of-new (λ m. m.edits ≡ 0) (λ l s. refl) k

-- LAW: their shares together are the shares given
pub new-shares : (limits shares : List ℕ) → length limits ≡ length shares → sum_by (λ m. m.share) (new_teams limits shares) ≡ sum shares
unfolding new_teams
new-shares [] [] h = refl
new-shares [] (s ∷ shares) h = absurd (omega arith)
new-shares (l ∷ limits) [] h = absurd (omega arith)
new-shares (l ∷ limits) (s ∷ shares) h =
    let rest = new-shares limits shares (omega (arith, h)) in
    omega (arith, rest, sum_by-cons (λ (m : Team). m.share) (new_team l s) (new_teams limits shares), sum_by-cons (λ (n : ℕ). n) s shares)

-- LAW: a team with the highest limit that has taken no more than the used bytes, beside others that keep nothing, meets what is 25 alone
pub no-limit : (t : Totals) (k : ℕ) (x : SpaceChange) → (team_of t k).taken ≤ t.used → (team_of t k).limit ≡ 2 ^ 32 - 1 → remainders (others t.teams k) ≡ 0 → x.before ≤ t.used + x.after → t.used + x.after - x.before < 2 ^ 32 → (team_of t k).edits + 1 < 2 ^ 32 → totals_verdict t k x ≡ Ok tt
no-limit t k x few highest nothing left fits count =
    passes t k x (record { within-limit = omega (arith, few, highest, left, fits); kept-for-others = omega (arith, nothing); used-left = left; used-fits = fits; count-fits = count })
