-- What an accepted edit does to the teams: its own is charged, the others stay. Assumes nothing.
use Rattle.std.specs.Prelude.{ℕ, ◌+◌, ◌-◌, ◌<◌, ◌≤◌, ◌≡◌, ◌≢◌, Ok, length}
use Rattle.std.proofs.Common.{refl, ap, ⊎_elim, arith, length-set}
use Rattle.std.proofs.lemmas.List.{set_past, get_or-set_same, get_or-set_other, get_or_past}
use Rattle.refusal.specs.Laws.Tests.{lt-or-le, lt-or-eq-or-gt}
use Rattle.totals.specs.declared.team.Team.{Team}
use Rattle.totals.specs.declared.Totals.{Totals}
use Rattle.totals.specs.declared.SpaceChange.{SpaceChange}
use Rattle.totals.specs.Totals.{new_team, team_of, charged_team, totals_verdict, moved_totals}
use Rattle.totals.proofs.Laws.Passed.{passed}

module _ (t : Totals) (k : ℕ) (x : SpaceChange) where
  abbrev moved : Totals
  moved = moved_totals t k x

  pub moved-length : length moved.teams ≡ length t.teams
  unfolding moved_totals
  moved-length = length-set t.teams k (charged_team (team_of t k) x)

  -- LAW: the edit's own team
  pub own-charged : k < length t.teams → team_of moved k ≡ charged_team (team_of t k) x
  unfolding moved_totals
  own-charged h = get_or-set_same t.teams k (charged_team (team_of t k) x) (new_team 0 0) h

  -- LAW: another team
  pub others-stay : (j : ℕ) → j ≢ k → team_of moved j ≡ team_of t j
  unfolding moved_totals
  others-stay j h = get_or-set_other t.teams k j (charged_team (team_of t k) x) (new_team 0 0) h

  -- a number that no team has changes none
  pub none-charged : length t.teams ≤ k → moved.teams ≡ t.teams
  unfolding moved_totals
  none-charged h = set_past t.teams k (charged_team (team_of t k) x) h

  -- ---- field by field

  -- what holds of the edit's own team, charged or not there, and of the others as they were
  of-each : (P : ℕ → Team → Type 0) → (k < length t.teams → P k (charged_team (team_of t k) x)) → (length t.teams ≤ k → P k (team_of t k)) → ((j : ℕ) → j ≢ k → P j (team_of t j)) → (j : ℕ) → P j (team_of moved j)
  of-each P own none other j = ⊎_elim (λ h. apart (λ e. omega (arith, h, e))) (λ h. ⊎_elim same (λ g. apart (λ e. omega (arith, g, e))) h) (lt-or-eq-or-gt j k)
    where
      apart : j ≢ k → P j (team_of moved j)
      apart h = rw (others-stay j h) (other j h)

      same : j ≡ k → P j (team_of moved j)
      same e = rw e (⊎_elim (λ h. rw (own-charged h) (own h)) (λ h. rw (none-charged h) (none h)) (lt-or-le k (length t.teams)))

  -- LAW: limits and shares stay
  pub same-limit : (j : ℕ) → (team_of moved j).limit ≡ (team_of t j).limit
  same-limit j = of-each (λ i m. m.limit ≡ (team_of t i).limit) (λ _. refl) (λ _. refl) (λ i _. refl) j

  pub same-share : (j : ℕ) → (team_of moved j).share ≡ (team_of t j).share
  same-share j = of-each (λ i m. m.share ≡ (team_of t i).share) (λ _. refl) (λ _. refl) (λ i _. refl) j

  -- LAW: the edit's own team has one edit more
  pub one-edit-more : k < length t.teams → (team_of moved k).edits ≡ (team_of t k).edits + 1
  one-edit-more h = ap (λ (m : Team). m.edits) (own-charged h)

  pub same-edits : (j : ℕ) → j ≢ k → (team_of moved j).edits ≡ (team_of t j).edits
  same-edits j h = ap (λ (m : Team). m.edits) (others-stay j h)

  pub taken-charged : k < length t.teams → (team_of moved k).taken ≡ (team_of t k).taken + x.after - x.before
  taken-charged h = ap (λ (m : Team). m.taken) (own-charged h)

  pub same-taken : (j : ℕ) → j ≢ k → (team_of moved j).taken ≡ (team_of t j).taken
  same-taken j h = ap (λ (m : Team). m.taken) (others-stay j h)

  -- LAW: a team that had taken no more than the used bytes goes on so
  pub taken-within-used : (team_of t k).taken ≤ t.used → (team_of moved k).taken ≤ moved.used
  unfolding moved_totals
  taken-within-used h = ⊎_elim (λ g. rw (own-charged g) (omega (arith, h))) (λ g. rw (none-charged g, get_or_past t.teams k (new_team 0 0) g) (omega arith)) (lt-or-le k (length t.teams))

  -- LAW: accepted, no team passes its limit where none had
  pub limits-kept : totals_verdict t k x ≡ Ok tt → ((j : ℕ) → (team_of t j).taken ≤ (team_of t j).limit) → (j : ℕ) → (team_of moved j).taken ≤ (team_of moved j).limit
  limits-kept e within j = let p = (passed t k x e).within-limit in of-each (λ i m. m.taken ≤ m.limit) (λ _. omega (arith, p)) (λ _. within k) (λ i _. within i) j

  -- LAW: nor its own, whatever the record held
  pub own-within-limit : totals_verdict t k x ≡ Ok tt → (team_of moved k).taken ≤ (team_of moved k).limit
  own-within-limit e = let p = (passed t k x e).within-limit in ⊎_elim (λ h. rw (own-charged h) (omega (arith, p))) (λ h. rw (none-charged h, get_or_past t.teams k (new_team 0 0) h) (omega arith)) (lt-or-le k (length t.teams))
