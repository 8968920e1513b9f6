-- Teams that edit by turns: from a start with nothing taken and all shares free, what they have not yet taken of their shares stays free, none
-- passes its limit, and an edit within its team's share does not meet 28. Assumes nothing.
use Rattle.std.specs.Prelude.{Ok, Err, is_err}
use Rattle.refusal.specs.Refusal.{Verdict, first, number_of}
use Rattle.std.specs.Prelude.{ℕ, ◌+◌, ◌≤◌, ◌≡◌, Bool, true, false, cond, not, nat_le, List, [], ◌∷◌}
use Rattle.std.proofs.Math.Path.{refl}
use Rattle.std.proofs.Common.{◌∙◌, ⊎_elim, arith}
use Rattle.refusal.specs.declared.Refusal.TheVariants.{LimitOrMemory, NoSuchEntry, FreeBelowShares}
use Rattle.refusal.specs.Refusal.{refuse}
use Rattle.header.specs.Verdicts.{disc_end}
use Rattle.space.specs.Used.{total_size}
use Rattle.totals.specs.declared.Totals.{Totals}
use Rattle.totals.specs.declared.SpaceChange.{SpaceChange}
use Rattle.totals.specs.Totals.{team_of, team_verdict, totals_verdict}
use Rattle.totals.proofs.Laws.Moved.{same-limit, same-share, limits-kept}
use Rattle.totals.proofs.Laws.Remainders.{all_remainders, remainders-kept, not-28, all-left}
use Rattle.opened.specs.Opening.{opening, used_of, free_space_of, disc_of}
use Rattle.opened.proofs.Laws.OpeningLaws.{disc-filled}
use Rattle.edit_rules.specs.Change.{Plan, refused, nothing, change, filled}
use Rattle.edit_rules.specs.Edits.{plan_of, plan_verdict, plan_image, space_change, totals_to, counted_verdict, verdict_of, image_after, totals_after}
use Rattle.edit_rules.proofs.Laws.Accepted.{accepted}
use Rattle.edit_rules.proofs.Laws.OwnCauses.{IsOwn, own-causes}
use Rattle.ledger.specs.Ledger.{Ledger, first_ledger, ledger_with}
use Rattle.ledger.specs.Runs.{Call, image_after_all, totals_after_all, IsHandedOn, IsPassable, AllWithin}
use Rattle.ledger.specs.Theorem.{IsWithinShare, SharesSuffice, SharesHold, TeamsServed}
use Rattle.ledger.proofs.Laws.Kept.{Kept}
use Rattle.ledger.proofs.Laws.Layout.{Lays}
use Rattle.ledger.proofs.Laws.Opened.{any-words}
use Rattle.ledger.proofs.Laws.Sequence.{start}
use Rattle.ledger.proofs.Laws.Steps.{step, step-accepted}
use Rattle.ledger.proofs.Laws.TreeAfter.{arrives}

-- the disc ends where it did
laid-end : (p : Plan) (image image' : List ℕ) (words bytes : ℕ) → plan_verdict p (disc_of image) words bytes ≡ Ok tt → Lays p image image' → disc_end image' ≡ disc_end image
laid-end (refused (Err c)) image image' words bytes v l = let z : ◌≡◌ {A = ℕ} 0 1 = cc in absurd (omega arith)
laid-end (refused (Ok _)) image image' words bytes v l = let z : ◌≡◌ {A = ℕ} 0 1 = cc in absurd (omega arith)
laid-end nothing image image' words bytes v l = l.0.end
laid-end (change k c) image image' words bytes v l = l.end
laid-end (filled k clip p) image image' words bytes v l = laid-end p image image' words bytes v l

-- ---- one call

module _ (w : ℕ) (image : List ℕ) (l : Ledger) (K : Kept w image l) (c : Call) (lent : c.words ≤ w) (passable : IsPassable c.edit) where
  abbrev t : Totals
  t = c.account.totals

  abbrev plan : Plan
  plan = plan_of c.edit (disc_of image)

  abbrev new : List ℕ
  new = plan_image plan image

  abbrev spent : SpaceChange
  spent = space_change image new

  -- what is used more is free no more
  moves : opening image c.words ≡ Ok tt → plan_verdict plan (disc_of image) c.words c.bytes ≡ Ok tt → total_size (free_space_of image) + used_of image ≡ total_size (free_space_of new) + used_of new
  moves o v =
      let n = step-accepted w image l K c.words c.bytes lent c.edit passable v in
      let e = laid-end plan image new c.words c.bytes v (arrives image c.words c.bytes K.bytes o c.edit passable v).2 in
      omega (arith, e, disc-filled image w K.bytes K.opens, disc-filled new w n.bytes n.opens)

  module _ (held : all_remainders t.teams ≤ total_size (free_space_of image)) where
    -- LAW: accepted or refused, a call leaves what the teams have not yet taken, and none above its limit
    call-holds : ((k : ℕ) → (team_of t k).taken ≤ (team_of t k).limit) → SharesHold t (image_after c.edit c.account image c.words c.bytes) (totals_after c.edit c.account image c.words c.bytes)
    unfolding image_after totals_after
    call-holds within = go (verdict_of c.edit c.account image c.words c.bytes) refl
      where
        go : (v : Verdict) → verdict_of c.edit c.account image c.words c.bytes ≡ v → SharesHold t (cond (is_err v) image new) (cond (is_err v) t (totals_to c.account image new))
        go (Ok _) e =
            let a = accepted c.edit c.account image c.words c.bytes e in
            record {
              shares-free = remainders-kept t c.account.team spent (total_size (free_space_of image)) held (moves a.opens a.own) a.counted;
              within-limits = limits-kept t c.account.team spent a.counted within;
              same-limits = same-limit t c.account.team spent;
              same-shares = same-share t c.account.team spent;
            }
        go (Err x) e = record { shares-free = held; within-limits = within; same-limits = λ k. refl; same-shares = λ k. refl }

    -- LAW: a call within its team's share does not meet 28
    call-suffices : IsWithinShare c image → verdict_of c.edit c.account image c.words c.bytes ≡ Err FreeBelowShares → ⊥
    unfolding verdict_of counted_verdict team_verdict
    call-suffices within e = ⊎_elim (λ o. team o (nat_le 16 c.account.team) (rw o at e)) (λ o. few (rw o at e)) (any-words image w c.words K.opens)
      where
        few : ◌≡◌ {A = Verdict} (Err LimitOrMemory) (Err FreeBelowShares) → ⊥
        few q = let z : number_of LimitOrMemory ≡ number_of FreeBelowShares = cc in absurd (omega arith)

        own : opening image c.words ≡ Ok tt → (v : Verdict) → plan_verdict plan (disc_of image) c.words c.bytes ≡ v → IsOwn v → first v (totals_verdict t c.account.team spent) ≡ Err FreeBelowShares → ⊥
        own o (Ok _) p i q = not-28 t c.account.team spent (total_size (free_space_of image)) held (moves o p) within q
        own o (Err x) p i q = let z : number_of x ≡ number_of FreeBelowShares = cc in absurd (omega (arith, i))

        team : opening image c.words ≡ Ok tt → (b : Bool) →
            first (refuse b NoSuchEntry (Ok tt)) (first (plan_verdict plan (disc_of image) c.words c.bytes) (totals_verdict t c.account.team spent)) ≡ Err FreeBelowShares → ⊥
        team o true q = let z : number_of NoSuchEntry ≡ number_of FreeBelowShares = cc in absurd (omega arith)
        team o false q = own o (plan_verdict plan (disc_of image) c.words c.bytes) refl (own-causes (disc_of image) c.words c.bytes c.edit) q

-- ---- any list

serves-along : (w : ℕ) (calls : List Call) (image : List ℕ) (l : Ledger) (t : Totals) → AllWithin w calls → Kept w image l → IsHandedOn t calls image →
    all_remainders t.teams ≤ total_size (free_space_of image) → ((k : ℕ) → (team_of t k).taken ≤ (team_of t k).limit) →
    SharesHold t (image_after_all calls image) (totals_after_all t calls image) × SharesSuffice calls image
unfolding image_after_all totals_after_all
serves-along w [] image l t a K on held within = (record { shares-free = held; within-limits = within; same-limits = λ k. refl; same-shares = λ k. refl }, tt)
serves-along w (c ∷ calls) image l t a K on held within =
    let next : List ℕ = image_after c.edit c.account image c.words c.bytes in
    let t' : Totals = totals_after c.edit c.account image c.words c.bytes in
    let held' : all_remainders c.account.totals.teams ≤ total_size (free_space_of image) = rw on.0 held in
    let h : SharesHold t next t' = rw (← on.0) (call-holds w image l K c a.0 a.1 held' (rw on.0 within)) in
    let later = serves-along w calls next (cond (not (is_err (verdict_of c.edit c.account image c.words c.bytes))) (ledger_with c.edit l) l) t' a.2 (step w image l K c.words c.bytes a.0 c.account c.edit a.1) on.1 h.shares-free h.within-limits in (
      record { shares-free = later.0.shares-free; within-limits = later.0.within-limits; same-limits = λ k. later.0.same-limits k ∙ h.same-limits k; same-shares = λ k. later.0.same-shares k ∙ h.same-shares k },
      (call-suffices w image l K c a.0 a.1 held', later.1),
    )

-- THEOREM
pub teams-served : TeamsServed
teams-served image w₀ w t calls b e h a on fair =
    serves-along w calls image (first_ledger image) t a (start image w₀ w h b e) on
    (omega (arith, all-left t.teams fair.nothing-taken, fair.shares-free)) (λ k. omega (arith, fair.nothing-taken k))
