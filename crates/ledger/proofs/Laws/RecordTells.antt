-- A record that was made of the first image and handed on through any list of calls says what one made afresh of the last image says, and each
-- team's limit, share, what it has taken, and in how many accepted edits. Assumes nothing.
use Rattle.std.specs.Prelude.{Ok, Err, is_err, is_ok}
use Rattle.refusal.specs.Refusal.{Verdict}
use Rattle.std.specs.Prelude.{ℕ, ◌+◌, ◌-◌, ◌<◌, ◌≡◌, ◌&&◌, Bool, true, false, cond, ◌==◌, List, [], ◌∷◌, length, slice_index}
use Rattle.std.proofs.Math.Path.{refl}
use Rattle.std.proofs.Common.{sym, ap, ◌∙◌, arith, eqb-true}
use Rattle.std.proofs.lemmas.Bool.{eqb-false}
use Rattle.refusal.specs.Laws.Tests.{and-false}
use Rattle.space.specs.Laws.HoldsLaws.{and-true}
use Rattle.totals.specs.declared.team.Team.{Team}
use Rattle.totals.specs.declared.Totals.{Totals}
use Rattle.totals.specs.declared.SpaceChange.{SpaceChange}
use Rattle.totals.specs.Totals.{new_team, new_teams, team_of, moved_totals}
use Rattle.totals.proofs.Laws.Moved.{moved-length, same-limit, same-share, one-edit-more, same-edits, taken-charged, same-taken}
use Rattle.totals.proofs.Laws.NewTeams.{new-length, new-team, new-edits}
use Rattle.opened.specs.Opening.{opening, used_of, disc_of}
use Rattle.disc.specs.Calls.{totals_of, record_answer}
use Rattle.edit_rules.specs.Edits.{Account, plan_of, plan_image, space_change, totals_to, verdict_of, image_after, totals_after}
use Rattle.ledger.specs.Ledger.{first_ledger}
use Rattle.ledger.specs.Runs.{Call, image_after_all, totals_after_all, IsHandedOn, accepted_count, taken_after_all}
use Rattle.ledger.specs.Theorem.{Tells, RecordTells}
use Rattle.ledger.proofs.Laws.Sequence.{start, along}

-- a record that was made: the image opened, and the record is the image's
pub made_of : (image : List ℕ) (w : ℕ) (limits shares : List ℕ) (t : Totals) → record_answer image w limits shares ≡ Ok t → (opening image w ≡ Ok tt) × (t ≡ totals_of image (new_teams limits shares))
unfolding record_answer
made_of image w limits shares t e = go (opening image w) refl
  where
    go : (v : Verdict) → opening image w ≡ v → (opening image w ≡ Ok tt) × (t ≡ totals_of image (new_teams limits shares))
    go (Ok _) q = let y = rw q at e in let k : t ≡ totals_of image (new_teams limits shares) = cc in (q, k)
    go (Err c) q = let y = rw q at e in let z : ◌≡◌ {A = ℕ} 0 1 = cc in absurd (omega arith)

-- ---- used bytes and the largest region

-- LAW: one call, accepted or refused
call-tells : (c : Call) (image : List ℕ) → c.account.totals ≡ totals_of image c.account.totals.teams →
    totals_after c.edit c.account image c.words c.bytes ≡ totals_of (image_after c.edit c.account image c.words c.bytes) (totals_after c.edit c.account image c.words c.bytes).teams
unfolding totals_after image_after moved_totals
call-tells c image e = go (verdict_of c.edit c.account image c.words c.bytes)
  where
    new : List ℕ
    new = plan_image (plan_of c.edit (disc_of image)) image

    go : (v : Verdict) → cond (is_err v) c.account.totals (totals_to c.account image new) ≡ totals_of (cond (is_err v) image new) (cond (is_err v) c.account.totals (totals_to c.account image new)).teams
    go (Ok _) = let q : c.account.totals.used + used_of new - used_of image ≡ used_of new = omega (arith, ap (λ (t : Totals). t.used) e) in rw q
    go (Err x) = e

tells-along : (calls : List Call) (image : List ℕ) (t : Totals) → t ≡ totals_of image t.teams → IsHandedOn t calls image →
    totals_after_all t calls image ≡ totals_of (image_after_all calls image) (totals_after_all t calls image).teams
unfolding totals_after_all image_after_all
tells-along [] image t e h = e
tells-along (c ∷ calls) image t e h =
    tells-along calls (image_after c.edit c.account image c.words c.bytes) (totals_after c.edit c.account image c.words c.bytes) (call-tells c image (rw h.0 e)) h.1

-- ---- what each team has taken, and the counts

edits-moved : (t : Totals) (j : ℕ) (x : SpaceChange) (k : ℕ) → k < length t.teams → (team_of (moved_totals t j x) k).edits ≡ (team_of t k).edits + cond (j == k) 1 0
edits-moved t j x k h = go (j == k) refl
  where
    go : (b : Bool) → (j == k) ≡ b → (team_of (moved_totals t j x) k).edits ≡ (team_of t k).edits + cond b 1 0
    go true e = let j≡ : j ≡ k = eqb-true j k e in rw j≡ (one-edit-more t k x h)
    go false e = let z = same-edits t j x k (λ q. eqb-false j k e (sym q)) in omega (arith, z)

-- LAW: one call, accepted or refused
call-counts : (c : Call) (image : List ℕ) (k : ℕ) → k < length c.account.totals.teams →
    (length (totals_after c.edit c.account image c.words c.bytes).teams ≡ length c.account.totals.teams)
    × ((team_of (totals_after c.edit c.account image c.words c.bytes) k).edits ≡ (team_of c.account.totals k).edits + cond (c.account.team == k && is_ok (verdict_of c.edit c.account image c.words c.bytes)) 1 0)
unfolding totals_after
call-counts c image k h = go (verdict_of c.edit c.account image c.words c.bytes)
  where
    a : Account
    a = c.account

    x : SpaceChange
    x = space_change image (plan_image (plan_of c.edit (disc_of image)) image)

    go : (v : Verdict) →
        (length (cond (is_err v) a.totals (moved_totals a.totals a.team x)).teams ≡ length a.totals.teams)
        × ((team_of (cond (is_err v) a.totals (moved_totals a.totals a.team x)) k).edits ≡ (team_of a.totals k).edits + cond (a.team == k && is_ok v) 1 0)
    go (Ok _) = (moved-length a.totals a.team x, rw (and-true (a.team == k)) (edits-moved a.totals a.team x k h))
    go (Err r) = (refl, rw (and-false (a.team == k)) (omega arith))

counts-along : (calls : List Call) (image : List ℕ) (t : Totals) (k : ℕ) → k < length t.teams → IsHandedOn t calls image →
    (team_of (totals_after_all t calls image) k).edits ≡ (team_of t k).edits + accepted_count k calls image
unfolding totals_after_all accepted_count
counts-along [] image t k h on = omega arith
counts-along (c ∷ calls) image t k h on =
    let here = call-counts c image k (rw on.0 h) in
    let more = counts-along calls (image_after c.edit c.account image c.words c.bytes) (totals_after c.edit c.account image c.words c.bytes) k (omega (arith, here.0, h, ap (λ (t : Totals). length t.teams) on.0)) on.1 in
    more ∙ omega (arith, here.1, ap (λ (t : Totals). (team_of t k).edits) on.0)

taken-moved : (t : Totals) (j : ℕ) (x : SpaceChange) (k : ℕ) → k < length t.teams → (team_of (moved_totals t j x) k).taken ≡ cond (j == k) ((team_of t k).taken + x.after - x.before) (team_of t k).taken
taken-moved t j x k h = go (j == k) refl
  where
    go : (b : Bool) → (j == k) ≡ b → (team_of (moved_totals t j x) k).taken ≡ cond b ((team_of t k).taken + x.after - x.before) (team_of t k).taken
    go true e = let j≡ : j ≡ k = eqb-true j k e in rw j≡ (taken-charged t k x h)
    go false e = same-taken t j x k (λ q. eqb-false j k e (sym q))

-- LAW: one call, accepted or refused
call-takes : (c : Call) (image : List ℕ) (k : ℕ) → k < length c.account.totals.teams →
    (team_of (totals_after c.edit c.account image c.words c.bytes) k).taken
    ≡ cond (c.account.team == k) ((team_of c.account.totals k).taken + used_of (image_after c.edit c.account image c.words c.bytes) - used_of image) (team_of c.account.totals k).taken
unfolding totals_after image_after
call-takes c image k h = go (verdict_of c.edit c.account image c.words c.bytes)
  where
    a : Account
    a = c.account

    new : List ℕ
    new = plan_image (plan_of c.edit (disc_of image)) image

    none : (b : Bool) (n : ℕ) → n ≡ cond b (n + used_of image - used_of image) n
    none true n = omega arith
    none false n = refl

    go : (v : Verdict) →
        (team_of (cond (is_err v) a.totals (moved_totals a.totals a.team (space_change image new))) k).taken
        ≡ cond (a.team == k) ((team_of a.totals k).taken + used_of (cond (is_err v) image new) - used_of image) (team_of a.totals k).taken
    go (Ok _) = taken-moved a.totals a.team (space_change image new) k h
    go (Err r) = none (a.team == k) (team_of a.totals k).taken

takes-along : (calls : List Call) (image : List ℕ) (t : Totals) (k : ℕ) → k < length t.teams → IsHandedOn t calls image →
    (team_of (totals_after_all t calls image) k).taken ≡ taken_after_all k (team_of t k).taken calls image
unfolding totals_after_all taken_after_all
takes-along [] image t k h on = refl
takes-along (c ∷ calls) image t k h on =
    let long = (call-counts c image k (rw on.0 h)).0 in
    let next : List ℕ = image_after c.edit c.account image c.words c.bytes in
    takes-along calls next (totals_after c.edit c.account image c.words c.bytes) k (omega (arith, long, h, ap (λ (t : Totals). length t.teams) on.0)) on.1
    ∙ rw (call-takes c image k (rw on.0 h), on.0) refl

-- ---- limits and shares

given-along : (calls : List Call) (image : List ℕ) (t : Totals) (k : ℕ) → IsHandedOn t calls image →
    ((team_of (totals_after_all t calls image) k).limit ≡ (team_of t k).limit) × ((team_of (totals_after_all t calls image) k).share ≡ (team_of t k).share)
unfolding totals_after_all totals_after
given-along [] image t k on = (refl, refl)
given-along (c ∷ calls) image t k on =
    let more = given-along calls (image_after c.edit c.account image c.words c.bytes) (totals_after c.edit c.account image c.words c.bytes) k on.1 in
    let here = call (verdict_of c.edit c.account image c.words c.bytes) in
    (more.0 ∙ here.0 ∙ ap (λ (t : Totals). (team_of t k).limit) on.0, more.1 ∙ here.1 ∙ ap (λ (t : Totals). (team_of t k).share) on.0)
  where
    new : Totals
    new = totals_to c.account image (plan_image (plan_of c.edit (disc_of image)) image)

    call : (v : Verdict) → ((team_of (cond (is_err v) c.account.totals new) k).limit ≡ (team_of c.account.totals k).limit) × ((team_of (cond (is_err v) c.account.totals new) k).share ≡ (team_of c.account.totals k).share)
    call (Ok _) =
        let x = space_change image (plan_image (plan_of c.edit (disc_of image)) image) in
        (same-limit c.account.totals c.account.team x k, same-share c.account.totals c.account.team x k)
    call (Err r) = (refl, refl)

as-told : (m : Team) (limit share taken edits : ℕ) → m.limit ≡ limit → m.share ≡ share → m.taken ≡ taken → m.edits ≡ edits → m ≡ record { limit = limit; share = share; taken = taken; edits = edits }
as-told m limit share taken edits l s t e = rw (← l, ← s, ← t, ← e) refl

-- THEOREM
pub record-tells : RecordTells
unfolding record_answer
record-tells image w₀ w limits shares t calls b l s e h a on =
    let m = made_of image w₀ limits shares t e in
    let k = along w calls image (first_ledger image) a (start image w₀ w h b m.0) in
    let sixteen : length t.teams ≡ 16 = ap (λ (t : Totals). length t.teams) m.1 ∙ new-length limits shares ∙ rw (l, s) in
    record {
      totals = tells-along calls image t (rw m.1) on;
      afresh = λ limits shares. rw k.opens;
      teams = λ j d.
          let made : team_of t j ≡ new_team (slice_index limits j) (slice_index shares j) = ap (λ (t : Totals). team_of t j) m.1 ∙ new-team limits shares j (omega (arith, l, d)) (omega (arith, s, d)) in
          let n : j < length t.teams = omega (arith, sixteen, d) in
          let given = given-along calls image t j on in
          let none : (team_of t j).taken ≡ 0 = ap (λ (m : Team). m.taken) made in
          as-told _ _ _ _ _ (given.0 ∙ ap (λ (m : Team). m.limit) made) (given.1 ∙ ap (λ (m : Team). m.share) made)
          (takes-along calls image t j n on ∙ rw none refl)
          (counts-along calls image t j n on ∙ rw (ap (λ (m : Team). m.edits) made) (omega arith));
    }

-- THEOREM: a record made anew of the last image has the used bytes and the largest region of the one that was handed on, and no count
pub made-anew : (image : List ℕ) (w : ℕ) (team : ℕ → Team) (limits shares : List ℕ) (t new : Totals) → Tells image w team t → record_answer image w limits shares ≡ Ok new →
    (new.used ≡ t.used) × (new.largest ≡ t.largest) × ((k : ℕ) → (team_of new k).edits ≡ 0)
made-anew image w team limits shares t new tells e =
    let q : totals_of image (new_teams limits shares) ≡ new = cc (tells.afresh limits shares) in
    let n = new-edits limits shares in
    rw (← q, ap (λ (t : Totals). t.used) tells.totals, ap (λ (t : Totals). t.largest) tells.totals) (refl, refl, n)
