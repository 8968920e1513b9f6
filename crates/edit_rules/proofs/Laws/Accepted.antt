-- What an accepted edit passed; that opening's refusals, the team's and its own come before the record's; and that a refused one leaves image
-- and record. Assumes nothing.
use Rattle.std.specs.Prelude.{Ok, Err}
use Rattle.std.specs.Prelude.{ℕ, ◌≡◌, List}
use Rattle.refusal.specs.declared.Refusal.{Refusal}
use Rattle.refusal.specs.Laws.Chains.{first-passed}
use Rattle.totals.specs.Totals.{team_verdict, totals_verdict}
use Rattle.opened.specs.Opening.{opening, disc_of}
use Rattle.edit_rules.specs.Change.{Plan}
use Rattle.edit_rules.specs.Edits.{Edit, Account, space_change, plan_of, plan_verdict, plan_image, counted_verdict, verdict_of, image_after, totals_after}

pub record Accepted (p : Plan) (a : Account) (image : List ℕ) (words bytes : ℕ) : Type 0 where
  pub opens : opening image words ≡ Ok tt
  pub team : team_verdict a.team ≡ Ok tt
  pub own : plan_verdict p (disc_of image) words bytes ≡ Ok tt
  pub counted : totals_verdict a.totals a.team (space_change image (plan_image p image)) ≡ Ok tt

module _ (ed : Edit) (a : Account) (image : List ℕ) (words bytes : ℕ) where
  -- LAW: 27, 28 and 25 come last: whatever the record holds, what an edit's own tests refuse has their number
  pub own_first : (c : Refusal) → opening image words ≡ Ok tt → team_verdict a.team ≡ Ok tt → plan_verdict (plan_of ed (disc_of image)) (disc_of image) words bytes ≡ Err c → verdict_of ed a image words bytes ≡ Err c
  unfolding verdict_of counted_verdict
  own_first c o k e = rw (o, k, e)

  -- LAW: a team above 15 comes right after opening, before every test of the edit
  pub team-first : (c : Refusal) → opening image words ≡ Ok tt → team_verdict a.team ≡ Err c → verdict_of ed a image words bytes ≡ Err c
  unfolding verdict_of
  team-first c o e = rw (o, e)

  -- LAW: an accepted edit passed opening, the team's test, its own and the record's
  pub accepted : verdict_of ed a image words bytes ≡ Ok tt → Accepted (plan_of ed (disc_of image)) a image words bytes
  unfolding verdict_of counted_verdict
  accepted v =
      let o = first-passed (opening image words) _ v in
      let k = first-passed (team_verdict a.team) _ o.1 in
      let p = first-passed (plan_verdict (plan_of ed (disc_of image)) (disc_of image) words bytes) _ k.1 in
      record { opens = o.0; team = k.0; own = p.0; counted = p.1 }

  -- LAW: a refused edit leaves the record and the image as they were
  pub refused-back : (c : Refusal) → verdict_of ed a image words bytes ≡ Err c → (totals_after ed a image words bytes ≡ a.totals) × (image_after ed a image words bytes ≡ image)
  unfolding totals_after image_after
  refused-back c e = (rw e, rw e)
