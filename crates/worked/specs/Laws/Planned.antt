-- An edit that passes every test of its own: what the team and the record make of it, and what it leaves. Assumes nothing.
use Rattle.std.specs.Prelude.{Ok, Err}
use Rattle.std.specs.Prelude.{ℕ, ◌≡◌, List}
use Rattle.std.proofs.Common.{◌∙◌}
use Rattle.refusal.specs.declared.Refusal.{Refusal}
use Rattle.refusal.specs.Refusal.{Verdict, first}
use Rattle.totals.specs.declared.Totals.{Totals}
use Rattle.totals.specs.declared.SpaceChange.{SpaceChange}
use Rattle.totals.specs.Totals.{team_verdict, totals_verdict, moved_totals}
use Rattle.opened.specs.Opening.{opening, disc_of}
use Rattle.edit_rules.specs.Edits.{Edit, Account, space_change, plan_of, plan_verdict, plan_image, counted_verdict, verdict_of, image_after, totals_after}
use Rattle.edit_rules.proofs.Laws.Accepted.{refused-back}
use Rattle.worked.specs.Image.{master_words}

-- used bytes before and after, and then all free bytes and those of the largest free region
abbrev pub to : ℕ → ℕ → ℕ → ℕ → SpaceChange
to before after free largest = record { before = before; after = after; free = free; largest = largest }

-- a call's answer, and the image and the record that it leaves; it is lent so many working bytes
pub record Step (room : ℕ) (v : Verdict) (ed : Edit) (a : Account) (image next : List ℕ) (t : Totals) : Type 0 where
  pub answered : verdict_of ed a image master_words room ≡ v
  pub written : image_after ed a image master_words room ≡ next
  pub counted : totals_after ed a image master_words room ≡ t

-- a refused call leaves both
pub refused : (room : ℕ) (c : Refusal) (ed : Edit) (a : Account) (image : List ℕ) → verdict_of ed a image master_words room ≡ Err c → Step room (Err c) ed a image image a.totals
refused room c ed a image e = let b = refused-back ed a image master_words room c e in record { answered = e; written = b.1; counted = b.0 }

-- what it would write, and what that does to used and free bytes
pub record Planned (room : ℕ) (ed : Edit) (image next : List ℕ) (x : SpaceChange) : Type 0 where
  pub opens : opening image master_words ≡ Ok tt
  pub tests : plan_verdict (plan_of ed (disc_of image)) (disc_of image) master_words room ≡ Ok tt
  pub writes : plan_image (plan_of ed (disc_of image)) image ≡ next
  pub change : space_change image next ≡ x

module _ {room : ℕ} {ed : Edit} {image next : List ℕ} {x : SpaceChange} (p : Planned room ed image next x) (a : Account) where
  -- the team and the record alone decide
  pub judged : verdict_of ed a image master_words room ≡ first (team_verdict a.team) (totals_verdict a.totals a.team x)
  unfolding verdict_of counted_verdict
  judged = rw (p.opens, p.tests, p.writes, p.change)

  pub accepted-by : first (team_verdict a.team) (totals_verdict a.totals a.team x) ≡ Ok tt → Step room (Ok tt) ed a image next (moved_totals a.totals a.team x)
  unfolding image_after totals_after
  accepted-by e = let v = judged ∙ e in record { answered = v; written = rw v p.writes; counted = rw (v, p.writes, p.change) }

  pub refused-by : (c : Refusal) → first (team_verdict a.team) (totals_verdict a.totals a.team x) ≡ Err c → Step room (Err c) ed a image image a.totals
  refused-by c e = refused room c ed a image (judged ∙ e)
