-- With a stated maximum of 0, of the whole edit: answer, image and record are those of an edit that never
-- looks at it. Assumes nothing.
use Rattle.std.specs.Prelude.{Ok, is_err}
use Rattle.refusal.specs.Refusal.{Verdict}
use Rattle.std.specs.Prelude.{ℕ, ◌≡◌, cond, List, ltb, length}
use Rattle.std.proofs.Math.Path.{refl}
use Rattle.std.proofs.Common.{inl}
use Rattle.refusal.specs.declared.Refusal.TheVariants.{LimitOrMemory}
use Rattle.refusal.specs.Refusal.{refuse, first}
use Rattle.header.specs.Verdicts.{fst_max_size}
use Rattle.tree.specs.Table.{encode, limits}
use Rattle.totals.specs.Totals.{team_verdict, totals_verdict}
use Rattle.opened.specs.Opening.{opening, disc_of}
use Rattle.edit_rules.specs.Change.{room_verdict, table_verdict, Plan, refused, nothing, change, filled}
use Rattle.edit_rules.specs.Edits.{Edit, Account, space_change, plan_of, plan_verdict, plan_image, totals_to, counted_verdict, verdict_of, image_after, totals_after}
use Rattle.edit_rules.proofs.Laws.PlaceTests.{stated-apart}

-- a plan's own tests with that of 26 left out: the limits' 9, the working bytes' 9, the table's 21
abbrev plan_unstated : Plan → List ℕ → ℕ → ℕ → Verdict
plan_unstated (refused v) image words bytes = v
plan_unstated nothing image words bytes = Ok tt
plan_unstated (change k c) image words bytes = first (limits c.nodes words) (refuse (ltb bytes (length (encode c.nodes))) LimitOrMemory (room_verdict (disc_of image) (length (encode c.nodes)) c.place))
plan_unstated (filled k clip p) image words bytes = plan_unstated p image words bytes

-- the whole edit so: opening, the team, its own tests, the record's
abbrev pub verdict_unstated : Edit → Account → List ℕ → ℕ → ℕ → Verdict
verdict_unstated ed a image words bytes =
    first (opening image words) (first (team_verdict a.team)
    (first (plan_unstated (plan_of ed (disc_of image)) image words bytes) (totals_verdict a.totals a.team (space_change image (plan_image (plan_of ed (disc_of image)) image)))))

module _ (image : List ℕ) (words bytes : ℕ) (none : fst_max_size image ≡ 0) where
  same_tests : (p : Plan) → plan_verdict p (disc_of image) words bytes ≡ plan_unstated p image words bytes
  unfolding table_verdict
  same_tests (refused v) = refl
  same_tests nothing = refl
  same_tests (change k c) = rw (stated-apart image bytes (length (encode c.nodes)) c.place (inl none))
  same_tests (filled k clip p) = same_tests p

  -- THEOREM
  pub no-maximum : (ed : Edit) (a : Account) →
      (verdict_of ed a image words bytes ≡ verdict_unstated ed a image words bytes)
      × (image_after ed a image words bytes ≡ cond (is_err (verdict_unstated ed a image words bytes)) image (plan_image (plan_of ed (disc_of image)) image))
      × (totals_after ed a image words bytes ≡ cond (is_err (verdict_unstated ed a image words bytes)) a.totals (totals_to a image (plan_image (plan_of ed (disc_of image)) image)))
  unfolding verdict_of counted_verdict image_after totals_after
  no-maximum ed a = let s = same_tests (plan_of ed (disc_of image)) in (rw s, rw s, rw s)
