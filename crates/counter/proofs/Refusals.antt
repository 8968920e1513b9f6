-- An edit that is refused, so that its number is not 0, leaves the record as it was. Assumes nothing.
use Rattle.std.specs.Prelude.{Result, Ok, Err, ℕ, ◌≡◌, ◌≢◌, refl, List, if◌then◌else◌, is_err}
use Rattle.std.specs.Result.{result_and}
use Rattle.std.proofs.Common.{ap, ◌∙◌}
use Rattle.refusal.specs.declared.Refusal.{Refusal}
use Rattle.refusal.specs.Refusal.{Verdict}
use Rattle.totals.specs.declared.Totals.{Totals}
use Rattle.opened.specs.Opening.{disc_of}
use Rattle.edit_rules.specs.Edits.{Edit, Account, plan_of, plan_image, verdict_of, totals_to, totals_after}
use Rattle.counter.specs.Replies.{number_told}

pub totals-stay : (ed : Edit) (a : Account) (image : List ℕ) (words bytes n : ℕ) → (verdict_of ed a image words bytes ≡ Ok tt → n ≡ 0) → n ≢ 0 → totals_after ed a image words bytes ≡ a.totals
unfolding totals_after
totals-stay ed a image words bytes n accepted refused = go (verdict_of ed a image words bytes) refl
  where
    moved : Totals
    moved = totals_to a image (plan_image (plan_of ed (disc_of image)) image)

    go : (v : Verdict) → verdict_of ed a image words bytes ≡ v → (if is_err v then a.totals else moved) ≡ a.totals
    go (Ok tt) e = absurd (refused (accepted e))
    go (Err c) e = refl

-- the same where the verdict stands before a value
pub totals-stay_behind : {B : Type 0} (ed : Edit) (a : Account) (image : List ℕ) (words bytes n : ℕ) (value : B) (r : Result B Refusal) → r ≡ result_and (verdict_of ed a image words bytes) (Ok value) → n ≡ number_told r → n ≢ 0 → totals_after ed a image words bytes ≡ a.totals
totals-stay_behind ed a image words bytes n value r answered number refused =
    totals-stay ed a image words bytes n (λ e. number ∙ ap number_told (answered ∙ ap (λ (v : Verdict). result_and v (Ok value)) e)) refused
