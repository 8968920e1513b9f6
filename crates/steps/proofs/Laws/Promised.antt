-- What the promises of the three calls come to where a call is refused: image and record are as they were. Assumes nothing.
use Rattle.std.specs.Prelude.{Err, ℕ, ◌≡◌, List, length}
use Rattle.std.proofs.Common.{refl, ◌∙◌}
use Rattle.refusal.specs.declared.Refusal.{Refusal}
use Rattle.refusal.specs.Refusal.{Verdict}
use Rattle.space.specs.declared.region.DiscRegion.{DiscRegion}
use Rattle.opened.specs.Opening.{disc_of}
use Rattle.edit_rules.specs.Edits.{Edit, account, plan_of, verdict_of}
use Rattle.edit_rules.specs.Promise.{Loan}
use Rattle.edit_rules.proofs.Laws.Accepted.{refused-back}
use Rattle.steps.specs.Parts.{plan_span, image_after_copy, image_after_table, zero_verdict, image_after_zeros}
use Rattle.steps.specs.Promise.{MakesCopy, WritesTable}

module _ (ed : Edit) (team : ℕ) (before after : Loan) (c : Refusal) (e : verdict_of ed (account before.totals team) before.image (length before.words) (length before.bytes) ≡ Err c) where
  -- THEOREM: a refused copy
  pub copy-refused : {A : Type 0} (answer : Verdict → A) (r : A) → MakesCopy answer ed team before after r → (r ≡ answer (Err c)) × (after.image ≡ before.image) × (after.totals ≡ before.totals)
  unfolding image_after_copy
  copy-refused answer r p = (p.answered ∙ rw e, p.image ∙ rw e, p.totals)

  -- THEOREM: a refused table
  pub table-refused : {A : Type 0} (answer : Verdict → DiscRegion → A) (r : A) → WritesTable answer ed team before after r →
      (r ≡ answer (Err c) (plan_span (plan_of ed (disc_of before.image)))) × (after.image ≡ before.image) × (after.totals ≡ before.totals)
  unfolding image_after_table
  table-refused answer r p = (p.answered ∙ rw e, p.image ∙ rw e, p.totals ∙ (refused-back ed (account before.totals team) before.image (length before.words) (length before.bytes) c e).0)

-- THEOREM: refused zeros
pub zeros-refused : (image : List ℕ) (words : ℕ) (span : DiscRegion) (c : Refusal) → zero_verdict image words span ≡ Err c → image_after_zeros image words span ≡ image
unfolding image_after_zeros
zeros-refused image words span c e = rw e refl
