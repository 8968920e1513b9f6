-- What the one promise of every edit comes to: where the edit is refused, image and record are as they were; where it is accepted, they are the
-- planned ones; and the working memory is zero either way. Assumes nothing.
use Rattle.std.specs.Prelude.{Ok, Err}
use Rattle.refusal.specs.Refusal.{Verdict}
use Rattle.std.specs.Prelude.{ℕ, ◌≡◌, List, length}
use Rattle.std.proofs.Common.{◌∙◌}
use Rattle.refusal.specs.declared.Refusal.{Refusal}
use Rattle.opened.specs.Opening.{zeros, disc_of}
use Rattle.edit_rules.specs.Edits.{Edit, account, plan_of, plan_number, plan_image, totals_to, verdict_of, image_after, totals_after}
use Rattle.edit_rules.specs.Promise.{Loan, IsEdited}
use Rattle.edit_rules.proofs.Laws.Accepted.{refused-back}

module _ {A : Type 0} (answer : Verdict → ℕ → A) (ed : Edit) (team : ℕ) (before after : Loan) (r : A) (p : IsEdited answer ed team before after r) where
  -- the verdict on it, and the number of the entry
  abbrev verdict : Verdict
  verdict = verdict_of ed (account before.totals team) before.image (length before.words) (length before.bytes)

  abbrev number : ℕ
  number = plan_number (plan_of ed (disc_of before.image))

  abbrev new : List ℕ
  new = plan_image (plan_of ed (disc_of before.image)) before.image

  -- THEOREM: a refusal has one of the numbers, leaves image and record, and zeroes the working memory
  pub edit-refused : (c : Refusal) → verdict ≡ Err c →
      (r ≡ answer (Err c) number) × (after.image ≡ before.image) × (after.totals ≡ before.totals) × (after.words ≡ zeros before.words) × (after.bytes ≡ zeros before.bytes)
  edit-refused c e =
      let b = refused-back ed (account before.totals team) before.image (length before.words) (length before.bytes) c e in
      (p.answered ∙ rw e, p.image ∙ b.1, p.totals ∙ b.0, p.words, p.bytes)

  -- THEOREM: an accepted edit
  pub edit-accepted : verdict ≡ Ok tt →
      (r ≡ answer (Ok tt) number) × (after.image ≡ new) × (after.totals ≡ totals_to (account before.totals team) before.image new) × (after.words ≡ zeros before.words) × (after.bytes ≡ zeros before.bytes)
  unfolding image_after totals_after
  edit-accepted e = (p.answered ∙ rw e, p.image ∙ rw e, p.totals ∙ rw e, p.words, p.bytes)
