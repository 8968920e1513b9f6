-- The one promise of every edit: given what was lent, the answer and how everything is afterwards. What else an edit may
-- be lent has its field here. Assumes nothing: these are definitions.
use Rattle.refusal.specs.Refusal.{Verdict}
use Rattle.std.specs.Prelude.{ℕ, ◌≡◌, List, length}
use Rattle.totals.specs.declared.Totals.{Totals}
use Rattle.opened.specs.Opening.{zeros, disc_of}
use Rattle.edit_rules.specs.Edits.{Edit, account, plan_of, plan_number, verdict_of, image_after, totals_after}

-- what a call lends: the image, working words and working bytes, and the record
pub record Loan : Type 0 where
  pub image : List ℕ
  pub words : List ℕ
  pub bytes : List ℕ
  pub totals : Totals

abbrev pub loan : List ℕ → List ℕ → List ℕ → Totals → Loan
loan image words bytes totals = record { image = image; words = words; bytes = bytes; totals = totals }

-- an edit that gives only that it is done
abbrev pub only_verdict : Verdict → ℕ → Verdict
only_verdict v k = v

-- `answer` says how a call gives its verdict and the number of the entry; every byte of the image, the record, and the working memory, which is
-- zero
pub record IsEdited {A : Type 0} (answer : Verdict → ℕ → A) (ed : Edit) (team : ℕ) (before after : Loan) (r : A) : Type 0 where
  pub answered : r ≡ answer (verdict_of ed (account before.totals team) before.image (length before.words) (length before.bytes)) (plan_number (plan_of ed (disc_of before.image)))
  pub image : after.image ≡ image_after ed (account before.totals team) before.image (length before.words) (length before.bytes)
  pub totals : after.totals ≡ totals_after ed (account before.totals team) before.image (length before.words) (length before.bytes)
  pub words : after.words ≡ zeros before.words
  pub bytes : after.bytes ≡ zeros before.bytes
