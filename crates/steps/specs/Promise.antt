-- What each of the three calls promises of all inputs: the answer and how everything is afterwards. Assumes nothing: these are definitions.
use Rattle.std.specs.Prelude.{Result, Ok, ℕ, ◌≡◌, List, length}
use Rattle.std.specs.Result.{result_and}
use Rattle.refusal.specs.declared.Refusal.{Refusal}
use Rattle.refusal.specs.Refusal.{Verdict}
use Rattle.space.specs.declared.region.DiscRegion.{DiscRegion}
use Rattle.opened.specs.Opening.{zeros, opening, disc_of}
use Rattle.edit_rules.specs.Edits.{Edit, account, plan_of, verdict_of, totals_after}
use Rattle.edit_rules.specs.Promise.{Loan}
use Rattle.steps.specs.Parts.{plan_span, image_after_copy, image_after_table}
use Rattle.steps.specs.Places.{IsWhollyFree}

-- the verdict itself, as a call in Rust gives it
abbrev pub own_verdict : Verdict → Verdict
own_verdict v = v

-- the copy: refused as the single edit is; `answer` says how a call gives its verdict
pub record MakesCopy {A : Type 0} (answer : Verdict → A) (ed : Edit) (team : ℕ) (before after : Loan) (r : A) : Type 0 where
  pub answered : r ≡ answer (verdict_of ed (account before.totals team) before.image (length before.words) (length before.bytes))
  pub image : after.image ≡ image_after_copy ed (account before.totals team) before.image (length before.words) (length before.bytes)
  -- unaltered
  pub totals : after.totals ≡ before.totals
  pub words : after.words ≡ zeros before.words
  pub bytes : after.bytes ≡ zeros before.bytes

-- a verdict and what is left to be zeroed, as a call in Rust gives them
abbrev pub span_behind : Verdict → DiscRegion → Result DiscRegion Refusal
span_behind v span = result_and v (Ok span)

-- the table: refused as the single edit is; `answer` says how a call gives its verdict and what is left to be zeroed
pub record WritesTable {A : Type 0} (answer : Verdict → DiscRegion → A) (ed : Edit) (team : ℕ) (before after : Loan) (r : A) : Type 0 where
  pub answered : r ≡ answer (verdict_of ed (account before.totals team) before.image (length before.words) (length before.bytes)) (plan_span (plan_of ed (disc_of before.image)))
  pub image : after.image ≡ image_after_table ed (account before.totals team) before.image (length before.words) (length before.bytes)
  -- the single edit's
  pub totals : after.totals ≡ totals_after ed (account before.totals team) before.image (length before.words) (length before.bytes)
  pub words : after.words ≡ zeros before.words
  pub bytes : after.bytes ≡ zeros before.bytes

-- on an image that opens the zeros are written exactly where each byte of the span is free
abbrev pub ZeroesWhatIsFree : List ℕ → ℕ → DiscRegion → Verdict → Type 0
ZeroesWhatIsFree image words span r = opening image words ≡ Ok tt → (r ≡ Ok tt → IsWhollyFree image span) × (IsWhollyFree image span → r ≡ Ok tt)
