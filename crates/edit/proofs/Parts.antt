-- What was decided on can be carried out in parts. Assumes nothing.
use Rattle.std.specs.Prelude.{Result, Ok, Err, ℕ, List, []}
use Rattle.refusal.specs.declared.Refusal.{Refusal}
use Rattle.refusal.specs.Refusal.{Verdict}
use Rattle.edit_rules.specs.Change.{Plan}
use Rattle.edit.specs.declared.decision.Decision.{Decision}
use Rattle.edit.specs.declared.decision.Decision.TheVariants as decision
use Rattle.edit.specs.Inner.Decision.{CanCopy, CanTable, DecidedAs}

module _ (v : Verdict) (p : Plan) (image : List ℕ) (room : ℕ) (bytes : List ℕ) where
  pub can-copy : (d : Result Decision Refusal) → DecidedAs v p image room bytes [] d → CanCopy image d
  can-copy (Err c) h = tt
  can-copy (Ok decision.Nothing) h = tt
  can-copy (Ok (decision.Clip n at)) h = tt
  can-copy (Ok (decision.Write n size w)) h = h.fits.1.inside.copied

  pub can-table : (d : Result Decision Refusal) → DecidedAs v p image room bytes [] d → CanTable image room d
  can-table (Err c) h = tt
  can-table (Ok decision.Nothing) h = tt
  can-table (Ok (decision.Clip n at)) h = tt
  can-table (Ok (decision.Write n size w)) h = h.fits.1.table
