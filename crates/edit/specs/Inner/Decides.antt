-- What an edit decides on, and the clip that it brings. Assumes nothing: these are definitions.
use Rattle.std.specs.Prelude.{Result, ℕ, List, []}
use Rattle.refusal.specs.declared.Refusal.{Refusal}
use Rattle.edit_rules.specs.Edits as edits
use Rattle.edit_rules.specs.Edits.{plan_of}
use Rattle.opened.specs.Inner.Disc.{Opened}
use Rattle.ledger.specs.Runs.{IsPassable}
use Rattle.edit.specs.declared.decision.Decision.{Decision}
use Rattle.edit.specs.declared.pipeline.Edit.{Edit}
use Rattle.edit.specs.declared.pipeline.Edit.TheVariants as edit
use Rattle.edit.specs.Inner.Decision.{DecidesWith}

-- r is what the edit decides on, on the disc, and its numbers are numbers that a call can hand on
pub record IsEditDecided (ed : edits.Edit) (d : Opened) (room : ℕ) (bytes clip : List ℕ) (r : Result Decision Refusal) : Type 0 where
  pub decided : DecidesWith clip (plan_of ed d.disc) d room bytes r
  pub passable : IsPassable ed

-- the clip that fills a file; none for the other edits
abbrev pub clip_of : Edit → List ℕ
clip_of edit.Rewrite = []
clip_of (edit.Move file offset) = []
clip_of (edit.Resize file size) = []
clip_of (edit.Fill file clip) = clip.now
clip_of (edit.Insert new) = []
clip_of (edit.MakeDirectories start path) = []
