-- A sheet under way: whether it may start, what a line decides on and does to an image, and what
-- its lines come to. Assumes nothing: these are definitions.
use Rattle.std.specs.Prelude.{Result, Ok, Err, ℕ, ◌≡◌, List, [], length}
use Rattle.std.specs.Result.{result_and}
use Rattle.refusal.specs.declared.Refusal.{Refusal}
use Rattle.refusal.specs.Refusal.{Verdict, first}
use Rattle.totals.specs.declared.Totals.{Totals}
use Rattle.totals.specs.Totals.{team_verdict}
use Rattle.opened.specs.Opening.{opening, nodes_in, disc_of}
use Rattle.edit_rules.specs.Change.{Plan}
use Rattle.edit_rules.specs.Edits.{Edit, Account, account, plan_behind, plan_of, verdict_of}
use Rattle.edit_rules.specs.Edits.{image_after, totals_after}
use Rattle.edit_rules.specs.Promise.{Loan}
use Rattle.ledger.specs.Runs.{image_after_all, totals_after_all, IsPassable}
use Rattle.edit.specs.Inner.Accounting.{Accounted, account_with, IsAccountedFor}
use Rattle.sheet.specs.Layout.{Line}
use Rattle.sheet_run.specs.declared.run.Refused.{Refused}
use Rattle.sheet_run.specs.Lines.{line_edit}
use Rattle.sheet_run.specs.Run.{Run}

-- the lines, once the tests behind their reading pass too
abbrev pub lines_behind : Verdict → Result (List Line) Refusal → Result (List Line) Refusal
lines_behind v (Ok lines) = result_and v (Ok lines)
lines_behind v (Err c) = Err c

-- ---- a line, on an image as it is

-- its edit, once the image is opened
abbrev pub edit_in : List ℕ → ℕ → Line → Result Edit Refusal
edit_in image words line = result_and (opening image words) (line_edit (nodes_in image) line)

-- ---- what a line decides on, where so many words and bytes are lent, and the account a goes in

module _ (image : List ℕ) (words room : ℕ) (bytes : List ℕ) (a : Account) (x : Accounted) where
  -- the edit behind opening and the team
  abbrev pub edit_plan : Edit → Plan
  edit_plan ed =
      let admitted : Verdict = first (opening image words) (team_verdict a.team) in
      plan_behind admitted (plan_of ed (disc_of image))

  -- by the line's edit: refused with the record as it was, or accounted for; it brings no clip
  abbrev pub IsLineDecided : Result Edit Refusal → Type 0
  IsLineDecided (Err c) = x ≡ account_with (Err c) a.totals
  IsLineDecided (Ok ed) =
      IsPassable ed × IsAccountedFor (edit_plan ed) image words room bytes [] a x

-- ---- what a line does; nothing is said of the working memory, in which the next line works

module _ (team : ℕ) (before after : Loan) (r : Verdict) where
  abbrev pub own : Account
  own = account before.totals team

  -- the edit's verdict, image and record
  pub record IsMade (ed : Edit) : Type 0 where
    pub passable : IsPassable ed
    pub verdict : r ≡ verdict_of ed own before.image (length before.words) (length before.bytes)
    pub image :
        after.image ≡ image_after ed own before.image (length before.words) (length before.bytes)
    pub totals :
        after.totals ≡ totals_after ed own before.image (length before.words) (length before.bytes)

  -- refused, with image and record as they were
  pub record IsLeft (c : Refusal) : Type 0 where
    pub verdict : r ≡ Err c
    pub image : after.image ≡ before.image
    pub totals : after.totals ≡ before.totals

  -- by the line's edit
  abbrev pub IsLineRun : Result Edit Refusal → Type 0
  IsLineRun (Err c) = IsLeft c
  IsLineRun (Ok ed) = IsMade ed

-- ---- lines

module _ (run : Run) (first last : List ℕ) (before after : Totals) where
  -- the answer, the image and the record are the run's
  pub record IsRun (r : Result (Unit {0}) Refused) : Type 0 where
    pub answered : r ≡ run.answer
    pub image : last ≡ image_after_all run.calls first
    pub totals : after ≡ totals_after_all before run.calls first
