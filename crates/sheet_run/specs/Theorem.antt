-- What a run comes to, line by line, and in parts (RULES, The edit sheet). Proved in proofs/Laws:
-- `lines-in-turn`, `in-parts` and `bad-line-anywhere`, each in a file of that name.
-- What the theorems about lists of edits say of a sheet is promised by the call. Assumes nothing:
-- these are definitions.
use Rattle.std.specs.Prelude.{Result, Ok, Err, Some, length, take, slice_get}
use Rattle.std.specs.Prelude.{ℕ, ◌+◌, ◌*◌, ◌<◌, ◌≤◌, ◌≡◌, List, ◌++◌}
use Rattle.endian.specs.Bytes.{AllBytes}
use Rattle.refusal.specs.declared.Refusal.{Refusal}
use Rattle.refusal.specs.declared.Refusal.TheVariants.{InvalidSheet}
use Rattle.refusal.specs.Refusal.{Verdict}
use Rattle.totals.specs.declared.Totals.{Totals}
use Rattle.opened.specs.Opening.{zeros, opening, nodes_in}
use Rattle.edit_rules.specs.Edits.{Edit, Account, account, verdict_of}
use Rattle.edit_rules.specs.Promise.{Loan, loan}
use Rattle.ledger.specs.Runs.{Call, image_after_all, totals_after_all, IsHandedOn}
use Rattle.sheet.specs.Layout.{Line, line_count, lines_offset, texts_of, line_at, sheet_lines}
use Rattle.sheet_run.specs.declared.run.Refused.{Refused}
use Rattle.sheet_run.specs.Lines.{line_edit}
use Rattle.sheet_run.specs.Run.{Run, stopped_at, sheet_run}

-- ---- line by line

-- the image and the record as the first i calls leave them
abbrev pub image_at : List ℕ → List Call → ℕ → List ℕ
image_at image calls i = image_after_all (take i calls) image

abbrev pub totals_at : Totals → List ℕ → List Call → ℕ → Totals
totals_at t image calls i = totals_after_all t (take i calls) image

-- the verdict on a line, by its edit if it comes to one
abbrev pub line_verdict : Result Edit Refusal → Account → List ℕ → ℕ → ℕ → Verdict
line_verdict (Ok ed) a image words bytes = verdict_of ed a image words bytes
line_verdict (Err c) a image words bytes = Err c

-- of a run r by one team, that began with a record and an image, where so much memory is lent
module _ (team : ℕ) (t : Totals) (image : List ℕ) (words bytes : ℕ) (r : Run) where
  -- call i is line i's edit, on the image and with the record that the calls before left, and is
  -- accepted
  pub record LineRan (i : ℕ) (line : Line) (call : Call) : Type 0 where
    pub edit : line_edit (nodes_in (image_at image r.calls i)) line ≡ Ok call.edit
    pub lent : call ≡ record {
      edit = call.edit;
      account = account (totals_at t image r.calls i) team;
      words = words;
      bytes = bytes;
    }
    pub accepted : verdict_of call.edit call.account (image_at image r.calls i) words bytes ≡ Ok tt

-- of the run r of some lines, the first of which has number n
module _ (n : ℕ) (lines : List Line) (team : ℕ) (t : Totals) (image : List ℕ) (words bytes : ℕ)
    (r : Run) where
  -- the line behind all calls is refused, on the image and with the record that they left
  pub record LineStopped : Type 0 where
    pub line : Line
    pub cause : Refusal
    pub at : slice_get lines (length r.calls) ≡ Some line
    pub refused :
        line_verdict (line_edit (nodes_in (image_after_all r.calls image)) line)
        (account (totals_after_all t r.calls image) team)
        (image_after_all r.calls image) words bytes
        ≡ Err cause
    pub told : r.answer ≡ Err (record { line = n + length r.calls; cause = cause })

  pub record RunsInTurn : Type 0 where
    pub at-most : length r.calls ≤ length lines
    pub each : (i : ℕ) (line : Line) (call : Call) →
        slice_get lines i ≡ Some line → slice_get r.calls i ≡ Some call →
        LineRan team t image words bytes r i line call
    -- one record goes through all of them
    pub handed-on : IsHandedOn t r.calls image
    -- all ran, or the first that did not is told
    pub whole : length r.calls ≡ length lines → r.answer ≡ Ok tt
    pub stops : length r.calls < length lines → LineStopped

-- THEOREM: a sheet that is read, on an image that opens, by any of the 16 teams: its lines are run
-- in turn, numbered from 1, by that team, from the image and the record that were lent
abbrev pub LinesInTurn : Type 0
LinesInTurn =
    (sheet : List ℕ) (lines : List Line) (team : ℕ) (before : Loan) →
    sheet_lines sheet ≡ Ok lines →
    opening before.image (length before.words) ≡ Ok tt → team < 16 →
    RunsInTurn 1 lines team before.totals before.image (length before.words)
    (length before.bytes) (sheet_run sheet team before)

-- ---- in parts

-- y, run behind a run x: nothing of it where x stopped. x's answer is given once more in front,
-- since it decides: its cases can be told apart only where it stands by itself
abbrev pub run_behind : Result (Unit {0}) Refused → Run → Run → Run
run_behind (Ok _) x y = record { calls = x.calls ++ y.calls; answer = y.answer }
run_behind (Err e) x y = x

-- behind k lines that were run before: the line that is told is counted on from k
abbrev pub answer_on : ℕ → Result (Unit {0}) Refused → Result (Unit {0}) Refused
answer_on k (Ok _) = Ok tt
answer_on k (Err e) = Err (record { line = k + e.line; cause = e.cause })

abbrev pub counted_on : ℕ → Run → Run
counted_on k r = record { calls = r.calls; answer = answer_on k r.answer }

-- what was lent, as the call of a run leaves it
abbrev pub loan_after : Run → Loan → Loan
loan_after r l =
    loan (image_after_all r.calls l.image) (zeros l.words) (zeros l.bytes)
    (totals_after_all l.totals r.calls l.image)

-- THEOREM: a sheet may be run in parts: a sheet of its first lines, and then one of the others on
-- what that one left. The image opens then too, so the second is not refused before its first line
abbrev pub InParts : Type 0
InParts =
    (sheet front behind : List ℕ) (first_lines other_lines : List Line) (team : ℕ)
    (before : Loan) →
    sheet_lines sheet ≡ Ok (first_lines ++ other_lines) →
    sheet_lines front ≡ Ok first_lines → sheet_lines behind ≡ Ok other_lines →
    AllBytes front → AllBytes before.image →
    let ran : Run = sheet_run front team before in
    let later : Run = sheet_run behind team (loan_after ran before) in
    sheet_run sheet team before
    ≡ run_behind ran.answer ran (counted_on (length first_lines) later)

-- ---- checked whole, before any line

-- THEOREM: one bad line anywhere, and none is run, whatever the lines before it would come to
abbrev pub BadLineAnywhere : Type 0
BadLineAnywhere =
    (sheet : List ℕ) (team : ℕ) (l : Loan) (i : ℕ) (c : Refusal) → i < line_count sheet →
    line_at (texts_of sheet) sheet (lines_offset sheet + 16 * i) ≡ Err c →
    sheet_run sheet team l ≡ stopped_at 0 InvalidSheet
