-- A sheet run on an image: its lines in order up to the first that is refused (RULES, The edit
-- sheet). Assumes nothing: these are definitions.
use Rattle.std.specs.Prelude.{Result, Ok, Err, ℕ, suc, ◌≡◌, List, [], ◌∷◌, length}
use Rattle.refusal.specs.declared.Refusal.{Refusal}
use Rattle.refusal.specs.Refusal.{Verdict, first}
use Rattle.totals.specs.declared.Totals.{Totals}
use Rattle.totals.specs.Totals.{team_verdict}
use Rattle.opened.specs.Opening.{zeros, opening, nodes_in}
use Rattle.edit_rules.specs.Edits.{Edit, Account, account, verdict_of, image_after, totals_after}
use Rattle.edit_rules.specs.Promise.{Loan}
use Rattle.ledger.specs.Runs.{Call, image_after_all, totals_after_all}
use Rattle.sheet.specs.Layout.{Line, sheet_lines}
use Rattle.sheet_run.specs.declared.run.Refused.{Refused}
use Rattle.sheet_run.specs.Lines.{line_edit}

-- the calls of the lines that ran, all of them accepted, and the answer: done, or where and why it
-- stopped
pub record Run : Type 0 where
  pub calls : List Call
  pub answer : Result (Unit {0}) Refused

-- stopped at a line, from 1, or at 0 before the first
abbrev pub stopped_at : ℕ → Refusal → Run
stopped_at line cause = record { calls = []; answer = Err (record { line = line; cause = cause }) }

-- ---- line by line

-- refused by its path, or its edit
abbrev pub run_found : ℕ → Result Edit Refusal → (Edit → Run) → Run
run_found n (Ok ed) f = f ed
run_found n (Err c) f = stopped_at n c

-- refused, or a call more in front of what comes behind it
abbrev pub run_judged : ℕ → Verdict → Call → Run → Run
run_judged n (Ok _) call later = record { calls = call ∷ later.calls; answer = later.answer }
run_judged n (Err c) call later = stopped_at n c

-- lines of which the first has number n: each comes to its edit on the image as it is then, with
-- the record as it is then
unfoldable pub run_lines : ℕ → List Line → ℕ → Totals → List ℕ → ℕ → ℕ → Run
run_lines n [] team t image words bytes = record { calls = []; answer = Ok tt }
run_lines n (line ∷ lines) team t image words bytes =
    let own : Account = account t team in
    run_found n (line_edit (nodes_in image) line) (λ ed.
    let call : Call = record { edit = ed; account = own; words = words; bytes = bytes } in
    let totals : Totals = totals_after ed own image words bytes in
    let changed : List ℕ = image_after ed own image words bytes in
    let later : Run = run_lines (suc n) lines team totals changed words bytes in
    run_judged n (verdict_of ed own image words bytes) call later)

-- ---- the whole: 30, then opening and the team, then the lines

abbrev pub run_read : Result (List Line) Refusal → (List Line → Run) → Run
run_read (Ok lines) f = f lines
run_read (Err c) f = stopped_at 0 c

abbrev pub run_started : Verdict → Run → Run
run_started (Ok _) run = run
run_started (Err c) run = stopped_at 0 c

unfoldable pub sheet_run : List ℕ → ℕ → Loan → Run
sheet_run sheet team l =
    let admitted : Verdict = first (opening l.image (length l.words)) (team_verdict team) in
    run_read (sheet_lines sheet) (λ lines.
    let run : Run = run_lines 1 lines team l.totals l.image (length l.words) (length l.bytes) in
    run_started admitted run)

-- the answer itself, as a call in Rust gives it
abbrev pub own_answer : Result (Unit {0}) Refused → Result (Unit {0}) Refused
own_answer r = r

-- `answer` says how a call gives it; every byte of the image, the record, and the working memory,
-- which is zero
pub record RunsSheet {A : Type 0} (answer : Result (Unit {0}) Refused → A) (sheet : List ℕ)
    (team : ℕ) (before after : Loan) (r : A) : Type 0 where
  pub answered : r ≡ answer (sheet_run sheet team before).answer
  pub image : after.image ≡ image_after_all (sheet_run sheet team before).calls before.image
  pub totals :
      after.totals ≡ totals_after_all before.totals (sheet_run sheet team before).calls before.image
  pub words : after.words ≡ zeros before.words
  pub bytes : after.bytes ≡ zeros before.bytes
