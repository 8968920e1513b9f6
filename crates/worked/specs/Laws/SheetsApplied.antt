-- Each theorem about edit sheets, applied to worked sheets: what it says is read off there, against what was computed of them. Assumes nothing.
use Rattle.std.specs.Prelude.{Result, Ok, Err, Some}
use Rattle.std.specs.Prelude.{Bool, ◌&&◌, ltb}
use Rattle.std.specs.Prelude.{ℕ, zero, suc, ◌+◌, ◌*◌, ◌^◌, ◌<◌, ◌≤◌, ◌≡◌, refl, true, false, List, [], ◌∷◌, ◌++◌, length, drop, slice_get, replicate}
use Rattle.std.specs.List.{All}
use Rattle.std.proofs.Common.{sym, ap, subst, ◌∙◌, arith, ltb-true}
use Rattle.std.proofs.lemmas.List.{length-replicate}
use Rattle.endian.specs.Bytes.{be32, put, AllBytes}
use Rattle.refusal.specs.declared.Refusal.{Refusal}
use Rattle.refusal.specs.declared.Refusal.TheVariants.{NotFound, AlreadyExists, InvalidSheet}
use Rattle.refusal.specs.Refusal.{Verdict}
use Rattle.refusal.specs.Laws.Tests.{and_left, and_right}
use Rattle.opened.specs.Opening.{nodes_in, zeros}
use Rattle.edit_rules.specs.Edits.{Account, account, insert_file, resize_file, verdict_of, totals_after}
use Rattle.edit_rules.specs.Promise.{Loan, loan}
use Rattle.ledger.specs.Runs.{Call, image_after_all, totals_after_all}
use Rattle.sheet.specs.Layout.{Line, make_directory, make_file, resize, line_count, lines_offset, texts_of, has_good_header, line_at, lines_from, sheet_lines}
use Rattle.sheet.specs.Written.{lines_bytes, texts_bytes, sheet_with, IsWritable}
use Rattle.sheet.proofs.Laws.CheckedWhole.{checked-whole}
use Rattle.sheet.proofs.Laws.ReadsBack.{reads-back}
use Rattle.sheet_run.specs.declared.run.Refused.{Refused}
use Rattle.sheet_run.specs.Lines.{line_edit}
use Rattle.sheet_run.specs.Run.{Run, stopped_at, run_lines, sheet_run}
use Rattle.sheet_run.specs.Theorem.{line_verdict, LineRan, LineStopped, RunsInTurn, run_behind, answer_on, counted_on, loan_after}
use Rattle.sheet_run.proofs.Laws.BadLineAnywhere.{bad-line-anywhere}
use Rattle.sheet_run.proofs.Laws.InParts.{in-parts}
use Rattle.sheet_run.proofs.Laws.LinesInTurn.{same-some, lines-in-turn}
use Rattle.worked.specs.Image.{master, master_words}
use Rattle.worked.specs.Laws.Applied.{bytes_only, bytes-only}
use Rattle.worked.specs.Laws.SheetImages.{with_x, at-master, at-x}
use Rattle.worked.specs.Laws.SheetSteps.{a, x, x/f, totals, held, room, line-x, made-x, made-again}
use Rattle.worked.specs.Laws.SheetLayouts.{of_kind, two_lines, three_lines, twice, last_two, first_two, resize_from_12, read, no_lines, behind_q}
use Rattle.worked.specs.Laws.Sheets.{lent, run, run_of, runs, call, stopped, line-again, first_call, three_calls, three-run, two-run, twice-run}

-- the directory `x`, in it the file `f`, and `a` twice as large
abbrev lines : List Line
lines = make_directory x ∷ make_file x/f ∷ resize a 0x200 ∷ []

-- ---- checked whole

pub record Whole : Type 0 where
  -- the second of two lines has kind 5
  pub bad : sheet_lines (behind_q 5) ≡ Err InvalidSheet
  -- texts that begin behind the end
  pub header : sheet_lines (no_lines 16 17) ≡ Err InvalidSheet
  -- all three lines, and the second as it stands in its place
  pub good : (has_good_header three_lines ≡ true) × (line_count three_lines ≡ 3) × (line_at (texts_of three_lines) three_lines 32 ≡ Ok (make_file x/f))
  -- lines that stand in a sheet are its lines: also one that begins within the header
  pub whole : sheet_lines resize_from_12 ≡ Ok (resize a 756 ∷ [])
  -- of no sheet another refusal
  pub only : (sheet : List ℕ) (c : Refusal) → sheet_lines sheet ≡ Err c → c ≡ InvalidSheet

-- by the layout alone
bad-line : line_at (texts_of (behind_q 5)) (behind_q 5) (lines_offset (behind_q 5) + 16 * 1) ≡ Err InvalidSheet
unfolding line_at texts_of be32
bad-line = refl

two-stated : line_count (behind_q 5) ≡ 2
unfolding be32
two-stated = refl

bad-header : has_good_header (no_lines 16 17) ≡ false
unfolding be32
bad-header = refl

begin : lines_offset three_lines ≡ 16
unfolding be32
begin = refl

-- what is asked of the line that begins at byte 12
from-12 : (has_good_header resize_from_12 ≡ true) × (line_count resize_from_12 ≡ 1) × (line_at (texts_of resize_from_12) resize_from_12 (lines_offset resize_from_12 + 16 * 0) ≡ Ok (resize a 756))
unfolding line_at texts_of be32
from-12 = (refl, refl, refl)

placed : (i : ℕ) (line : Line) → slice_get (resize a 756 ∷ []) i ≡ Some line → line_at (texts_of resize_from_12) resize_from_12 (lines_offset resize_from_12 + 16 * i) ≡ Ok line
placed zero line e = from-12.2 ∙ ap Ok (same-some e)
placed (suc i) line e = cc

pub whole : Whole
whole =
    let g = (checked-whole three_lines).good lines read.three in
    record {
      bad = (checked-whole (behind_q 5)).bad 1 InvalidSheet (rw two-stated (omega arith)) bad-line;
      header = (checked-whole (no_lines 16 17)).header bad-header;
      good = (g.header, sym g.count, rw begin at (g.each 1 (make_file x/f) refl));
      whole = (checked-whole resize_from_12).whole (resize a 756 ∷ []) (record { header = from-12.0; count = sym from-12.1; each = placed });
      only = λ sheet c e. (checked-whole sheet).only c e;
    }

-- ---- read back

-- the three lines as they are written
written : sheet_with lines ≡ three_lines
unfolding sheet_with lines_bytes texts_bytes
written = refl

few : length (texts_bytes lines) < 2 ^ 32
unfolding texts_bytes
few = omega arith

unfoldable of_text : List ℕ → Bool
of_text [] = true
of_text (b ∷ path) = ltb 0 b && of_text path

of-text : (path : List ℕ) → of_text path ≡ true → All (λ b. 0 < b) path
unfolding of_text
of-text [] e k d h = absurd (omega arith)
of-text (b ∷ path) e zero d h = ltb-true 0 b (and_left (ltb 0 b) (of_text path) e)
of-text (b ∷ path) e (suc k) d h = of-text path (and_right (ltb 0 b) (of_text path) e) k d (omega arith)

writable : All IsWritable lines
unfolding of_text
writable zero d h = record { bytes = of-text x refl; offset = omega arith; size = omega arith }
writable (suc zero) d h = record { bytes = of-text x/f refl; offset = omega arith; size = omega arith }
writable (suc (suc zero)) d h = record { bytes = of-text a refl; offset = omega arith; size = omega arith }
writable (suc (suc (suc k))) d h = absurd (omega arith)

pub back : sheet_lines three_lines ≡ Ok lines
back = rw written at (reads-back lines writable (omega arith) few)

-- ---- line by line

abbrev all_three : Run
all_three = record { calls = three_calls; answer = Ok tt }

-- of the run of a sheet on the small master, lent zeros
on-master : (sheet : List ℕ) (xs : List Line) (r : Run) → sheet_lines sheet ≡ Ok xs → run_of room xs ≡ r → RunsInTurn 1 xs 0 (totals 1370 6656 0) master master_words room r
on-master sheet xs r reads e = lent-any (replicate master_words 0) (replicate room 0) (length-replicate {A = ℕ} master_words 0) (length-replicate {A = ℕ} room 0)
  where
    lent-any : (ws bs : List ℕ) → length ws ≡ master_words → length bs ≡ room → RunsInTurn 1 xs 0 (totals 1370 6656 0) master master_words room r
    lent-any ws bs w l = rw (runs ws bs sheet room xs w l reads ∙ e, w, l) at (lines-in-turn sheet xs 0 (lent ws bs) reads (rw w at-master.opens) (omega arith))

in-turn : RunsInTurn 1 lines 0 (totals 1370 6656 0) master master_words room all_three
in-turn = on-master three_lines lines all_three read.three three-run

-- the second line, on what the first left
second : LineRan 0 (totals 1370 6656 0) master master_words room all_three 1 (make_file x/f) (call room (insert_file 2 (0x66 ∷ [])) (held 1384 6656 1))
second = in-turn.each 1 (make_file x/f) (call room (insert_file 2 (0x66 ∷ [])) (held 1384 6656 1)) refl refl

pub record Turns : Type 0 where
  -- of the second line: its edit, the record that it is handed, that it is accepted
  pub edit : line_edit (nodes_in with_x) (make_file x/f) ≡ Ok (insert_file 2 (0x66 ∷ []))
  pub lent : totals_after_all (totals 1370 6656 0) first_call master ≡ totals 1384 6656 1
  pub accepted : verdict_of (insert_file 2 (0x66 ∷ [])) (held 1384 6656 1) with_x master_words room ≡ Ok tt
  -- no more calls than lines
  pub at-most : 3 ≤ 3
  -- the record that the third call is handed is what the second handed back
  pub handed-on : totals_after (insert_file 2 (0x66 ∷ [])) (held 1384 6656 1) with_x master_words room ≡ totals 1398 6656 2
  -- all ran
  pub whole : all_three.answer ≡ Ok tt

first-left : image_after_all first_call master ≡ with_x
unfolding image_after_all
first-left = rw made-x.written

pub turns : Turns
turns =
    let accounts : account (totals_after_all (totals 1370 6656 0) first_call master) 0 ≡ held 1384 6656 1 = sym (ap (λ (c : Call). c.account) second.lent) in
    record {
      edit = rw first-left at second.edit;
      lent = ap (λ (c : Account). c.totals) accounts;
      accepted = rw first-left at second.accepted;
      at-most = in-turn.at-most;
      handed-on = rw made-x.written at (sym in-turn.handed-on.1.1.0);
      whole = in-turn.whole refl;
    }

-- what stops: the second of two lines by its path, and the second of three by its edit
abbrev stops : Refusal → Run
stops c = record { calls = first_call; answer = stopped 2 c }

abbrev with_b : List Line
with_b = make_directory x ∷ resize (0x62 ∷ []) 0 ∷ []

abbrev with_x_again : List Line
with_x_again = make_directory x ∷ make_directory x ∷ resize a 0x200 ∷ []

-- what the theorem says of the line that stops a run
abbrev Stopped : List Line → Refusal → Type 0
Stopped xs c = LineStopped 1 xs 0 (totals 1370 6656 0) master master_words room (stops c)

pub of-path : Stopped with_b NotFound
of-path = (on-master two_lines with_b (stops NotFound) read.two two-run).stops (omega arith)

pub of-edit : Stopped with_x_again AlreadyExists
of-edit = (on-master twice with_x_again (stops AlreadyExists) read.twice twice-run).stops (omega arith)

abbrev cause_in : Result (Unit {0}) Refused → Refusal
cause_in (Ok _) = InvalidSheet
cause_in (Err e) = e.cause

abbrev line_in : Result (Unit {0}) Refused → ℕ
line_in (Ok _) = 0
line_in (Err e) = e.line

-- the verdict on a line behind the first
abbrev verdict_behind : Line → Verdict
verdict_behind line = line_verdict (line_edit (nodes_in with_x) line) (held 1384 6656 1) with_x master_words room

first-counted : totals_after_all (totals 1370 6656 0) first_call master ≡ totals 1384 6656 1
unfolding totals_after_all
first-counted = rw made-x.counted

pub record Stops : Type 0 where
  -- the line behind all calls, why, and by what was left before it
  pub line : (of-path.line ≡ resize (0x62 ∷ []) 0) × (of-edit.line ≡ make_directory x)
  pub cause : (of-path.cause ≡ NotFound) × (of-edit.cause ≡ AlreadyExists)
  pub refused : (verdict_behind (resize (0x62 ∷ []) 0) ≡ Err NotFound) × (verdict_behind (make_directory x) ≡ Err AlreadyExists)

pub stops-there : Stops
stops-there =
    let line₁ : of-path.line ≡ resize (0x62 ∷ []) 0 = sym (same-some of-path.at) in
    let line₂ : of-edit.line ≡ make_directory x = sym (same-some of-edit.at) in
    let cause₁ : of-path.cause ≡ NotFound = sym (ap cause_in of-path.told) in
    let cause₂ : of-edit.cause ≡ AlreadyExists = sym (ap cause_in of-edit.told) in
    record {
      line = (line₁, line₂);
      cause = (cause₁, cause₂);
      refused = (rw (first-left, first-counted, line₁, cause₁) at of-path.refused, rw (first-left, first-counted, line₂, cause₂) at of-edit.refused);
    }

-- ---- in parts

-- what the directory `x`, as a sheet of its own, leaves of what is lent
abbrev left_by_x : List ℕ → List ℕ → Loan
left_by_x ws bs = loan with_x (zeros ws) (zeros bs) (totals 1384 6656 1)

abbrev b : List ℕ
b = 0x62 ∷ []

pub record Parts (ws bs : List ℕ) : Type 0 where
  -- the other two lines, as a sheet of their own, run there come to the second and the third call
  pub calls : (sheet_run last_two 0 (left_by_x ws bs)).calls ≡ call room (insert_file 2 (0x66 ∷ [])) (held 1384 6656 1) ∷ call room (resize_file 1 0x200) (held 1398 6656 2) ∷ []
  pub answer : (sheet_run last_two 0 (left_by_x ws bs)).answer ≡ Ok tt
  -- `b` is refused there as line 1, where the whole sheet is at line 2
  pub counted : (sheet_run (of_kind 4 b) 0 (left_by_x ws bs)).answer ≡ stopped 1 NotFound
  -- behind a part that stops nothing is run
  pub stopped : (sheet rest : List ℕ) (ys : List Line) → sheet_lines sheet ≡ Ok (make_directory x ∷ make_directory x ∷ ys) → sheet_lines rest ≡ Ok ys → run ws bs sheet ≡ stops AlreadyExists

first-run : run_of room (make_directory x ∷ []) ≡ record { calls = first_call; answer = Ok tt }
unfolding run_lines
first-run = rw (at-master.tree, line-x, made-x.answered)

stopped-part : run_of room (make_directory x ∷ make_directory x ∷ []) ≡ stops AlreadyExists
unfolding run_lines
stopped-part = rw (at-master.tree, line-x, made-x.answered, made-x.written, made-x.counted, at-x.tree, line-again, made-again.answered)

-- what a run tells once a line stands before it
not-counted : (r : Result (Unit {0}) Refused) → answer_on 1 r ≡ Ok tt → r ≡ Ok tt
not-counted (Ok _) e = refl
not-counted (Err r) e = cc

counted-from : (r : Result (Unit {0}) Refused) (n : ℕ) (c : Refusal) → answer_on 1 r ≡ stopped (1 + n) c → r ≡ stopped n c
counted-from (Ok _) n c e = cc
counted-from (Err r) n c e =
    let line : 1 + r.line ≡ 1 + n = ap line_in e in
    let same : r.line ≡ n = omega arith in
    let cause : r.cause ≡ c = ap cause_in e in
    rw (same, cause)

one-bytes : AllBytes (of_kind 1 x)
unfolding bytes_only
one-bytes = bytes-only (of_kind 1 x) refl

two-bytes : AllBytes first_two
unfolding bytes_only
two-bytes = bytes-only first_two refl

pub master-bytes : AllBytes master
unfolding master put bytes_only
master-bytes = bytes-only master refl

module _ (ws bs : List ℕ) (w : length ws ≡ master_words) (l : length bs ≡ room) where
  -- a sheet whose first line is the directory `x`
  behind-x : (sheet two : List ℕ) (ys : List Line) → sheet_lines sheet ≡ Ok (make_directory x ∷ ys) → sheet_lines two ≡ Ok ys →
      run ws bs sheet ≡ record { calls = first_call ++ (sheet_run two 0 (left_by_x ws bs)).calls; answer = answer_on 1 (sheet_run two 0 (left_by_x ws bs)).answer }
  unfolding sheet_lines lines_from line_at texts_of be32
  behind-x sheet two ys e d =
      let x-run : run ws bs (of_kind 1 x) ≡ record { calls = first_call; answer = Ok tt } = runs ws bs (of_kind 1 x) room (make_directory x ∷ []) w l refl ∙ first-run in
      let whole = in-parts sheet (of_kind 1 x) two (make_directory x ∷ []) ys 0 (lent ws bs) e refl d one-bytes master-bytes in
      rw (first-left, first-counted) at
      (subst (λ (r : Run). run ws bs sheet ≡ run_behind r.answer r (counted_on 1 (sheet_run two 0 (loan_after r (lent ws bs))))) x-run whole)

  behind-two : (sheet rest : List ℕ) (ys : List Line) → sheet_lines sheet ≡ Ok (make_directory x ∷ make_directory x ∷ ys) → sheet_lines rest ≡ Ok ys → run ws bs sheet ≡ stops AlreadyExists
  behind-two sheet rest ys e d =
      let part : run ws bs first_two ≡ stops AlreadyExists = runs ws bs first_two room (make_directory x ∷ make_directory x ∷ []) w l read.first ∙ stopped-part in
      subst (λ (r : Run). run ws bs sheet ≡ run_behind r.answer r (counted_on 2 (sheet_run rest 0 (loan_after r (lent ws bs))))) part
      (in-parts sheet first_two rest (make_directory x ∷ make_directory x ∷ []) ys 0 (lent ws bs) e read.first d two-bytes master-bytes)

  pub parts : Parts ws bs
  unfolding sheet_lines lines_from line_at texts_of be32
  parts =
      let three : run ws bs three_lines ≡ record { calls = three_calls; answer = Ok tt } = runs ws bs three_lines room lines w l read.three ∙ three-run in
      let two : run ws bs two_lines ≡ stops NotFound = runs ws bs two_lines room with_b w l read.two ∙ two-run in
      let whole = sym three ∙ behind-x three_lines last_two (make_file x/f ∷ resize a 0x200 ∷ []) read.three read.last in
      record {
        calls = sym (ap (λ (r : Run). drop 1 r.calls) whole);
        answer = not-counted (sheet_run last_two 0 (left_by_x ws bs)).answer (sym (ap (λ (r : Run). r.answer) whole));
        counted = counted-from (sheet_run (of_kind 4 b) 0 (left_by_x ws bs)).answer 1 NotFound (sym (ap (λ (r : Run). r.answer) (sym two ∙ behind-x two_lines (of_kind 4 b) (resize b 0 ∷ []) read.two refl)));
        stopped = behind-two;
      }

-- ---- one bad line anywhere

-- whoever runs it, and whatever is lent: the line before it would be refused in its turn
pub nothing-is-run : (team : ℕ) (l : Loan) → sheet_run (behind_q 5) team l ≡ stopped_at 0 InvalidSheet
nothing-is-run team l = bad-line-anywhere (behind_q 5) team l 1 InvalidSheet (rw two-stated (omega arith)) bad-line
