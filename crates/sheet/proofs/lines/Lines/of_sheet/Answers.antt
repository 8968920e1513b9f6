-- `sheet::lines::Lines::of_sheet` meets its contract.
use Rattle.std.specs.Prelude.{◌≡◌, ◌*◌}
use Rattle.std.proofs.Common.{arith, sym, ◌∙◌}
use Rattle.std.proofs.lemmas.Result.{err_from_is_err_and}
use Rattle.endian.specs.Bytes.{span}
use Rattle.sheet.specs.Layout.{line_count, lines_offset, texts_offset, texts_length, sheet_lines}
use Rattle.sheet.specs.Inner.Left.{lines_in}
use Rattle.sheet.proofs.Rows.{lines_left-good, lines_in-refused}
use Rattle.sheet.proofs.Judged.{refused, lines_in-sheet}
use Rattle.sheet.proofs.lines.Lines.of_sheet.Goals.{After-branch-check_rows}
use Rattle.sheet.proofs.lines.Lines.of_sheet.Goals as goal

pub returns-then-sheet-lt-HEADER_LEN : goal.returns-then-sheet-lt-HEADER_LEN
returns-then-sheet-lt-HEADER_LEN c = refused c.args.sheet.now (λ f. omega (arith, f.header))

pub returns-then-count-gt-LINE_LIMIT : goal.returns-then-count-gt-LINE_LIMIT
returns-then-count-gt-LINE_LIMIT c = refused c.args.sheet.now (λ f. omega (arith, f.few))

pub returns-in_err-rows : goal.returns-in_err-rows
returns-in_err-rows c =
    let p = err_from_is_err_and c.from_residual.result c.from_residual.ensures.1 in
    let e = c.in_err-rows.ensures.err in
    rw (p.1, p.2, e.0) (refused c.args.sheet.now (λ f. omega (arith, f.lines, e.1)))

pub returns-in_err-texts : goal.returns-in_err-texts
returns-in_err-texts c =
    let p = err_from_is_err_and c.from_residual-in_err-texts.result c.from_residual-in_err-texts.ensures.1 in
    let e = c.in_err-texts.ensures.err in
    rw (p.1, p.2, e.0) (refused c.args.sheet.now (λ f. omega (arith, f.texts, e.1)))

same : (c : After-branch-check_rows) → lines_in c.ended_part-texts.result.now c.as_chunks.result.0.now ≡ sheet_lines c.args.sheet.now
same c =
    let sheet = c.args.sheet.now in
    let l = c.in_ok-rows.ensures.ok in
    let t = c.in_ok-texts.ensures.ok in
    let rows : c.in_ok-rows.rows.now ≡ span sheet (lines_offset sheet) (16 * line_count sheet) = rw (← c.read_u32.ensures, ← c.read_u32-count.ensures) l.1 in
    let texts : c.in_ok-texts.texts.now ≡ span sheet (texts_offset sheet) (texts_length sheet) = rw (← c.read_u32-2.ensures, ← c.read_u32-3.ensures) t.1 in
    lines_in-sheet sheet (record { header = omega arith; few = omega arith; lines = omega (arith, l.0); texts = omega (arith, t.0) })
    c.in_ok-rows.rows.now c.in_ok-texts.texts.now c.ended_part-texts.result.now c.as_chunks.result.0.now rows texts c.as_chunks.ensures.front c.ended_part-texts.ensures.front c.ended_part-texts.ensures.behind

pub returns : goal.returns
returns c = (lines_left-good _ _ (sym c.in_ok-check_rows.ensures)).1 ∙ same (goal.at.returns c).After-branch-check_rows

pub returns-in_err-check_rows : goal.returns-in_err-check_rows
returns-in_err-check_rows c =
    let p = err_from_is_err_and c.from_residual-in_err-check_rows.result c.from_residual-in_err-check_rows.ensures.1 in
    rw (p.1, p.2) (sym (lines_in-refused _ _ _ (sym c.in_err-check_rows.ensures)) ∙ same (goal.at.returns-in_err-check_rows c).After-branch-check_rows)
