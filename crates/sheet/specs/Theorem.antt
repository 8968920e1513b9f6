-- A sheet is checked whole, and one that is written from lines reads back as these (RULES, The edit
-- sheet). Proved in proofs/Laws: `checked-whole` and `reads-back`, each in a file of that name;
-- what is asked of a header and of a line, by the numbers written there, is in Asked. Assumes
-- nothing: these are definitions.
use Rattle.std.specs.Prelude.{Ok, Err, Some, length, slice_get}
use Rattle.std.specs.Prelude.{ℕ, ◌+◌, ◌*◌, ◌^◌, ◌<◌, ◌≤◌, ◌≡◌, true, false, List}
use Rattle.std.specs.List.{All}
use Rattle.refusal.specs.declared.Refusal.{Refusal}
use Rattle.refusal.specs.declared.Refusal.TheVariants.{InvalidSheet}
use Rattle.sheet.specs.Layout.{Line, line_count, lines_offset, texts_of, has_good_header}
use Rattle.sheet.specs.Layout.{line_at, sheet_lines}
use Rattle.sheet.specs.Written.{texts_bytes, sheet_with, IsWritable}

-- ---- checked whole

-- these lines are what stands in a sheet: its header is good, there are as many as it states, and
-- each is read in its place
pub record AreItsLines (sheet : List ℕ) (lines : List Line) : Type 0 where
  pub header : has_good_header sheet ≡ true
  pub count : length lines ≡ line_count sheet
  pub each : (i : ℕ) (line : Line) → slice_get lines i ≡ Some line →
      line_at (texts_of sheet) sheet (lines_offset sheet + 16 * i) ≡ Ok line

-- of the bytes of a sheet
pub record IsCheckedWhole (sheet : List ℕ) : Type 0 where
  -- one bad line, and there are no lines
  pub bad : (i : ℕ) (c : Refusal) → i < line_count sheet →
      line_at (texts_of sheet) sheet (lines_offset sheet + 16 * i) ≡ Err c →
      sheet_lines sheet ≡ Err InvalidSheet
  -- nor with a bad header
  pub header : has_good_header sheet ≡ false → sheet_lines sheet ≡ Err InvalidSheet
  -- else there are all of them, each as it stands in its place
  pub good : (lines : List Line) → sheet_lines sheet ≡ Ok lines → AreItsLines sheet lines
  -- and lines of which this holds are the sheet's: nothing is asked of a sheet beyond a good header
  -- and that each line is one where it stands
  pub whole : (lines : List Line) → AreItsLines sheet lines → sheet_lines sheet ≡ Ok lines
  -- and no other number refuses it
  pub only : (c : Refusal) → sheet_lines sheet ≡ Err c → c ≡ InvalidSheet

-- THEOREM
abbrev pub CheckedWhole : Type 0
CheckedWhole = (sheet : List ℕ) → IsCheckedWhole sheet

-- ---- written, and read

-- THEOREM: what is written so reads back as its lines, at most 1,024 of them, with texts of 32 bits
abbrev pub ReadsBack : Type 0
ReadsBack =
    (lines : List Line) → All IsWritable lines →
    length lines ≤ 1024 → length (texts_bytes lines) < 2 ^ 32 →
    sheet_lines (sheet_with lines) ≡ Ok lines
