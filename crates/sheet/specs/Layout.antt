-- An edit sheet: how lines and their paths stand in its bytes, and what it is refused for (FORMAT,
-- An edit sheet). Assumes nothing: these are definitions.
use Rattle.std.specs.Prelude.{Result, Ok, Err, if◌then◌else◌, ◌==◌, nat_le}
use Rattle.std.specs.Prelude.{ℕ, zero, suc, ◌+◌, ◌*◌, Bool, ◌&&◌, List, [], ◌∷◌, length, drop}
use Rattle.std.specs.List.{list_any}
use Rattle.endian.specs.Bytes.{be32, span}
use Rattle.refusal.specs.declared.Refusal.{Refusal}
use Rattle.refusal.specs.declared.Refusal.TheVariants.{InvalidSheet}
use Rattle.tree.specs.Table.{first_text}

-- what a line asks for, with its path, and the new offset or size
pub data Line : Type 0 where
  make_directory : List ℕ → Line
  make_file : List ℕ → Line
  move : List ℕ → ℕ → Line
  resize : List ℕ → ℕ → Line

abbrev pub path_of : Line → List ℕ
path_of (make_directory path) = path
path_of (make_file path) = path
path_of (move path offset) = path
path_of (resize path size) = path

-- ---- the header: four numbers

abbrev pub line_count : List ℕ → ℕ
line_count sheet = be32 sheet 0

abbrev pub lines_offset : List ℕ → ℕ
lines_offset sheet = be32 sheet 4

abbrev pub texts_offset : List ℕ → ℕ
texts_offset sheet = be32 sheet 8

abbrev pub texts_length : List ℕ → ℕ
texts_length sheet = be32 sheet 12

-- lines and texts end within the sheet, also where they are empty; they may overlap, and the
-- header too
abbrev pub has_good_header : List ℕ → Bool
has_good_header sheet =
    nat_le 16 (length sheet)
    && nat_le (line_count sheet) 1024
    && nat_le (lines_offset sheet + 16 * line_count sheet) (length sheet)
    && nat_le (texts_offset sheet + texts_length sheet) (length sheet)

unfoldable pub texts_of : List ℕ → List ℕ
texts_of sheet = span sheet (texts_offset sheet) (texts_length sheet)

-- ---- a line: four numbers

-- by its kind, new offset and new size: those that its kind does not have are 0
abbrev pub line_with : ℕ → ℕ → ℕ → List ℕ → Result Line Refusal
line_with kind offset size path =
    if kind == 1 && offset == 0 && size == 0 then Ok (make_directory path)
    else if kind == 2 && offset == 0 && size == 0 then Ok (make_file path)
    else if kind == 3 && size == 0 then Ok (move path offset)
    else if kind == 4 && offset == 0 then Ok (resize path size)
    else Err InvalidSheet

abbrev pub is_zero : ℕ → Bool
is_zero b = b == 0

-- the line at `at` of some bytes: kind, path offset, new offset, new size. Its path stands in the
-- texts from the path offset on, up to the next zero byte, without which it is no path
unfoldable pub line_at : List ℕ → List ℕ → ℕ → Result Line Refusal
line_at texts bytes at =
    let text : List ℕ = drop (be32 bytes (at + 4)) texts in
    if list_any is_zero text
    then line_with (be32 bytes at) (be32 bytes (at + 8)) (be32 bytes (at + 12)) (first_text text)
    else Err InvalidSheet

-- ---- all lines

-- a line before others: the first that is refused refuses all
abbrev pub in_front : Result Line Refusal → Result (List Line) Refusal → Result (List Line) Refusal
in_front (Ok line) (Ok lines) = Ok (line ∷ lines)
in_front (Ok line) (Err c) = Err c
in_front (Err c) lines = Err c

-- the n lines from `at` on, if each of them is one
unfoldable pub lines_from : List ℕ → List ℕ → ℕ → ℕ → Result (List Line) Refusal
lines_from texts bytes at zero = Ok []
lines_from texts bytes at (suc n) =
    in_front (line_at texts bytes at) (lines_from texts bytes (at + 16) n)

-- THE LINES OF A SHEET, or 30
unfoldable pub sheet_lines : List ℕ → Result (List Line) Refusal
sheet_lines sheet =
    if has_good_header sheet
    then lines_from (texts_of sheet) sheet (lines_offset sheet) (line_count sheet)
    else Err InvalidSheet
