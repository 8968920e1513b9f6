-- A sheet with given lines, as it may be written: the header, the lines right behind it, then each
-- path in its turn, ended by a zero byte. Assumes nothing: these are definitions.
use Rattle.std.specs.Prelude.{ℕ, ◌+◌, ◌*◌, ◌^◌, ◌<◌, List, [], ◌∷◌, ◌++◌, length}
use Rattle.std.specs.List.{All}
use Rattle.endian.specs.Bytes.{be32_bytes}
use Rattle.sheet.specs.Layout.{Line, make_directory, make_file, move, resize, path_of}

abbrev pub kind_of : Line → ℕ
kind_of (make_directory path) = 1
kind_of (make_file path) = 2
kind_of (move path offset) = 3
kind_of (resize path size) = 4

abbrev pub new_offset : Line → ℕ
new_offset (make_directory path) = 0
new_offset (make_file path) = 0
new_offset (move path offset) = offset
new_offset (resize path size) = 0

abbrev pub new_size : Line → ℕ
new_size (make_directory path) = 0
new_size (make_file path) = 0
new_size (move path offset) = 0
new_size (resize path size) = size

-- with its path at that place of the texts
abbrev pub line_bytes : ℕ → Line → List ℕ
line_bytes at line =
    be32_bytes (kind_of line) ++ be32_bytes at
    ++ be32_bytes (new_offset line) ++ be32_bytes (new_size line)

unfoldable pub lines_bytes : ℕ → List Line → List ℕ
lines_bytes at [] = []
lines_bytes at (line ∷ lines) =
    line_bytes at line ++ lines_bytes (at + (length (path_of line) + 1)) lines

unfoldable pub texts_bytes : List Line → List ℕ
texts_bytes [] = []
texts_bytes (line ∷ lines) = path_of line ++ (0 ∷ texts_bytes lines)

unfoldable pub sheet_with : List Line → List ℕ
sheet_with lines =
    be32_bytes (length lines) ++ be32_bytes 16
    ++ be32_bytes (16 + 16 * length lines) ++ be32_bytes (length (texts_bytes lines))
    ++ lines_bytes 0 lines ++ texts_bytes lines

-- a line whose path has no zero byte, with numbers of 32 bits
pub record IsWritable (line : Line) : Type 0 where
  pub bytes : All (λ b. 0 < b) (path_of line)
  pub offset : new_offset line < 2 ^ 32
  pub size : new_size line < 2 ^ 32
