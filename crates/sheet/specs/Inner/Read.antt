-- What a value of `sheet::Line` stands for. Assumes nothing: these are definitions.
use Rattle.std.specs.Prelude.{ℕ, List}
use Rattle.tree.specs.Table.{first_text}
use Rattle.sheet.specs.declared.line.Asked.{Asked}
use Rattle.sheet.specs.declared.line.Asked.TheVariants as asked
use Rattle.sheet.specs.declared.line.Line as declared
use Rattle.sheet.specs.Layout.{Line, make_directory, make_file, move, resize}

abbrev pub line_by : Asked → List ℕ → Line
line_by asked.MakeDirectory path = make_directory path
line_by asked.MakeFile path = make_file path
line_by (asked.Move offset) path = move path offset
line_by (asked.Resize size) path = resize path size

-- a line, whose path stands in front of what it holds of the texts
abbrev pub line_of : declared.Line → Line
line_of line = line_by line.asked (first_text line.text.now)
