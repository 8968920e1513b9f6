-- A totals record as the text of a file (docs/GUIDE.md, For the desk): lines of words and of numbers in base ten, each behind a
-- single space. Assumes nothing: these are definitions.
use Rattle.std.specs.Prelude.{ℕ, ◌-◌, ◌^◌, List, [], ◌∷◌, ◌++◌, length, if◌then◌else◌, ◌==◌, codes}
use Rattle.totals.specs.declared.team.Team.{Team}
use Rattle.totals.specs.declared.Totals.{Totals}
use Rattle.totals.specs.Totals.{team_of}
use Rattle.listing.specs.Decimal.{number_field}
use Rattle.listing.specs.Lines.{line_feed}
use Rattle.record_text.specs.declared.Listed.{Listed}

-- a word, and the number behind it
abbrev pub named : List ℕ → ℕ → List ℕ
named word n = word ++ number_field n

-- the first line, which tells the form, and used bytes and largest free region, with which the second begins
abbrev pub beginning : ℕ → Totals → List ℕ
beginning form t = named (codes "counter record") form ++ line_feed ++ named (codes "used") t.used ++ named (codes " largest") t.largest

-- ---- teams

-- the largest number is no limit
abbrev pub limit_field : ℕ → List ℕ
limit_field limit = if limit == 2 ^ 32 - 1 then codes " none" else number_field limit

-- a team without a name has none here either
abbrev pub name_part : List ℕ → List ℕ
name_part [] = []
name_part (b ∷ name) = codes " name " ++ (b ∷ name)

abbrev pub team_line : Listed → Team → List ℕ
team_line l m =
    named (codes "team") l.number
    ++ codes " limit" ++ limit_field m.limit
    ++ named (codes " share") m.share
    ++ named (codes " taken") m.taken
    ++ named (codes " edits") m.edits
    ++ name_part l.name.now
    ++ line_feed

-- a line each, in the order of the list
unfoldable pub team_lines : List Listed → Totals → List ℕ
team_lines [] t = []
team_lines (l ∷ teams) t = team_line l (team_of t l.number) ++ team_lines teams t

-- ---- the whole

-- without teams, with the edits of team 0; with teams, how many there are, and their lines
unfoldable pub record_text : List Listed → Totals → List ℕ
record_text [] t = beginning 1 t ++ named (codes " edits") (team_of t 0).edits ++ line_feed
record_text (l ∷ teams) t = beginning 2 t ++ named (codes " teams") (length (l ∷ teams)) ++ line_feed ++ team_lines (l ∷ teams) t
