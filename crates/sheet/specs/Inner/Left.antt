-- The lines that are left of a sheet: rows of 16 bytes, and the texts up to their last zero byte.
-- Assumes nothing: these are definitions.
use Rattle.std.specs.Prelude.{ℕ, ◌-◌, ◌<◌, ◌≡◌, Result, Ok, IsOk, List, [], ◌∷◌, length}
use Rattle.std.specs.Prelude.{slice_index}
use Rattle.std.specs.Result.{result_unwrap_or}
use Rattle.refusal.specs.declared.Refusal.{Refusal}
use Rattle.sheet.specs.Layout.{Line, line_at, in_front}

-- empty, or with a zero byte at the end
abbrev pub IsEnded : List ℕ → Type 0
IsEnded texts = 0 < length texts → slice_index texts (length texts - 1) ≡ 0

-- the lines in rows of 16 bytes, if each of them is one
unfoldable pub lines_in : List ℕ → List (List ℕ) → Result (List Line) Refusal
lines_in texts [] = Ok []
lines_in texts (row ∷ rows) = in_front (line_at texts row 0) (lines_in texts rows)

unfoldable pub lines_left : List (List ℕ) → List ℕ → List Line
lines_left rows texts = result_unwrap_or (lines_in texts rows) []

-- each row is a line with these texts
pub record AreLines (rows : List (List ℕ)) (texts : List ℕ) : Type 0 where
  pub ended : IsEnded texts
  pub good : IsOk (lines_in texts rows)
