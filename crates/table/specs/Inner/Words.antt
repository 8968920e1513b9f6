-- The six words of a row as the list has them. Assumes nothing: it is a definition.
use Rattle.std.specs.Prelude.{ℕ, List, [], ◌∷◌}
use Rattle.table.specs.declared.rows.Row.{Row}

abbrev pub row_words : Row → List ℕ
row_words r = r.kind ∷ r.parent ∷ r.offset ∷ r.last ∷ r.place ∷ r.size ∷ []
