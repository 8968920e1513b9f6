-- What a writer does with entries of a table, by what stands in it. Assumes nothing: these are definitions.
use Rattle.std.specs.Prelude.{ℕ, List, length}
use Rattle.tree.specs.Table.{count}
use Rattle.table_writing.specs.Inner.Flat.{text_to, write_to, Room}
use Rattle.table_writing.specs.declared.writer.Writer.{Writer}

-- the entries from a up to b written: where their last name ends, and the bytes then
abbrev pub text_after : Writer → List ℕ → ℕ → ℕ → ℕ
text_after w tab a b = text_to tab (count tab) a b w.text

abbrev pub out_after : Writer → List ℕ → ℕ → ℕ → List ℕ
out_after w tab a b = write_to tab (count tab) a b w.text w.out.now

-- there is room for them
abbrev pub HasRoom : Writer → List ℕ → ℕ → ℕ → Type 0
HasRoom w tab a b = Room (count tab) w.text (text_after w tab a b) (length w.out.now)
