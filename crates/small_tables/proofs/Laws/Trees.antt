-- The size of a shape's table: 14 bytes an entry, but 12 of the root. Assumes nothing.
use Rattle.std.specs.Prelude.{ℕ, suc, ◌-◌, ◌*◌, ◌<◌, ◌≡◌, refl, List, [], ◌∷◌, length}
use Rattle.std.proofs.Common.{arith}
use mathlib.Core.List.{tail}
use Rattle.tree.specs.Table.{texts_of}
use Rattle.tree.proofs.Laws.WrittenEntries.{length-encode}
use Rattle.small_tables.specs.declared.shape.Entry.{Entry}
use Rattle.small_tables.specs.declared.shape.Entry.TheVariants.{File, Directory}
use Rattle.small_tables.specs.Shapes.{tree_from, tree_of}
use Rattle.small_tables.specs.Tables.{table_of}
use Rattle.small_tables.proofs.Laws.Entries.{length-tree_of}

texts-from : (k : ℕ) (s : List Entry) → length (texts_of (tree_from (suc k) s)) ≡ 2 * length s
unfolding tree_from texts_of
texts-from k [] = refl
texts-from k (File ∷ s) = omega (arith, texts-from (suc k) s)
texts-from k (Directory next ∷ s) = omega (arith, texts-from (suc k) s)

pub texts-tree : (s : List Entry) → length (texts_of (tail (tree_of s))) ≡ 2 * (length s - 1)
unfolding tree_from tree_of texts_of
texts-tree [] = refl
texts-tree (x ∷ s) = omega (arith, texts-from 0 s)

pub table-size : (s : List Entry) → 0 < length s → length (table_of s) ≡ 14 * length s - 2
table-size s some = omega (arith, length-encode (tree_of s), length-tree_of s, texts-tree s)
