-- The size of a table as it will be written, no name shared (the law is `Size` of tree), or 9 where its texts
-- are over 1,048,576 bytes. Assumes nothing: these are definitions.
use Rattle.std.specs.Prelude.{ℕ, length, Result, Ok, Err, if◌then◌else◌, nat_lt}
use mathlib.Core.List.{List, tail}
use Rattle.tree.specs.Table.{nodes_of, texts_of, encode}
use Rattle.refusal.specs.declared.Refusal.{Refusal}
use Rattle.refusal.specs.declared.Refusal.TheVariants.{LimitOrMemory}

unfoldable pub measure_of : List ℕ → Result ℕ Refusal
measure_of tab = if nat_lt 1048576 (length (texts_of (tail (nodes_of tab)))) then Err LimitOrMemory else Ok (length (encode (nodes_of tab)))
