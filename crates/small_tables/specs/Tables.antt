-- The tables of all shapes of so many entries, one behind the other (RULES, Every small table).
-- Assumes nothing: these are definitions.
use Rattle.std.specs.Prelude.{Result, Ok, Err, is_ok, if◌then◌else◌}
use Rattle.std.specs.Prelude.{ℕ, Bool, not, ◌&&◌, ◌||◌, nat_lt, nat_le, List, length}
use Rattle.std.specs.List.{flat_map}
use Rattle.endian.specs.Bytes.{put}
use Rattle.refusal.specs.declared.Refusal.{Refusal}
use Rattle.refusal.specs.declared.Refusal.TheVariants.{LimitOrMemory}
use Rattle.tree.specs.Table.{encode}
use Rattle.small_tables.specs.declared.shape.Entry.{Entry}
use Rattle.small_tables.specs.Shapes.{tree_of, shapes}

-- the table of a shape, as it is written anew
abbrev pub table_of : List Entry → List ℕ
table_of shape = encode (tree_of shape)

unfoldable pub tables_of : List (List Entry) → List ℕ
tables_of shapes = flat_map table_of shapes

abbrev pub is_small : ℕ → Bool
is_small n = nat_le 1 n && nat_le n 8

-- how many tables there are, where the result list has so many bytes
unfoldable pub small_tables_answer : ℕ → ℕ → Result ℕ Refusal
small_tables_answer n room =
    if not (is_small n) || nat_lt room (length (tables_of (shapes n))) then Err LimitOrMemory
    else Ok (length (shapes n))

-- the result list afterwards
unfoldable pub small_tables_list : ℕ → List ℕ → List ℕ
small_tables_list n list =
    if is_ok (small_tables_answer n (length list)) then put list 0 (tables_of (shapes n)) else list
