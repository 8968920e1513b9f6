-- A tree with one entry more, and with a file's place changed.
use Rattle.std.specs.Prelude.{ℕ, zero, suc, List, [], ◌∷◌, map, set, if◌then◌else◌, nat_lt, nat_le, slice_index_or}
use Rattle.tree.specs.Table.{Node, file, directory, empty_root}
use Rattle.tree.specs.Lookup.{next_of}

-- ---- the new entry is the last child, and a file has offset and size 0

abbrev pub empty_file : List ℕ → Node
empty_file nm = file nm 0 0

-- as entry k
abbrev pub empty_directory : List ℕ → ℕ → Node
empty_directory nm k = directory nm (suc k)

-- one more for a next that is past p
unfoldable pub raised_next : ℕ → ℕ → ℕ
raised_next p n = if nat_lt p n then suc n else n

-- entry k, which stays before the new one: directory p and those around it end one later
abbrev pub node_before : ℕ → ℕ → Node → Node
node_before p k (file nm offset size) = file nm offset size
node_before p k (directory nm next) = directory nm (if nat_le k p then raised_next p next else next)

-- an entry that comes after the new one
abbrev pub node_after : Node → Node
node_after (file nm offset size) = file nm offset size
node_after (directory nm next) = directory nm (suc next)

-- entries k and on, with the entry `new` put in after j of them
unfoldable pub splice : ℕ → Node → ℕ → ℕ → List Node → List Node
splice p new k zero xs = new ∷ map node_after xs
splice p new k (suc j) [] = new ∷ []
splice p new k (suc j) (x ∷ xs) = node_before p k x ∷ splice p new (suc k) j xs

-- `new` as the last child of directory p: its number is p's next
unfoldable pub insert_at : ℕ → Node → List Node → List Node
insert_at p new nodes = splice p new 0 (next_of (slice_index_or nodes p empty_root)) nodes

-- the number that entry k has after an insert at q
unfoldable pub number_after_insert : ℕ → ℕ → ℕ
number_after_insert q k = if nat_le q k then suc k else k

-- ---- move and resize: a file's offset and size

abbrev pub node_at_place : ℕ → ℕ → Node → Node
node_at_place offset size (file nm a b) = file nm offset size
node_at_place offset size (directory nm next) = directory nm next

-- entry k has this offset and size
unfoldable pub set_place : ℕ → ℕ → ℕ → List Node → List Node
set_place k offset size nodes = set nodes k (node_at_place offset size (slice_index_or nodes k empty_root))
