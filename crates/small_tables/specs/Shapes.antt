-- The shapes of a file table: which there are, and in which order (RULES, Every small table).
-- A shape is the list of its entries, entry k at place k, the root among them.
-- Assumes nothing: these are definitions.
use Rattle.std.specs.Prelude.{ℕ, zero, suc, ◌+◌, ◌-◌, Bool, true, ◌&&◌, nat_lt, nat_le, slice_index_or}
use Rattle.std.specs.Prelude.{List, [], ◌∷◌, length, map, filter}
use Rattle.std.specs.List.{list_all, flat_map, range_with_len}
use Rattle.tree.specs.Table.{Node, file, directory, empty_root, parent_of}
use Rattle.tree.specs.Lookup.{next_of}
use Rattle.small_tables.specs.declared.shape.Entry.{Entry}
use Rattle.small_tables.specs.declared.shape.Entry.TheVariants.{File, Directory}

-- ---- a shape's tree

-- the root has no name, entry k the k-th lower-case letter
abbrev pub entry_name : ℕ → List ℕ
entry_name zero = []
entry_name (suc k) = (0x61 + k) ∷ []

-- a file has offset and size 0
abbrev pub node_of : ℕ → Entry → Node
node_of k File = file (entry_name k) 0 0
node_of k (Directory next) = directory (entry_name k) next

-- entries k and on
unfoldable pub tree_from : ℕ → List Entry → List Node
tree_from k [] = []
tree_from k (x ∷ xs) = node_of k x ∷ tree_from (suc k) xs

unfoldable pub tree_of : List Entry → List Node
tree_of shape = tree_from 0 shape

-- ---- which nexts opening allows: cause 10

abbrev pub parents_next : List Node → ℕ → ℕ
parents_next nodes k = next_of (slice_index_or nodes (parent_of nodes k) empty_root)

-- a directory's next is behind it, at most the count, and at most its parent's next
abbrev pub is_next_allowed : List Node → ℕ → Node → Bool
is_next_allowed nodes k (file name offset size) = true
is_next_allowed nodes k (directory name next) =
    nat_lt k next && nat_le next (length nodes) && nat_le next (parents_next nodes k)

-- of all entries but the root
unfoldable pub are_nexts_allowed : List Node → Bool
are_nexts_allowed nodes =
    list_all (λ k. is_next_allowed nodes k (slice_index_or nodes k empty_root))
    (range_with_len 1 (length nodes - 1))

-- ---- in order: by entries from 1 on, a file before a directory, then the smaller next first

abbrev pub each_entry : ℕ → List Entry
each_entry n = File ∷ map (λ next. Directory next) (range_with_len 0 (suc n))

-- each list of m entries with nexts up to n
unfoldable pub each_list : ℕ → ℕ → List (List Entry)
each_list n zero = [] ∷ []
each_list n (suc m) = flat_map (λ x. map (λ xs. x ∷ xs) (each_list n m)) (each_entry n)

-- the shapes of n entries: of all lists behind the root those whose nexts are allowed
unfoldable pub shapes : ℕ → List (List Entry)
shapes n =
    filter (λ shape. are_nexts_allowed (tree_of shape))
    (map (λ xs. Directory n ∷ xs) (each_list n (n - 1)))
