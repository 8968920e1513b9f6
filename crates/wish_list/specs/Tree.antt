-- The tree of a wish list: its files in their order, and each directory just before the first file in it (RULES, A new master).
-- Assumes nothing: these are definitions.
use Rattle.std.specs.Prelude.{ℕ, suc, ◌+◌, ◌-◌, List, [], ◌∷◌, ◌++◌, length, drop, if◌then◌else◌, nat_le, slice_index}
use mathlib.Core.List.{tail}
use Rattle.endian.specs.Bytes.{are_same_bytes}
use Rattle.tree.specs.Table.{Node, file, directory}
use Rattle.wish_list.specs.Paths.{paths_in, names_of}

-- a file: the names of the directories around it and its own, and where its bytes lie
pub record Wish : Type 0 where
  pub names : List (List ℕ)
  pub offset : ℕ
  pub size : ℕ

-- each path with its size and its offset; a list that is too short goes on with 0
unfoldable pub wishes : List (List ℕ) → List ℕ → List ℕ → List Wish
wishes [] sizes offsets = []
wishes (path ∷ paths) sizes offsets =
    record { names = names_of path; offset = slice_index offsets 0; size = slice_index sizes 0 } ∷ wishes paths (tail sizes) (tail offsets)

-- in how many directories both files are: the last name is the file's own
unfoldable pub common : List (List ℕ) → List (List ℕ) → ℕ
common [] names = 0
common (a ∷ []) names = 0
common (a ∷ b ∷ xs) [] = 0
common (a ∷ b ∷ xs) (c ∷ []) = 0
common (a ∷ b ∷ xs) (c ∷ d ∷ ys) = if are_same_bytes a c then suc (common (b ∷ xs) (d ∷ ys)) else 0

-- how many entries a file brings: the directories that the file before it is not in, and its own
abbrev pub added : List (List ℕ) → List (List ℕ) → ℕ
added before names = length names - common before names

-- how many entries of the files ws, which follow a file with the names `before`, are in the first n directories of that one
unfoldable pub below : ℕ → List (List ℕ) → List Wish → ℕ
below n before [] = 0
below n before (w ∷ ws) = if nat_le n (common before w.names) then added before w.names + below n w.names ws else 0

-- the entries of file w from its n-th name on, with the numbers k and on: directories that reach past the last entry in them, and
-- the file; ws are the files behind it
unfoldable pub entries_from : ℕ → ℕ → List (List ℕ) → Wish → List Wish → List Node
entries_from k n [] w ws = []
entries_from k n (name ∷ []) w ws = file name w.offset w.size ∷ []
entries_from k n (name ∷ next ∷ names) w ws =
    directory name (k + length (name ∷ next ∷ names) + below (suc n) w.names ws) ∷ entries_from (suc k) (suc n) (next ∷ names) w ws

-- the entries that file w brings behind a file with the names `before`
abbrev pub entries_with : ℕ → List (List ℕ) → Wish → List Wish → List Node
entries_with k before w ws = entries_from k (common before w.names) (drop (common before w.names) w.names) w ws

unfoldable pub tree_from : ℕ → List (List ℕ) → List Wish → List Node
tree_from k before [] = []
tree_from k before (w ∷ ws) = entries_with k before w ws ++ tree_from (k + added before w.names) w.names ws

-- the root, and the entries of all files
unfoldable pub tree : List Wish → List Node
tree ws = directory [] (suc (below 0 [] ws)) ∷ tree_from 1 [] ws

-- of the paths in some bytes
abbrev pub tree_of : List ℕ → List ℕ → List ℕ → List Node
tree_of bytes sizes offsets = tree (wishes (paths_in bytes) sizes offsets)
