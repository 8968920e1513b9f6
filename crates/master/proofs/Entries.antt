-- The paths of a new tree's entries, in the order of the table, from the names of its files. Assumes nothing: these are definitions.
use Rattle.std.specs.Prelude.{ℕ, zero, suc, List, [], ◌∷◌, ◌++◌, drop}
use Rattle.wish_list.specs.Tree.{Wish, common}

-- the first n names, each with `/` behind it
unfoldable pub front_of : ℕ → List (List ℕ) → List ℕ
front_of zero names = []
front_of (suc n) [] = []
front_of (suc n) (name ∷ names) = name ++ (0x2F ∷ front_of n names)

-- the paths of a file's entries below the directory `front`: a directory's ends in `/`
unfoldable pub paths_below : List ℕ → List (List ℕ) → List (List ℕ)
paths_below front [] = []
paths_below front (name ∷ []) = (front ++ name) ∷ []
paths_below front (name ∷ next ∷ names) = (front ++ (name ++ (0x2F ∷ []))) ∷ paths_below (front ++ (name ++ (0x2F ∷ []))) (next ∷ names)

-- the paths of the entries that a file brings behind a file with the names `before`
abbrev pub paths_with : List (List ℕ) → List (List ℕ) → List (List ℕ)
paths_with before names = paths_below (front_of (common before names) names) (drop (common before names) names)

-- of all entries past the root
unfoldable pub entry_paths : List (List ℕ) → List Wish → List (List ℕ)
entry_paths before [] = []
entry_paths before (w ∷ ws) = paths_with before w.names ++ entry_paths w.names ws
