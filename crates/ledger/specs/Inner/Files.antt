-- The files of a tree, in the order of its entries: as regions, and their names. Assumes nothing: these are definitions.
use Rattle.std.specs.Prelude.{ℕ, List, [], ◌∷◌}
use Rattle.tree.specs.Table.{Node, file, directory}
use Rattle.space.specs.declared.region.DiscRegion.{DiscRegion}

-- what g makes of each file
unfoldable pub pick : {A : Type 0} → (List ℕ → ℕ → ℕ → A) → List Node → List A
pick g [] = []
pick g (file nm offset size ∷ xs) = g nm offset size ∷ pick g xs
pick g (directory nm next ∷ xs) = pick g xs

abbrev pub own_place : List ℕ → ℕ → ℕ → DiscRegion
own_place nm offset size = record { offset = offset; size = size }

abbrev pub files_of : List Node → List DiscRegion
files_of xs = pick own_place xs

abbrev pub own_name : List ℕ → ℕ → ℕ → List ℕ
own_name nm offset size = nm

abbrev pub file_names : List Node → List (List ℕ)
file_names xs = pick own_name xs
