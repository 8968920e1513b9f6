-- The shapes that begin with given entries. Assumes nothing: these are definitions.
use Rattle.std.specs.Prelude.{ℕ, ◌-◌, ◌<◌, ◌≤◌, ◌≡◌, slice_index_or}
use Rattle.std.specs.Prelude.{List, ◌++◌, length, map, filter}
use Rattle.small_tables.specs.declared.shape.Entry.{Entry}
use Rattle.small_tables.specs.declared.shape.Entry.TheVariants.{File, Directory}
use Rattle.small_tables.specs.Shapes.{tree_of, parents_next, are_nexts_allowed, each_list}
use Rattle.small_tables.specs.Tables.{tables_of}

-- those shapes of n entries whose first ones are p
unfoldable pub shapes_with : ℕ → List Entry → List (List Entry)
shapes_with n p =
    filter (λ shape. are_nexts_allowed (tree_of shape))
    (map (λ xs. p ++ xs) (each_list n (n - length p)))

unfoldable pub tables_with : ℕ → List Entry → List ℕ
tables_with n p = tables_of (shapes_with n p)

-- the largest next of a directory that is entry k
abbrev pub largest_next : List Entry → ℕ → ℕ
largest_next p k = parents_next (tree_of p) k

-- p is how a shape of n entries may begin
pub record IsBegun (n : ℕ) (p : List Entry) : Type 0 where
  pub root : slice_index_or p 0 File ≡ Directory n
  pub some : 0 < length p
  pub within : length p ≤ n
  pub allowed : (k next : ℕ) → 0 < k → k < length p → slice_index_or p k File ≡ Directory next →
      (k < next) × (next ≤ largest_next p k)
