-- The parents in a list whose first rows are written. Assumes nothing: this is a definition.
use Rattle.std.specs.Prelude.{ℕ, ◌+◌, ◌*◌, ◌<◌, ◌≡◌, List, slice_index}
use Rattle.tree.specs.Table.{nodes_of, parent_of}

-- in a list, the parents of the entries below k, as `rows_below` has them
pub record HasParents (tab : List ℕ) (k : ℕ) (list : List ℕ) : Type 0 where
  pub at : (i : ℕ) → i < k → slice_index list (6 * i + 1) ≡ parent_of (nodes_of tab) i
