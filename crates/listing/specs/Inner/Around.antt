-- The directories around an entry, as the functions inside keep them.
-- Assumes nothing: these are definitions.
use Rattle.std.specs.Prelude.{ℕ, ◌+◌, ◌-◌, ◌<◌, ◌≤◌, ◌≡◌, true, List, [], length, slice_index, slice_index_or}
use Rattle.std.specs.Borrow.{Bor}
use Rattle.tree.specs.Table.{Node, name_of, empty_root, parent_below, parent_of}
use Rattle.tree.specs.Lookup.{is_directory}
use Rattle.listing.specs.declared.entries.Directories.{Directories}

-- the first d words hold directories before entry k: the root, and each the one that the next is nested in
pub record Chain (nodes : List Node) (dirs : List ℕ) (d k : ℕ) : Type 0 where
  pub long : length dirs ≡ 65
  pub some : 0 < d
  pub few : d ≤ 65
  pub root : slice_index dirs 0 ≡ 0
  pub before : (i : ℕ) → i < d → slice_index dirs i < k
  pub directories : (i : ℕ) → i < d → is_directory (slice_index_or nodes (slice_index dirs i) empty_root) ≡ true
  pub nested : (i : ℕ) → i + 1 < d → (0 < slice_index dirs (i + 1)) × (parent_of nodes (slice_index dirs (i + 1)) ≡ slice_index dirs i)

-- entry k's parent is the last of d directories, or one around that
abbrev pub Climbs : List Node → List ℕ → ℕ → ℕ → Type 0
Climbs nodes dirs d k = parent_of nodes k ≡ parent_below nodes k (slice_index dirs (d - 1) + 1)

-- the last of d directories is the one that entry k is nested in
pub record Ends (nodes : List Node) (dirs : List ℕ) (d k : ℕ) : Type 0 where
  pub chain : Chain nodes dirs d k
  pub last : parent_of nodes k ≡ slice_index dirs (d - 1)

-- no bytes lent, as past the end of a list
abbrev pub no_bytes : Bor (List ℕ)
no_bytes = record { ref_ptr = (0, 0); now = [] }

-- the names of the first d directories, but for the root's, which is not kept
pub record Named (nodes : List Node) (dirs : List ℕ) (names : List (Bor (List ℕ))) (d : ℕ) : Type 0 where
  pub long : length names ≡ 65
  pub each : (i : ℕ) → 0 < i → i < d → (slice_index_or names i no_bytes).now ≡ name_of (slice_index_or nodes (slice_index dirs i) empty_root)

-- entry k is nested in the last of the directories, or in one around that
abbrev pub IsBefore : List Node → Directories → ℕ → Type 0
IsBefore nodes around k = (Chain nodes around.numbers around.depth k × Climbs nodes around.numbers around.depth k) × Named nodes around.numbers around.names around.depth

-- the directories are those around entry k
abbrev pub IsAround : List Node → Directories → ℕ → Type 0
IsAround nodes around k = Ends nodes around.numbers around.depth k × Named nodes around.numbers around.names around.depth
