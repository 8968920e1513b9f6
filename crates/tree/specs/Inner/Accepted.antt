-- What acceptance gives of a table, for the contracts above that hold it open. Assumes nothing: this is a definition.
use Rattle.std.specs.Prelude.{ℕ, ◌+◌, ◌-◌, ◌*◌, ◌^◌, ◌<◌, ◌≤◌, ◌≡◌, true, List, length, slice_index}
use Rattle.tree.specs.Table.{kind, name_offset, size_or_next, count, name_at, nodes_of, is_shallow}
use Rattle.tree.specs.Inner.WellFormed.{IsWellFormed}

-- an accepted table, and how many working words were lent
pub record IsAccepted (tab : List ℕ) (words : ℕ) : Type 0 where
  pub well : IsWellFormed (nodes_of tab)
  pub depth : is_shallow (nodes_of tab) ≡ true
  -- the entries
  pub root-kind : kind tab 0 ≡ 1
  pub root-next : size_or_next tab 0 ≡ count tab
  pub few : count tab ≤ 16384
  pub room : 4 * (count tab + 2) ≤ words
  pub fits : 12 * count tab ≤ length tab
  pub kinds : (k : ℕ) → k < count tab → kind tab k ≤ 1
  -- the texts
  pub texts : length tab - 12 * count tab ≤ 2 ^ 20
  pub ended : 12 * count tab < length tab → slice_index tab (length tab - 1) ≡ 0
  pub offsets : (k : ℕ) → 0 < k → k < count tab → 12 * count tab + name_offset tab k < length tab
  pub names : (k : ℕ) → 0 < k → k < count tab → 12 * count tab + name_offset tab k + length (name_at tab (count tab) (name_offset tab k)) < length tab
  pub zeros : (k : ℕ) → 0 < k → k < count tab → slice_index tab (12 * count tab + name_offset tab k + length (name_at tab (count tab) (name_offset tab k))) ≡ 0
