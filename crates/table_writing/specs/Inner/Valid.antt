-- What the writers ask of a table of n entries. Every table that is accepted has it: `accepted-valid` of `Accepted`.
-- Assumes nothing: these are definitions.
use Rattle.std.specs.Prelude.{ℕ, ◌+◌, ◌*◌, ◌≤◌, ◌<◌, ◌≡◌, List, length}
use Rattle.tree.specs.Table.{kind, name_offset, size_or_next, name_at}

-- how long the name of entry k is, without its zero byte
unfoldable pub name_size : List ℕ → ℕ → ℕ → ℕ
name_size tab n k = length (name_at tab n (name_offset tab k))

-- directory i ends after itself, within the table, and so does each directory within it
pub record Nests (tab : List ℕ) (n i : ℕ) : Type 0 where
  pub later : i < size_or_next tab i
  pub within : size_or_next tab i ≤ n
  pub inner : (j : ℕ) → i < j → j < size_or_next tab i → kind tab j ≡ 1 → size_or_next tab j ≤ size_or_next tab i

pub record IsValid (tab : List ℕ) (n : ℕ) : Type 0 where
  pub some : 0 < n
  pub few : n ≤ 16384
  pub whole : 12 * n ≤ length tab
  pub root : kind tab 0 ≡ 1
  pub reach : size_or_next tab 0 ≡ n
  pub kinds : (i : ℕ) → i < n → kind tab i ≤ 1
  pub nested : (i : ℕ) → i < n → kind tab i ≡ 1 → Nests tab n i
  pub named : (i : ℕ) → 0 < i → i < n → 12 * n + name_offset tab i + name_size tab n i < length tab
