-- What a place for each file of a new master has to be (RULES, A new master): each file that is not empty begins on a multiple of 0x8000, nothing overlaps
-- header and table or another file, and nothing passes the disc end; the order on disc is free. Header and table are the first t bytes.
-- Assumes nothing: these are definitions.
use Rattle.std.specs.Prelude.{ℕ, ◌+◌, ◌%◌, ◌<◌, ◌≤◌, ◌≡◌, List, length, slice_index}

-- byte b is one of file i's
abbrev pub IsInFile : List ℕ → List ℕ → ℕ → ℕ → Type 0
IsInFile sizes offsets i b = (slice_index offsets i ≤ b) × (b < slice_index offsets i + slice_index sizes i)

-- An offset for each size, in any order on disc: each file that is not empty begins on a multiple of 0x8000, at t or behind it, and ends by the disc end;
-- no byte is in two files; and header and table end by the disc end. (Behind the last file sizes and offsets read 0.) An empty file may be anywhere:
-- it has no byte.
pub record IsPlaced (t end : ℕ) (sizes offsets : List ℕ) : Type 0 where
  pub each : length offsets ≡ length sizes
  pub table : t ≤ end
  pub multiple : (i : ℕ) → 0 < slice_index sizes i → slice_index offsets i % 0x8000 ≡ 0
  pub behind : (i : ℕ) → 0 < slice_index sizes i → t ≤ slice_index offsets i
  pub within : (i : ℕ) → 0 < slice_index sizes i → slice_index offsets i + slice_index sizes i ≤ end
  pub apart : (i j : ℕ) → i < j → (b : ℕ) → IsInFile sizes offsets i b → IsInFile sizes offsets j b → ⊥
