-- Bytes of a table that neither opening nor an edit reads: the root's name offset, and the parent
-- that each directory stores, the root's too (RULES, Same tree, same table). Assumes nothing: these
-- are definitions.
use Rattle.std.specs.Prelude.{ℕ, ◌-◌, ◌*◌, ◌/◌, ◌%◌, ◌≡◌, ◌==◌, Bool, false, not, ◌&&◌, ◌||◌}
use Rattle.std.specs.Prelude.{List, length, nat_lt, nat_le, slice_index}
use Rattle.header.specs.Verdicts.{fst_offset}
use Rattle.tree.specs.Units.{is_within}
use Rattle.tree.specs.Table.{kind, count}
use Rattle.opened.specs.Opening.{table_of}

-- byte i of the table: bytes 1 to 3 of entry 0, or bytes 4 to 7 of a directory's entry; an entry
-- has 12
abbrev pub is_unread : List ℕ → ℕ → Bool
is_unread tab i =
    is_within 1 3 i
    || (nat_lt i (12 * count tab) && not (kind tab (i / 12) == 0) && is_within 4 7 (i % 12))

-- byte i of the image
abbrev pub is_unread_in : List ℕ → ℕ → Bool
is_unread_in image i =
    nat_le (fst_offset image) i && is_unread (table_of image) (i - fst_offset image)

-- the images differ in such bytes at most
pub record DifferInUnread (image new : List ℕ) : Type 0 where
  pub len : length new ≡ length image
  pub same : (i : ℕ) → is_unread_in image i ≡ false → slice_index new i ≡ slice_index image i
