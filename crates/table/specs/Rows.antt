-- All entries of an accepted table at once, six words an entry.
use Rattle.std.specs.Prelude.{Ok, if◌then◌else◌, nat_lt, slice_index_or}
use Rattle.refusal.specs.Refusal.{Verdict}
use Rattle.std.specs.Prelude.{ℕ, zero, suc, ◌+◌, ◌*◌, List, [], ◌∷◌, ◌++◌, length}
use Rattle.endian.specs.Bytes.{put}
use Rattle.refusal.specs.declared.Refusal.TheVariants.{LimitOrMemory}
use Rattle.refusal.specs.Refusal.{refuse}
use Rattle.tree.specs.Table.{name_place, Node, file, directory, empty_root, count, nodes_of, parent_of}

-- kind, the directory that it is nested in, offset (0 for a directory), size or next, where its name stands in the image, the name's length
abbrev pub row_with : ℕ → ℕ → Node → List ℕ
row_with parent place (file nm offset size) = 0 ∷ parent ∷ offset ∷ size ∷ place ∷ length nm ∷ []
row_with parent place (directory nm next) = 1 ∷ parent ∷ 0 ∷ next ∷ place ∷ length nm ∷ []

-- where the name of entry k stands in an image that has the table at `base`; 0 for the root, which has none
abbrev pub image_place : ℕ → List ℕ → ℕ → ℕ
image_place base tab zero = 0
image_place base tab (suc k) = base + name_place tab (suc k)

-- the row of entry k of a table that stands at `base`
unfoldable pub entry_row : ℕ → List ℕ → ℕ → List ℕ
entry_row base tab k = row_with (parent_of (nodes_of tab) k) (image_place base tab k) (slice_index_or (nodes_of tab) k empty_root)

-- the rows of the entries below k
unfoldable pub rows_below : ℕ → List ℕ → ℕ → List ℕ
rows_below base tab zero = []
rows_below base tab (suc k) = rows_below base tab k ++ entry_row base tab k

-- nothing is written to a list that is too short
unfoldable pub list_verdict : List ℕ → ℕ → Verdict
list_verdict tab room = refuse (nat_lt room (6 * count tab)) LimitOrMemory (Ok tt)

unfoldable pub list_with_rows : ℕ → List ℕ → List ℕ → List ℕ
list_with_rows base tab list = if nat_lt (length list) (6 * count tab) then list else put list 0 (rows_below base tab (count tab))
