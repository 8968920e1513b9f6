-- A written table changed in place, so that it is the table of the changed tree. Assumes nothing: these are definitions.
use Rattle.std.specs.Prelude.{ℕ, suc, ◌+◌, ◌-◌, ◌*◌, zero, List, [], ◌∷◌, ◌++◌, length, take, drop, if◌then◌else◌, ◌==◌, nat_lt}
use Rattle.endian.specs.Bytes.{be32_bytes, put}
use Rattle.tree.specs.Table.{Node, name_of, kind, name_offset, offset_or_parent, size_or_next, node_with, node_bytes}
use Rattle.tree.specs.Insert.{node_before, node_after, number_after_insert}

-- records k to k + n - 1
unfoldable pub records : (ℕ → List ℕ) → ℕ → ℕ → List ℕ
records f k zero = []
records f k (suc n) = f k ++ records f (suc k) n

-- move and resize: the 8 bytes of entry k that hold offset and size
abbrev pub place_patch : List ℕ → ℕ → ℕ → ℕ → List ℕ
place_patch tab k offset size = put tab (12 * k + 4) (be32_bytes offset ++ be32_bytes size)

-- ---- insert

-- the numbers of entry k as they stand in the table, without its name
abbrev pub stored_node : List ℕ → ℕ → Node
stored_node tab k = node_with (kind tab k) [] (offset_or_parent tab k) (size_or_next tab k)

-- entry k before the new one: its next grows, if it is directory p or one around p
unfoldable pub record_before : List ℕ → ℕ → ℕ → List ℕ
record_before tab p k = node_bytes (offset_or_parent tab k) (name_offset tab k) (node_before p k (stored_node tab k))

-- entry k, which moves behind the new one at q: its next grows, its parent if that moves too, and its name offset by the new text
unfoldable pub record_after : List ℕ → ℕ → ℕ → ℕ → List ℕ
record_after tab q grow k = node_bytes (number_after_insert q (offset_or_parent tab k)) (name_offset tab k + grow) (node_after (stored_node tab k))

-- record k of the new table; the new entry's text starts at `start`
unfoldable pub patched_record : List ℕ → ℕ → ℕ → Node → ℕ → ℕ → List ℕ
patched_record tab p q new start k =
    if nat_lt k q then record_before tab p k
    else if k == q then node_bytes p start new
    else record_after tab q (suc (length (name_of new))) (k - 1)

-- where the text of the entry at q starts: behind all texts, if q is the number c of entries
unfoldable pub new_start : List ℕ → ℕ → ℕ → ℕ
new_start tab c q = if nat_lt q c then name_offset tab q else length tab - 12 * c

-- the table of c entries with `new` put in as the last child of directory p
unfoldable pub insert_patch : List ℕ → ℕ → ℕ → Node → List ℕ
insert_patch tab c p new =
    records (patched_record tab p (size_or_next tab p) new (new_start tab c (size_or_next tab p))) 0 (suc c)
    ++ (take (new_start tab c (size_or_next tab p)) (drop (12 * c) tab) ++ (name_of new ++ (0 ∷ drop (new_start tab c (size_or_next tab p)) (drop (12 * c) tab))))
