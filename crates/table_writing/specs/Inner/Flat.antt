-- The entries of a table of n entries written one after another, as the writers' contracts say it. That the whole of it is `encode` of
-- the table's entries is a law (`Whole`). Assumes nothing: these are definitions.
use Rattle.std.specs.Prelude.{ℕ, zero, suc, ◌+◌, ◌-◌, ◌*◌, ◌≤◌, ◌^◌, List, [], ◌∷◌, ◌++◌, if◌then◌else◌, ◌==◌}
use Rattle.endian.specs.Bytes.{put, be24_bytes, be32_bytes}
use Rattle.tree.specs.Table.{kind, name_offset, offset_or_parent, size_or_next, name_at, node_at, nodes_of, parent_of, node_bytes, directory}
use Rattle.table_writing.specs.Inner.Valid.{name_size}

-- the entry after k in its directory
abbrev pub after_in : List ℕ → ℕ → ℕ
after_in tab k = if kind tab k == 1 then size_or_next tab k else k + 1

-- the second word: a file keeps its offset, a directory gets the parent that it is nested in
abbrev pub text_place : List ℕ → ℕ → ℕ → ℕ
text_place tab parent k = if kind tab k == 0 then offset_or_parent tab k else parent

-- the record of entry k, whose name is to stand at `text`
unfoldable pub record_at : List ℕ → ℕ → ℕ → ℕ → ℕ → List ℕ → List ℕ
record_at tab n parent k text out = put out (12 * k) (node_bytes parent (text - 12 * n) (node_at tab n k))

-- its name, ended by a zero byte
unfoldable pub put_text : List ℕ → ℕ → ℕ → ℕ → List ℕ → List ℕ
put_text tab n k text out = put out text (name_at tab n (name_offset tab k) ++ (0 ∷ []))

-- m entries from k on, their names from `text` on: where the last name ends, and what is then written
unfoldable pub text_flat : List ℕ → ℕ → ℕ → ℕ → ℕ → ℕ
text_flat tab n zero k text = text
text_flat tab n (suc m) k text = text_flat tab n m (k + 1) (text + name_size tab n k + 1)

unfoldable pub write_flat : List ℕ → ℕ → ℕ → ℕ → ℕ → List ℕ → List ℕ
write_flat tab n zero k text out = out
write_flat tab n (suc m) k text out =
    write_flat tab n m (k + 1) (text + name_size tab n k + 1) (put_text tab n k text (record_at tab n (parent_of (nodes_of tab) k) k text out))

-- the entries from a up to b
abbrev pub text_to : List ℕ → ℕ → ℕ → ℕ → ℕ → ℕ
text_to tab n a b text = text_flat tab n (b - a) a text

abbrev pub write_to : List ℕ → ℕ → ℕ → ℕ → ℕ → List ℕ → List ℕ
write_to tab n a b text out = write_flat tab n (b - a) a text out

-- the root has neither name nor parent: both are 0
unfoldable pub root_at : ℕ → List ℕ → List ℕ
root_at n out = put out 0 (node_bytes 0 0 (directory [] n))

-- names from `text` on that end at `end` stand behind the entries and fit
pub record Room (n text end room : ℕ) : Type 0 where
  pub past : 12 * n ≤ text
  pub fits : end ≤ room
  pub small : end ≤ 2 ^ 24

-- the four fields of an entry
abbrev pub record_bytes : ℕ → ℕ → ℕ → ℕ → List ℕ
record_bytes kind o a b = kind ∷ (be24_bytes o ++ (be32_bytes a ++ be32_bytes b))
