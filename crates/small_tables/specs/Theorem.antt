-- What is claimed of the shapes and of their tables (RULES, Every small table).
-- Proved in proofs/Laws: `each-shape`, `each-once`, `numbers`, `read-back`,
-- `none-missing`, `each-in-its-place` and `each-opens`.
-- Assumes nothing: these are definitions.
use Rattle.std.specs.Prelude.{Ok}
use Rattle.std.specs.Prelude.{ℕ, suc, ◌+◌, ◌-◌, ◌*◌, ◌^◌, ◌<◌, ◌≤◌, ◌≡◌, ◌⊎◌, ◌↔◌, slice_index_or}
use Rattle.std.specs.Prelude.{List, [], ◌∷◌, length, map, take, drop, sum, Contains}
use Rattle.std.specs.List.{AllPairs, range_with_len}
use Rattle.endian.specs.Bytes.{AllBytes, be32_bytes, put}
use Rattle.header.specs.Fields.{fst_size_field}
use Rattle.header.specs.Verdicts.{header_verdict, dol_offset, fst_offset, disc_end}
use Rattle.tree.specs.Table.{Node, file, directory, count, nodes_of, check, encode}
use Rattle.opened.specs.Opening.{nodes_in, opening}
use Rattle.small_tables.specs.declared.shape.Entry.{Entry}
use Rattle.small_tables.specs.declared.shape.Entry.TheVariants.{File, Directory}
use Rattle.small_tables.specs.Shapes.{tree_of, shapes}
use Rattle.small_tables.specs.Tables.{table_of, tables_of}

-- ---- each shape, once, in order

-- a shape of n entries: its directories nest
pub record IsShape (n : ℕ) (shape : List Entry) : Type 0 where
  pub entries : length shape ≡ n
  pub root : slice_index_or shape 0 File ≡ Directory n
  -- a directory ends behind itself
  pub behind : (k next : ℕ) → slice_index_or shape k File ≡ Directory next → k < next
  -- and at the end of each directory that it is in, or before
  pub nested : (d k outer inner : ℕ) → d < k → k < outer →
      slice_index_or shape d File ≡ Directory outer →
      slice_index_or shape k File ≡ Directory inner → inner ≤ outer

-- THEOREM: the list has exactly these
abbrev pub EachShape : Type 0
EachShape = (n : ℕ) (shape : List Entry) → 0 < n → Contains (shapes n) shape ↔ IsShape n shape

-- a file before a directory, then the smaller next first
abbrev pub IsBefore : Entry → Entry → Type 0
IsBefore x File = ⊥
IsBefore File (Directory n) = Unit {0}
IsBefore (Directory m) (Directory n) = m < n

-- by the first entry that differs
abbrev pub IsEarlier : List Entry → List Entry → Type 0
IsEarlier [] ys = ⊥
IsEarlier (x ∷ xs) [] = ⊥
IsEarlier (x ∷ xs) (y ∷ ys) = IsBefore x y ⊎ ((x ≡ y) × IsEarlier xs ys)

-- THEOREM: each is earlier than all behind it, and no other list of exactly these is so
abbrev pub EachOnce : Type 0
EachOnce =
    (n : ℕ) → 0 < n → AllPairs IsEarlier (shapes n)
    × ((others : List (List Entry)) → AllPairs IsEarlier others →
    ((shape : List Entry) → Contains others shape ↔ IsShape n shape) → others ≡ shapes n)

-- ---- how many

-- with m entries besides the root
abbrev pub number_behind_root : ℕ → ℕ
number_behind_root m = length (shapes (suc m))

-- THEOREM: of m + 1 entries the first is a file, before m; or it is a directory, with i of the m in
-- it and the others behind it
abbrev pub Numbers : Type 0
Numbers =
    (number_behind_root 0 ≡ 1)
    × ((m : ℕ) → number_behind_root (suc m)
    ≡ number_behind_root m
    + sum (map (λ i. number_behind_root i * number_behind_root (m - i)) (range_with_len 0 (suc m))))
    × (number_behind_root 1 ≡ 2) × (number_behind_root 2 ≡ 6) × (number_behind_root 3 ≡ 22)
    × (number_behind_root 4 ≡ 90) × (number_behind_root 5 ≡ 394)
    × (number_behind_root 6 ≡ 1806) × (number_behind_root 7 ≡ 8558)

-- ---- their tables

-- an entry without its name and place
abbrev pub entry_of : Node → Entry
entry_of (file name offset size) = File
entry_of (directory name next) = Directory next

-- a table is accepted, with so many words lent, and says what a shape does
pub record ReadsAs (tab : List ℕ) (words : ℕ) (shape : List Entry) : Type 0 where
  pub accepted : check tab words ≡ Ok tt
  pub tree : nodes_of tab ≡ tree_of shape
  pub entries : map entry_of (nodes_of tab) ≡ shape
  -- written anew it is what it was
  pub anew : encode (nodes_of tab) ≡ tab

-- THEOREM: each table does, as long as there are letters for its entries
abbrev pub ReadBack : Type 0
ReadBack =
    (n words : ℕ) (shape : List Entry) → 0 < n → n ≤ 27 →
    Contains (shapes n) shape → 4 * (n + 2) ≤ words → ReadsAs (table_of shape) words shape

-- THEOREM: whatever table opening accepts, its shape is in the list
abbrev pub NoneMissing : Type 0
NoneMissing =
    (tab : List ℕ) (words : ℕ) → AllBytes tab → check tab words ≡ Ok tt →
    Contains (shapes (count tab)) (map entry_of (nodes_of tab))

-- THEOREM: each table of n entries has 14 n - 2 bytes, so the i-th starts behind i times as many
abbrev pub EachInItsPlace : Type 0
EachInItsPlace =
    (n : ℕ) → 0 < n → (length (tables_of (shapes n)) ≡ length (shapes n) * (14 * n - 2))
    × ((i : ℕ) → i < length (shapes n) →
    take (14 * n - 2) (drop (i * (14 * n - 2)) (tables_of (shapes n)))
    ≡ table_of (slice_index_or (shapes n) i []))

-- ---- in an image

-- it has a good header, no program, and room for a table of so many bytes
pub record CanHold (image : List ℕ) (size : ℕ) : Type 0 where
  pub header : header_verdict image ≡ Ok tt
  pub behind_header : 0x440 ≤ fst_offset image
  pub no_program : dol_offset image ≡ 0
  pub room : fst_offset image + size ≤ disc_end image
  pub small : disc_end image < 2 ^ 32
  pub whole : disc_end image ≤ length image

-- the table put at the FST offset, and its size into the header
abbrev pub with_table : List ℕ → List ℕ → List ℕ
with_table image tab =
    put (put image (fst_offset image) tab) fst_size_field.at (be32_bytes (length tab))

-- THEOREM: with each of the tables it opens, and has that shape's tree
abbrev pub EachOpens : Type 0
EachOpens =
    (image : List ℕ) (n words : ℕ) (shape : List Entry) → 0 < n → n ≤ 27 →
    Contains (shapes n) shape → CanHold image (14 * n - 2) → 4 * (n + 2) ≤ words →
    (opening (with_table image (table_of shape)) words ≡ Ok tt)
    × (nodes_in (with_table image (table_of shape)) ≡ tree_of shape)
