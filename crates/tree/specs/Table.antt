-- The file table: what its bytes say, when it is accepted, and how it is written.
-- It is in preorder and a directory's "next" says where its entries end, so the tree is the list of its entries.
use Rattle.std.specs.Prelude.{Ok, if◌then◌else◌, ◌==◌, nat_lt, nat_le, slice_index, slice_index_or}
use Rattle.refusal.specs.Refusal.{Verdict}
use Rattle.std.specs.Prelude.{ℕ, zero, suc, ◌+◌, ◌-◌, ◌*◌, max, Bool, true, false, not, ◌&&◌, ◌||◌, length, drop}
use mathlib.Core.List.{List, [], ◌∷◌, ◌++◌, tail}
use Rattle.endian.specs.Bytes.{be24, be32, be24_bytes, be32_bytes}
use Rattle.refusal.specs.declared.Refusal.TheVariants.{EntryPastTable, UnrecognizedKind, RootIsNotDirectory, MissingNullTerminator, LimitOrMemory, InvalidNextIndex, InvalidNameOffset, InvalidNameByte, UnsafeName}
use Rattle.refusal.specs.Refusal.{refuse, first}
use Rattle.tree.specs.Units.{TextUnit, single, pair, is_within, units}
use Rattle.std.specs.List.{list_all}

-- a file with offset and size, or a directory with its next; its parent is where it is nested, see `parent_of`
pub data Node : Type 0 where
  file : List ℕ → ℕ → ℕ → Node
  directory : List ℕ → ℕ → Node

abbrev pub name_of : Node → List ℕ
name_of (file nm offset size) = nm
name_of (directory nm next) = nm

-- the root of no entries, where a list has none
abbrev pub empty_root : Node
empty_root = directory [] 0

-- ---- names

abbrev pub is_plain_byte : ℕ → Bool
is_plain_byte b = is_within 0x20 0x7E b || is_within 0xA1 0xDF b

abbrev pub is_safe_byte : ℕ → Bool
is_safe_byte b = not (b == 0x2F) && not (b == 0x5C) && not (b == 0x3A)

abbrev pub is_plain_unit : TextUnit → Bool
is_plain_unit (single b) = is_plain_byte b
is_plain_unit (pair a b) = true

abbrev pub is_safe_unit : TextUnit → Bool
is_safe_unit (single b) = is_safe_byte b
is_safe_unit (pair a b) = true

-- each unit a pair, or a byte 0x20 to 0x7E or 0xA1 to 0xDF
unfoldable pub is_plain : List ℕ → Bool
is_plain nm = list_all is_plain_unit (units nm)

-- `.` or `..`
abbrev pub is_dots : List ℕ → Bool
is_dots [] = false
is_dots (a ∷ []) = a == 0x2E
is_dots (a ∷ b ∷ []) = a == 0x2E && b == 0x2E
is_dots (a ∷ b ∷ c ∷ xs) = false

-- not empty, not `.` or `..`, without `/`, `\` and `:` as units
unfoldable pub is_safe : List ℕ → Bool
is_safe [] = false
is_safe (x ∷ xs) = not (is_dots (x ∷ xs)) && list_all is_safe_unit (units (x ∷ xs))

-- ---- an entry's 12 bytes: kind (1), name offset (3), offset or parent (4), size or next (4)

abbrev pub kind : List ℕ → ℕ → ℕ
kind tab k = slice_index tab (12 * k)

abbrev pub name_offset : List ℕ → ℕ → ℕ
name_offset tab k = be24 tab (12 * k + 1)

abbrev pub offset_or_parent : List ℕ → ℕ → ℕ
offset_or_parent tab k = be32 tab (12 * k + 4)

abbrev pub size_or_next : List ℕ → ℕ → ℕ
size_or_next tab k = be32 tab (12 * k + 8)

-- the root's next; one that says 0 is read as the root alone
unfoldable pub count : List ℕ → ℕ
count tab = max 1 (size_or_next tab 0)

-- a text: the bytes up to the first 0
abbrev pub first_text : List ℕ → List ℕ
first_text [] = []
first_text (zero ∷ s) = []
first_text (suc b ∷ s) = suc b ∷ first_text s

-- the name at offset o of the texts, which stand after c entries
unfoldable pub name_at : List ℕ → ℕ → ℕ → List ℕ
name_at tab c o = first_text (drop (12 * c + o) tab)

-- where the name of entry k stands in the table; 0 for the root, which has none
abbrev pub name_place : List ℕ → ℕ → ℕ
name_place tab zero = 0
name_place tab (suc k) = 12 * count tab + name_offset tab (suc k)

abbrev pub node_with : ℕ → List ℕ → ℕ → ℕ → Node
node_with zero nm a b = file nm a b
node_with (suc n) nm a b = directory nm b

-- entry k, past the root, of a table of c entries; the stored parent is not read
unfoldable pub node_at : List ℕ → ℕ → ℕ → Node
node_at tab c k = node_with (kind tab k) (name_at tab c (name_offset tab k)) (offset_or_parent tab k) (size_or_next tab k)

-- n entries from k on
unfoldable pub nodes_from : List ℕ → ℕ → ℕ → ℕ → List Node
nodes_from tab c k zero = []
nodes_from tab c k (suc n) = node_at tab c k ∷ nodes_from tab c (suc k) n

-- the entries of a table, entry k at place k
unfoldable pub nodes_of : List ℕ → List Node
nodes_of tab = directory [] (count tab) ∷ nodes_from tab (count tab) 1 (count tab - 1)

-- ---- acceptance: the root, each further entry in turn, the limits, and then the walk over names and nesting

unfoldable pub entry_verdict : List ℕ → ℕ → Verdict
entry_verdict tab k = refuse (nat_lt (length tab) (12 * k + 12)) EntryPastTable (refuse (nat_lt 1 (kind tab k)) UnrecognizedKind (Ok tt))

-- n entries from k on, each in turn
unfoldable pub entries_verdict : List ℕ → ℕ → ℕ → Verdict
entries_verdict tab k zero = Ok tt
entries_verdict tab k (suc n) = first (entry_verdict tab k) (entries_verdict tab (suc k) n)

-- the last text, if there are texts after c entries, has no zero byte at its end
unfoldable pub is_unended : List ℕ → ℕ → Bool
is_unended tab c = nat_lt (12 * c) (length tab) && not ((slice_index tab (length tab - 1)) == 0)

-- the walk keeps the "next" of each directory that is open, the innermost first; this is the innermost one's
abbrev pub top : List ℕ → ℕ
top [] = 0
top (n ∷ dirs) = n

-- the directories still open at entry k
unfoldable pub dirs_open_at : ℕ → List ℕ → List ℕ
dirs_open_at k [] = []
dirs_open_at k (n ∷ dirs) = if nat_le n k then dirs_open_at k dirs else n ∷ dirs

abbrev pub dirs_with : List ℕ → Node → List ℕ
dirs_with dirs (file nm offset size) = dirs
dirs_with dirs (directory nm next) = next ∷ dirs

-- of a name by itself
abbrev pub units_verdict : List ℕ → Verdict
units_verdict nm = refuse (not (is_plain nm)) InvalidNameByte (refuse (not (is_safe nm)) UnsafeName (Ok tt))

unfoldable pub name_verdict : List ℕ → ℕ → ℕ → List ℕ → Verdict
name_verdict tab c k nm = refuse (nat_le (length tab - 12 * c) (name_offset tab k)) InvalidNameOffset (units_verdict nm)

-- the next, and then the depth, which is the number of directories open
unfoldable pub next_verdict : ℕ → List ℕ → ℕ → Node → Verdict
next_verdict c dirs k (file nm offset size) = Ok tt
next_verdict c dirs k (directory nm next) =
    refuse (nat_le next k) InvalidNextIndex
    (refuse (nat_lt c next) InvalidNextIndex
    (refuse (nat_lt (top dirs) next) InvalidNextIndex
    (refuse (nat_lt 64 (length dirs)) LimitOrMemory (Ok tt))))

-- the walk over entries k and on, which read as xs
unfoldable pub walk : List ℕ → ℕ → List ℕ → ℕ → List Node → Verdict
walk tab c dirs k [] = Ok tt
walk tab c dirs k (x ∷ xs) =
    first (name_verdict tab c k (name_of x))
    (first (next_verdict c (dirs_open_at k dirs) k x)
    (walk tab c (dirs_with (dirs_open_at k dirs) x) (suc k) xs))

-- a table, with so many working words lent
unfoldable pub check : List ℕ → ℕ → Verdict
check tab words =
    refuse (nat_lt (length tab) 12) EntryPastTable
    (refuse (nat_lt 1 (kind tab 0)) UnrecognizedKind
    (refuse (kind tab 0 == 0) RootIsNotDirectory
    (refuse (nat_lt 16384 (count tab)) LimitOrMemory
    (first (entries_verdict tab 1 (count tab - 1))
    (refuse (is_unended tab (count tab)) MissingNullTerminator
    (refuse (nat_lt 1048576 (length tab - 12 * count tab)) LimitOrMemory
    (refuse (nat_lt words (4 * (count tab + 2))) LimitOrMemory
    (refuse (nat_le (size_or_next tab 0) 0) InvalidNextIndex
    (walk tab (count tab) (count tab ∷ []) 1 (nodes_from tab (count tab) 1 (count tab - 1)))))))))))

-- ---- nesting

abbrev pub is_enclosing : Node → ℕ → Bool
is_enclosing (file nm offset size) k = false
is_enclosing (directory nm next) k = nat_lt k next

-- the last directory below i whose entries k is among, 0 where there is none
unfoldable pub parent_below : List Node → ℕ → ℕ → ℕ
parent_below nodes k zero = 0
parent_below nodes k (suc i) = if is_enclosing (slice_index_or nodes i empty_root) k then i else parent_below nodes k i

-- the directory that entry k is nested in; 0 for the root
unfoldable pub parent_of : List Node → ℕ → ℕ
parent_of nodes k = parent_below nodes k k

-- ---- written: in preorder, the root's name and parent 0, and each entry's name after the last one's, never shared

-- an entry with parent p and name offset o
abbrev pub node_bytes : ℕ → ℕ → Node → List ℕ
node_bytes p o (file nm offset size) = 0 ∷ (be24_bytes o ++ (be32_bytes offset ++ be32_bytes size))
node_bytes p o (directory nm next) = 1 ∷ (be24_bytes o ++ (be32_bytes p ++ be32_bytes next))

-- entries k and on, which are xs; the first one's name starts at o
unfoldable pub entries_bytes : List Node → ℕ → ℕ → List Node → List ℕ
entries_bytes nodes k o [] = []
entries_bytes nodes k o (x ∷ xs) = node_bytes (parent_of nodes k) o x ++ entries_bytes nodes (suc k) (o + suc (length (name_of x))) xs

unfoldable pub texts_of : List Node → List ℕ
texts_of [] = []
texts_of (x ∷ xs) = name_of x ++ (0 ∷ texts_of xs)

-- the table of a list of entries; the root has no text
unfoldable pub encode : List Node → List ℕ
encode [] = []
encode (root ∷ xs) = node_bytes 0 0 root ++ (entries_bytes (root ∷ xs) 1 0 xs ++ texts_of xs)

-- ---- the limits of a tree that is written

-- an entry below those directories is no directory deeper than 64
abbrev pub is_shallow_entry : List ℕ → Node → Bool
is_shallow_entry dirs (file nm offset size) = true
is_shallow_entry dirs (directory nm next) = nat_le (length dirs) 64

-- no directory among entries k and on is deeper than 64
unfoldable pub is_shallow_from : List ℕ → ℕ → List Node → Bool
is_shallow_from dirs k [] = true
is_shallow_from dirs k (x ∷ xs) = is_shallow_entry (dirs_open_at k dirs) x && is_shallow_from (dirs_with (dirs_open_at k dirs) x) (suc k) xs

unfoldable pub is_shallow : List Node → Bool
is_shallow nodes = is_shallow_from (length nodes ∷ []) 1 (tail nodes)

-- of a tree to be written, as at opening; the texts are the written ones
unfoldable pub limits : List Node → ℕ → Verdict
limits nodes words =
    refuse (nat_lt 16384 (length nodes)) LimitOrMemory
    (refuse (nat_lt 1048576 (length (texts_of (tail nodes)))) LimitOrMemory
    (refuse (nat_lt words (4 * (length nodes + 2))) LimitOrMemory
    (refuse (not (is_shallow nodes)) LimitOrMemory (Ok tt))))
