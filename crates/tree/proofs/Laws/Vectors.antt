-- The small master's table read, written and accepted; a table for each refusal; nesting, shared names, an insert; and paths: by
-- computing. Assumes nothing.
use Rattle.std.specs.Prelude.{Ok, Err}
use Rattle.refusal.specs.Refusal.{Verdict}
use Rattle.std.specs.Prelude.{ℕ, ◌≡◌, refl, List, [], ◌∷◌, ◌++◌, set, take}
use Rattle.endian.specs.Bytes.{be24, be32, put, be32_bytes, are_same_bytes}
use Rattle.refusal.specs.declared.Refusal.TheVariants.{EntryPastTable, UnrecognizedKind, RootIsNotDirectory, MissingNullTerminator, LimitOrMemory, InvalidNextIndex, InvalidNameOffset, InvalidNameByte, UnsafeName, NoSuchEntry, ExpectedDirectory, NotFound}
use Rattle.tree.specs.Units.{units}
use Rattle.tree.specs.Table.{Node, file, directory, is_plain, is_safe, count, name_at, node_at, nodes_from, nodes_of, entry_verdict, entries_verdict, is_unended, dirs_open_at, name_verdict, next_verdict, walk, check, parent_below, parent_of, entries_bytes, texts_of, encode}
use Rattle.tree.specs.Lookup.{components_of, components, first_child, child_of, follow, lookup}
use Rattle.tree.specs.Insert.{empty_file, raised_next, splice, insert_at, number_after_insert}
use Rattle.tree.specs.Inner.Patch.{records, record_before, record_after, patched_record, new_start, insert_patch}

-- ---- the small master: the root and the file `a`, and the texts

abbrev pub master : List ℕ
master = 1 ∷ 0 ∷ 0 ∷ 0 ∷ 0 ∷ 0 ∷ 0 ∷ 0 ∷ 0 ∷ 0 ∷ 0 ∷ 2 ∷ 0 ∷ 0 ∷ 0 ∷ 0 ∷ 0 ∷ 0 ∷ 5 ∷ 0 ∷ 0 ∷ 0 ∷ 1 ∷ 0 ∷ 0x61 ∷ 0 ∷ []

abbrev tree : List Node
tree = directory [] 2 ∷ file (0x61 ∷ []) 0x500 0x100 ∷ []

master-reads : nodes_of master ≡ tree
unfolding nodes_of nodes_from node_at name_at count be24 be32
master-reads = refl

master-written : encode tree ≡ master
unfolding encode entries_bytes texts_of parent_of parent_below
master-written = refl

master-accepted : check master 16 ≡ Ok tt
unfolding check nodes_from node_at name_at count entries_verdict entry_verdict is_unended walk name_verdict next_verdict dirs_open_at is_plain is_safe units be24 be32
master-accepted = refl

-- ---- each refusal of a table, 5 to 13; a count of 0 is 10, of 2^24 it is 9

refusals :
    (check (take 11 master) 16 ≡ Err EntryPastTable) ×
    (check (take 23 master) 16 ≡ Err EntryPastTable) ×
    (check (set master 0 2) 16 ≡ Err UnrecognizedKind) ×
    (check (set master 12 2) 16 ≡ Err UnrecognizedKind) ×
    (check (set master 0 0) 16 ≡ Err RootIsNotDirectory) ×
    (check (take 25 master) 16 ≡ Err MissingNullTerminator) ×
    (check master 15 ≡ Err LimitOrMemory) ×
    (check (set master 8 1) 16 ≡ Err LimitOrMemory) ×
    (check (set master 11 0) 16 ≡ Err InvalidNextIndex) ×
    (check (set (set master 12 1) 23 1) 16 ≡ Err InvalidNextIndex) ×
    (check (set (set master 12 1) 22 3) 16 ≡ Err InvalidNextIndex) ×
    (check (set master 15 2) 16 ≡ Err InvalidNameOffset) ×
    (check (set master 24 0x1F) 16 ≡ Err InvalidNameByte) ×
    (check (take 24 master ++ (0x2F ∷ 0x7F ∷ 0 ∷ [])) 16 ≡ Err InvalidNameByte) ×
    (check (set master 24 0x2E) 16 ≡ Err UnsafeName) ×
    (check (set master 24 0x3A) 16 ≡ Err UnsafeName) ×
    (check (set master 15 1) 16 ≡ Err UnsafeName)
unfolding check nodes_from node_at name_at count entries_verdict entry_verdict is_unended walk name_verdict next_verdict dirs_open_at is_plain is_safe units be24 be32
refusals = (refl, refl, refl, refl, refl, refl, refl, refl, refl, refl, refl, refl, refl, refl, refl, refl, refl)

-- ---- a directory `d` with a file `b` in it, then a file `b` beside it; both files have the one text `b`, and the stored parents are wrong

abbrev pub shared : List ℕ
shared =
    (1 ∷ 0 ∷ 0 ∷ 0 ∷ be32_bytes 0 ++ be32_bytes 4) ++ ((1 ∷ 0 ∷ 0 ∷ 0 ∷ be32_bytes 7 ++ be32_bytes 3) ++ ((0 ∷ 0 ∷ 0 ∷ 2 ∷ be32_bytes 9 ++ be32_bytes 8) ++ ((0 ∷ 0 ∷ 0 ∷ 2 ∷ be32_bytes 6 ++ be32_bytes 5) ++ (0x64 ∷ 0 ∷ 0x62 ∷ 0 ∷ []))))

abbrev nested : List Node
nested = directory [] 4 ∷ directory (0x64 ∷ []) 3 ∷ file (0x62 ∷ []) 9 8 ∷ file (0x62 ∷ []) 6 5 ∷ []

shared-accepted : (check shared 24 ≡ Ok tt) × (nodes_of shared ≡ nested)
unfolding check nodes_of nodes_from node_at name_at count entries_verdict entry_verdict is_unended walk name_verdict next_verdict dirs_open_at is_plain is_safe units be24 be32
shared-accepted = (refl, refl)

-- written, each name has a text of its own and the parent is the one it is nested in: two bytes more
shared-written : encode nested ≡ put (put (put (take 50 shared ++ (0x62 ∷ 0 ∷ 0x62 ∷ 0 ∷ [])) 16 (be32_bytes 0)) 39 (4 ∷ [])) 50 (0x62 ∷ [])
unfolding encode entries_bytes texts_of parent_of parent_below put
shared-written = refl

-- an empty file `c` as the last child of `d`: entry 3, and the table of the new tree is the old one patched
grown : insert_at 1 (empty_file (0x63 ∷ [])) nested ≡ directory [] 5 ∷ directory (0x64 ∷ []) 4 ∷ file (0x62 ∷ []) 9 8 ∷ file (0x63 ∷ []) 0 0 ∷ file (0x62 ∷ []) 6 5 ∷ []
unfolding insert_at splice raised_next
grown = refl

grown-patched : insert_patch (encode nested) 4 1 (empty_file (0x63 ∷ [])) ≡ encode (insert_at 1 (empty_file (0x63 ∷ [])) nested)
unfolding insert_patch records patched_record record_before record_after new_start encode entries_bytes texts_of parent_of parent_below insert_at splice raised_next number_after_insert be24 be32
grown-patched = refl

-- ---- directories inside directories, `d/x`, `d/e/g/y` and `f`: the stored parent is 0 for `d` and `f`, 1 for `e`, 3 for `g`

abbrev deep : List Node
deep = directory [] 7 ∷ directory (0x64 ∷ []) 6 ∷ file (0x78 ∷ []) 0x500 0x10 ∷ directory (0x65 ∷ []) 6 ∷ directory (0x67 ∷ []) 6 ∷ file (0x79 ∷ []) 0x600 0x20 ∷ directory (0x66 ∷ []) 7 ∷ []

abbrev pub deep_bytes : List ℕ
deep_bytes =
    1 ∷ 0 ∷ 0 ∷ 0 ∷ 0 ∷ 0 ∷ 0 ∷ 0 ∷ 0 ∷ 0 ∷ 0 ∷ 7 ∷
    1 ∷ 0 ∷ 0 ∷ 0 ∷ 0 ∷ 0 ∷ 0 ∷ 0 ∷ 0 ∷ 0 ∷ 0 ∷ 6 ∷
    0 ∷ 0 ∷ 0 ∷ 2 ∷ 0 ∷ 0 ∷ 5 ∷ 0 ∷ 0 ∷ 0 ∷ 0 ∷ 0x10 ∷
    1 ∷ 0 ∷ 0 ∷ 4 ∷ 0 ∷ 0 ∷ 0 ∷ 1 ∷ 0 ∷ 0 ∷ 0 ∷ 6 ∷
    1 ∷ 0 ∷ 0 ∷ 6 ∷ 0 ∷ 0 ∷ 0 ∷ 3 ∷ 0 ∷ 0 ∷ 0 ∷ 6 ∷
    0 ∷ 0 ∷ 0 ∷ 8 ∷ 0 ∷ 0 ∷ 6 ∷ 0 ∷ 0 ∷ 0 ∷ 0 ∷ 0x20 ∷
    1 ∷ 0 ∷ 0 ∷ 10 ∷ 0 ∷ 0 ∷ 0 ∷ 0 ∷ 0 ∷ 0 ∷ 0 ∷ 7 ∷
    0x64 ∷ 0 ∷ 0x78 ∷ 0 ∷ 0x65 ∷ 0 ∷ 0x67 ∷ 0 ∷ 0x79 ∷ 0 ∷ 0x66 ∷ 0 ∷ []

deep-written : encode deep ≡ deep_bytes
unfolding encode entries_bytes texts_of parent_of parent_below
deep-written = refl

deep-accepted : (check deep_bytes 36 ≡ Ok tt) × (nodes_of deep_bytes ≡ deep)
unfolding check nodes_of nodes_from node_at name_at count entries_verdict entry_verdict is_unended walk name_verdict next_verdict dirs_open_at is_plain is_safe units be24 be32
deep-accepted = (refl, refl)

-- ---- paths: ``, `d/b`, `d/../b`, `./d\b`, `..`, `b/`, `d/x`, and an entry that is none

looked-up :
    (lookup nested 0 [] ≡ Ok 0) ×
    (lookup nested 0 (0x64 ∷ 0x2F ∷ 0x62 ∷ []) ≡ Ok 2) ×
    (lookup nested 0 (0x64 ∷ 0x2F ∷ 0x2E ∷ 0x2E ∷ 0x2F ∷ 0x62 ∷ []) ≡ Ok 3) ×
    (lookup nested 0 (0x2E ∷ 0x2F ∷ 0x64 ∷ 0x5C ∷ 0x62 ∷ []) ≡ Ok 2) ×
    (lookup nested 1 (0x2E ∷ 0x2E ∷ []) ≡ Err NotFound) ×
    (lookup nested 0 (0x62 ∷ 0x2F ∷ []) ≡ Err ExpectedDirectory) ×
    (lookup nested 0 (0x64 ∷ 0x2F ∷ 0x78 ∷ []) ≡ Err NotFound) ×
    (lookup nested 4 [] ≡ Err NoSuchEntry)
unfolding lookup follow components components_of units child_of first_child parent_of parent_below are_same_bytes
looked-up = (refl, refl, refl, refl, refl, refl, refl, refl)

-- ---- Japanese names: `表` (0x95 0x5C), half-width katakana from the first to the last, a pair of two lead bytes and then one with the trail
-- byte 0x5C

named : List ℕ → List ℕ
named nm = take 24 master ++ (nm ++ (0 ∷ []))

-- the verdict on a name, which is the small master's one
judged : List ℕ → Verdict
judged nm = check (named nm) 16

names-accepted :
    (judged (0x95 ∷ 0x5C ∷ []) ≡ Ok tt) ×
    (judged (0xA1 ∷ 0xB1 ∷ 0xDF ∷ []) ≡ Ok tt) ×
    (judged (0x81 ∷ 0x81 ∷ 0x81 ∷ 0x5C ∷ []) ≡ Ok tt)
unfolding judged named check nodes_from node_at name_at count entries_verdict entry_verdict is_unended walk name_verdict next_verdict dirs_open_at is_plain is_safe units be24 be32
names-accepted = (refl, refl, refl)

-- a lead byte at the end, before `:` and before `/`; 0x80, 0xA0, 0xE0, 0xFD and 0xFF; `\` behind a pair and behind 0xDF, and `:`
names-refused :
    (judged (0x61 ∷ 0x81 ∷ []) ≡ Err InvalidNameByte) ×
    (judged (0x95 ∷ 0x3A ∷ []) ≡ Err InvalidNameByte) ×
    (judged (0x95 ∷ 0x2F ∷ []) ≡ Err InvalidNameByte) ×
    (judged (0x80 ∷ []) ≡ Err InvalidNameByte) ×
    (judged (0xA0 ∷ []) ≡ Err InvalidNameByte) ×
    (judged (0xE0 ∷ []) ≡ Err InvalidNameByte) ×
    (judged (0xFD ∷ []) ≡ Err InvalidNameByte) ×
    (judged (0xFF ∷ []) ≡ Err InvalidNameByte) ×
    (judged (0x81 ∷ 0x81 ∷ 0x5C ∷ []) ≡ Err UnsafeName) ×
    (judged (0xDF ∷ 0x5C ∷ []) ≡ Err UnsafeName) ×
    (judged (0x95 ∷ 0x5C ∷ 0x3A ∷ []) ≡ Err UnsafeName)
unfolding judged named check nodes_from node_at name_at count entries_verdict entry_verdict is_unended walk name_verdict next_verdict dirs_open_at is_plain is_safe units be24 be32
names-refused = (refl, refl, refl, refl, refl, refl, refl, refl, refl, refl, refl)

-- the first and the last lead byte of each range, and the first and the last trail byte
pairs-accepted :
    (judged (0x81 ∷ 0x40 ∷ []) ≡ Ok tt) ×
    (judged (0x9F ∷ 0x40 ∷ []) ≡ Ok tt) ×
    (judged (0xE0 ∷ 0x40 ∷ []) ≡ Ok tt) ×
    (judged (0xFC ∷ 0x40 ∷ []) ≡ Ok tt) ×
    (judged (0x81 ∷ 0x7E ∷ []) ≡ Ok tt) ×
    (judged (0x81 ∷ 0x80 ∷ []) ≡ Ok tt) ×
    (judged (0x81 ∷ 0xFC ∷ []) ≡ Ok tt)
unfolding judged named check nodes_from node_at name_at count entries_verdict entry_verdict is_unended walk name_verdict next_verdict dirs_open_at is_plain is_safe units be24 be32
pairs-accepted = (refl, refl, refl, refl, refl, refl, refl)

-- the bytes beside the ranges are no lead bytes and no trail bytes; 0xDF, which is a name's byte, is among the paths below
pairs-refused :
    (judged (0x80 ∷ 0x40 ∷ []) ≡ Err InvalidNameByte) ×
    (judged (0xA0 ∷ 0x40 ∷ []) ≡ Err InvalidNameByte) ×
    (judged (0xFD ∷ 0x40 ∷ []) ≡ Err InvalidNameByte) ×
    (judged (0x81 ∷ 0x3F ∷ []) ≡ Err InvalidNameByte) ×
    (judged (0x81 ∷ 0x7F ∷ []) ≡ Err InvalidNameByte) ×
    (judged (0x81 ∷ 0xFD ∷ []) ≡ Err InvalidNameByte)
unfolding judged named check nodes_from node_at name_at count entries_verdict entry_verdict is_unended walk name_verdict next_verdict dirs_open_at is_plain is_safe units be24 be32
pairs-refused = (refl, refl, refl, refl, refl, refl)

-- a name that starts inside a pair of another text has units of its own: the text 0x81 0x5C read from its second byte is `\`
inside-a-pair : check (set (named (0x81 ∷ 0x5C ∷ [])) 15 1) 16 ≡ Err UnsafeName
unfolding named check nodes_from node_at name_at count entries_verdict entry_verdict is_unended walk name_verdict next_verdict dirs_open_at is_plain is_safe units be24 be32
inside-a-pair = refl

-- ---- paths with lead bytes: `表\b` is cut once, 0x81 0x5C `b` not at all; behind 0x81 0x81 a `\` cuts, and behind 0xA0 and 0xDF, which are no
-- lead bytes; 0x81 0x2F cuts at the 0x2F; a lead byte at the end stays
paths-cut :
    (components (0x95 ∷ 0x5C ∷ 0x5C ∷ 0x62 ∷ []) ≡ (0x95 ∷ 0x5C ∷ []) ∷ (0x62 ∷ []) ∷ []) ×
    (components (0x81 ∷ 0x5C ∷ 0x62 ∷ []) ≡ (0x81 ∷ 0x5C ∷ 0x62 ∷ []) ∷ []) ×
    (components (0x81 ∷ 0x81 ∷ 0x5C ∷ 0x62 ∷ []) ≡ (0x81 ∷ 0x81 ∷ []) ∷ (0x62 ∷ []) ∷ []) ×
    (components (0xA0 ∷ 0x5C ∷ 0x62 ∷ []) ≡ (0xA0 ∷ []) ∷ (0x62 ∷ []) ∷ []) ×
    (components (0xDF ∷ 0x5C ∷ 0x62 ∷ []) ≡ (0xDF ∷ []) ∷ (0x62 ∷ []) ∷ []) ×
    (components (0x81 ∷ 0x2F ∷ 0x62 ∷ []) ≡ (0x81 ∷ []) ∷ (0x62 ∷ []) ∷ []) ×
    (components (0x62 ∷ 0x2F ∷ 0x81 ∷ []) ≡ (0x62 ∷ []) ∷ (0x81 ∷ []) ∷ [])
unfolding components components_of units
paths-cut = (refl, refl, refl, refl, refl, refl, refl)
