-- A worked ledger from a first image to its end, by computing: a file that has bytes moved, shrunk and grown, a file inserted and left alone,
-- one inserted and grown, one filled, refused calls, directories made; then every field of every file. Assumes nothing.
use Rattle.std.specs.Prelude.{ℕ, ◌≡◌, refl, true, false, List, [], ◌∷◌, length, get_or, replicate}
use Rattle.std.proofs.Common.{ap, ◌∙◌}
use Rattle.endian.specs.Bytes.{be24, be32, be32_bytes, put, are_same_bytes}
use Rattle.header.specs.Fields.{fst_offset_field, fst_size_field}
use Rattle.tree.specs.Units.{units}
use Rattle.tree.specs.Table.{file, directory, empty_root, is_plain, is_safe, count, name_at, node_at, nodes_from, nodes_of, parent_below, parent_of}
use Rattle.tree.specs.Lookup.{components_of, components, first_child, child_of}
use Rattle.tree.specs.Insert.{raised_next, splice, insert_at, set_place}
use Rattle.opened.specs.Opening.{table_of, nodes_in}
use Rattle.edit_rules.specs.Edits.{insert_file, make_directories, move_file, resize_file, fill_file, rewrite, make}
use Rattle.ledger.specs.Ledger.{Ledger, files_before, history_of, first_histories, first_ledger, put_in, Report, ledger_after}

-- ---- the first image: a directory `d` with the file `x` in it, 4 bytes at 0x4B0, then the file `a`, 3 bytes at 0x4A0

abbrev table : List ℕ
table =
    1 ∷ 0 ∷ 0 ∷ 0 ∷ 0 ∷ 0 ∷ 0 ∷ 0 ∷ 0 ∷ 0 ∷ 0 ∷ 4 ∷
    1 ∷ 0 ∷ 0 ∷ 0 ∷ 0 ∷ 0 ∷ 0 ∷ 0 ∷ 0 ∷ 0 ∷ 0 ∷ 3 ∷
    0 ∷ 0 ∷ 0 ∷ 2 ∷ 0 ∷ 0 ∷ 4 ∷ 0xB0 ∷ 0 ∷ 0 ∷ 0 ∷ 4 ∷
    0 ∷ 0 ∷ 0 ∷ 4 ∷ 0 ∷ 0 ∷ 4 ∷ 0xA0 ∷ 0 ∷ 0 ∷ 0 ∷ 3 ∷
    0x64 ∷ 0 ∷ 0x78 ∷ 0 ∷ 0x61 ∷ 0 ∷ []

image : List ℕ
image =
    put (put (put (put (put (replicate 0x4C0 0) fst_offset_field.at (be32_bytes 0x440)) fst_size_field.at (be32_bytes 54)) 0x440 table) 0x4A0 (7 ∷ 8 ∷ 9 ∷ [])) 0x4B0 (6 ∷ 5 ∷ 4 ∷ 3 ∷ [])

first : Ledger
first = record {
  nodes = directory [] 4 ∷ directory (0x64 ∷ []) 3 ∷ file (0x78 ∷ []) 0 4 ∷ file (0x61 ∷ []) 0 3 ∷ [];
  histories =
      record { place = 0x4B0; bytes = 6 ∷ 5 ∷ 4 ∷ 3 ∷ []; m = 4; named = false } ∷
      record { place = 0x4A0; bytes = 7 ∷ 8 ∷ 9 ∷ []; m = 3; named = false } ∷ [];
}

-- at first: the tree of the image, m each file's size, none named
begins : first_ledger image ≡ first
unfolding first image put first_histories nodes_in table_of nodes_of nodes_from node_at name_at count be24 be32
begins = refl

-- ---- the list

list : List Report
list =
    -- file `b` into `d`: entry 3, `a` is entry 4 now
    record { edit = insert_file 1 (0x62 ∷ []); accepted = true } ∷
    -- `a` moved, shrunk to 2 bytes, grown to 5
    record { edit = move_file 4 0x4A8; accepted = true } ∷
    record { edit = resize_file 4 2; accepted = true } ∷
    record { edit = resize_file 4 5; accepted = true } ∷
    -- refused calls: `x` moved, resized; a file and a directory put in
    record { edit = move_file 2 0x4A8; accepted = false } ∷
    record { edit = resize_file 2 1; accepted = false } ∷
    record { edit = insert_file 1 (0x7A ∷ []); accepted = false } ∷
    record { edit = make_directories 0 (0x7A ∷ []); accepted = false } ∷
    -- the path `d/e`: directory `e` is entry 4, `a` is entry 5 now
    record { edit = make_directories 0 (0x64 ∷ 0x2F ∷ 0x65 ∷ []); accepted = true } ∷
    -- file `c` into the root: entry 6; grown to 1 byte
    record { edit = insert_file 0 (0x63 ∷ []); accepted = true } ∷
    record { edit = resize_file 6 1; accepted = true } ∷
    -- file `f` into the root: entry 7; filled with 3 bytes, grown to 5; a refused fill of `x`
    record { edit = insert_file 0 (0x66 ∷ []); accepted = true } ∷
    record { edit = fill_file 7 (1 ∷ 2 ∷ 3 ∷ []); accepted = true } ∷
    record { edit = resize_file 7 5; accepted = true } ∷
    record { edit = fill_file 2 (1 ∷ []); accepted = false } ∷
    record { edit = rewrite; accepted = true } ∷ []

pub last : Ledger
last = ledger_after list (first_ledger image)

-- ---- the end: each entry with its kind, name and size (a place is 0), what it is nested in, and each file's history

pub record Worked : Type 0 where
  pub root : get_or last.nodes 0 empty_root ≡ directory [] 8
  pub d : (get_or last.nodes 1 empty_root ≡ directory (0x64 ∷ []) 5) × (parent_of last.nodes 1 ≡ 0)
  -- no accepted call named `x`
  pub x : (get_or last.nodes 2 empty_root ≡ file (0x78 ∷ []) 0 4) × (parent_of last.nodes 2 ≡ 1)
  pub x-history : history_of last 2 ≡ record { place = 0x4B0; bytes = 6 ∷ 5 ∷ 4 ∷ 3 ∷ []; m = 4; named = false }
  -- `b` was put in and left alone
  pub b : (get_or last.nodes 3 empty_root ≡ file (0x62 ∷ []) 0 0) × (parent_of last.nodes 3 ≡ 1)
  pub b-history : history_of last 3 ≡ record { place = 0; bytes = []; m = 0; named = false }
  pub e : (get_or last.nodes 4 empty_root ≡ directory (0x65 ∷ []) 5) × (parent_of last.nodes 4 ≡ 1)
  -- `a` began with 3 bytes, had 2 once, has 5 now
  pub a : (get_or last.nodes 5 empty_root ≡ file (0x61 ∷ []) 0 5) × (parent_of last.nodes 5 ≡ 0)
  pub a-history : history_of last 5 ≡ record { place = 0x4A0; bytes = 7 ∷ 8 ∷ 9 ∷ []; m = 2; named = true }
  -- `c` was put in and grown
  pub c : (get_or last.nodes 6 empty_root ≡ file (0x63 ∷ []) 0 1) × (parent_of last.nodes 6 ≡ 0)
  pub c-history : history_of last 6 ≡ record { place = 0; bytes = []; m = 0; named = true }
  -- `f` was put in, filled and grown
  pub f : (get_or last.nodes 7 empty_root ≡ file (0x66 ∷ []) 0 5) × (parent_of last.nodes 7 ≡ 0)
  pub f-history : history_of last 7 ≡ record { place = 0; bytes = 1 ∷ 2 ∷ 3 ∷ []; m = 3; named = true }
  -- and there is no more
  pub whole : (length last.nodes ≡ 8) × (length last.histories ≡ 5)

abbrev end : Ledger
end = record {
  nodes = directory [] 8 ∷ directory (0x64 ∷ []) 5 ∷ file (0x78 ∷ []) 0 4 ∷ file (0x62 ∷ []) 0 0 ∷ directory (0x65 ∷ []) 5 ∷ file (0x61 ∷ []) 0 5 ∷ file (0x63 ∷ []) 0 1 ∷ file (0x66 ∷ []) 0 5 ∷ [];
  histories =
      record { place = 0x4B0; bytes = 6 ∷ 5 ∷ 4 ∷ 3 ∷ []; m = 4; named = false } ∷
      record { place = 0; bytes = []; m = 0; named = false } ∷
      record { place = 0x4A0; bytes = 7 ∷ 8 ∷ 9 ∷ []; m = 2; named = true } ∷
      record { place = 0; bytes = []; m = 0; named = true } ∷
      record { place = 0; bytes = 1 ∷ 2 ∷ 3 ∷ []; m = 3; named = true } ∷ [];
}

ends : ledger_after list first ≡ end
unfolding list first ledger_after files_before put_in insert_at splice raised_next set_place make components child_of first_child parent_of parent_below are_same_bytes is_plain is_safe components_of units
ends = refl

after : last ≡ end
unfolding last
after = ap (ledger_after list) begins ∙ ends

pub worked : Worked
unfolding files_before parent_of parent_below
worked = record {
  root = rw after;
  d = (rw after, rw after);
  x = (rw after, rw after);
  x-history = rw after;
  b = (rw after, rw after);
  b-history = rw after;
  e = (rw after, rw after);
  a = (rw after, rw after);
  a-history = rw after;
  c = (rw after, rw after);
  c-history = rw after;
  f = (rw after, rw after);
  f-history = rw after;
  whole = (rw after, rw after);
}
