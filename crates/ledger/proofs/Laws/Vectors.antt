-- A worked ledger, by computing: the calls of a list entered one by one. Assumes nothing.
use Rattle.std.specs.Prelude.{◌≡◌, refl, true, false, List, [], ◌∷◌}
use Rattle.endian.specs.Bytes.{are_same_bytes}
use Rattle.tree.specs.Units.{units}
use Rattle.tree.specs.Table.{file, directory, is_plain, is_safe, parent_below, parent_of}
use Rattle.tree.specs.Lookup.{components_of, components, first_child, child_of}
use Rattle.tree.specs.Insert.{raised_next, splice, insert_at, set_place}
use Rattle.edit_rules.specs.Edits.{insert_file, insert_directory, make_directories, move_file, resize_file, fill_file, rewrite, make}
use Rattle.ledger.specs.Ledger.{Ledger, files_before, put_in, Report, ledger_after}

-- a tree with one file, `a`, which lay at 0x500 and had the bytes 7, 8, 9
before : Ledger
before = record {
  nodes = directory [] 2 ∷ file (0x61 ∷ []) 0 3 ∷ [];
  histories = record { place = 0x500; bytes = 7 ∷ 8 ∷ 9 ∷ []; m = 3; named = false } ∷ [];
}

-- directory `d`, then `d/e` in it, then file `d/b`; `a` down to 2 bytes; a refused resize; `a` up to 3 bytes; `b` moved; the table rewritten; `b`
-- filled with 4 bytes, down to 3, up to 6; a refused fill of `a`
list : List Report
list =
    record { edit = insert_directory 0 (0x64 ∷ []); accepted = true } ∷
    record { edit = make_directories 0 (0x64 ∷ 0x2F ∷ 0x65 ∷ []); accepted = true } ∷
    record { edit = insert_file 2 (0x62 ∷ []); accepted = true } ∷
    record { edit = resize_file 1 2; accepted = true } ∷
    record { edit = resize_file 1 0; accepted = false } ∷
    record { edit = resize_file 1 3; accepted = true } ∷
    record { edit = move_file 4 0x600; accepted = true } ∷
    record { edit = rewrite; accepted = true } ∷
    record { edit = fill_file 4 (1 ∷ 2 ∷ 3 ∷ 4 ∷ []); accepted = true } ∷
    record { edit = resize_file 4 3; accepted = true } ∷
    record { edit = resize_file 4 6; accepted = true } ∷
    record { edit = fill_file 1 (5 ∷ []); accepted = false } ∷ []

-- m of `a` is 2, though its size is 3 again; `b` starts with the clip, and its m is 3 of it
after : ledger_after list before ≡ record {
  nodes = directory [] 5 ∷ file (0x61 ∷ []) 0 3 ∷ directory (0x64 ∷ []) 5 ∷ directory (0x65 ∷ []) 4 ∷ file (0x62 ∷ []) 0 6 ∷ [];
  histories = record { place = 0x500; bytes = 7 ∷ 8 ∷ 9 ∷ []; m = 2; named = true } ∷ record { place = 0; bytes = 1 ∷ 2 ∷ 3 ∷ 4 ∷ []; m = 3; named = true } ∷ [];
}
unfolding before list ledger_after files_before put_in insert_at splice raised_next set_place make components child_of first_child parent_of parent_below are_same_bytes is_plain is_safe components_of units
after = refl
