-- Small discs for runs to clear, written out from the layout, and what takes their bytes, by
-- computing. Assumes nothing.
use Rattle.std.specs.Prelude.{Ok}
use Rattle.std.specs.Prelude.{ℕ, suc, ◌≡◌, refl, List, [], ◌∷◌, length, replicate}
use Rattle.endian.specs.Bytes.{AllBytes, be24, be32, be32_bytes, put}
use Rattle.header.specs.Fields.{fields, gcn_magic_field, dol_offset_field, fst_offset_field, fst_size_field, user_size_field}
use Rattle.header.specs.Verdicts.{gcn_magic, field_verdict, all_fields_verdict, header_verdict, bounds_verdict}
use Rattle.tree.specs.Units.{units}
use Rattle.tree.specs.Table.{Node, file, directory, is_plain, is_safe, count, name_at, node_at, nodes_from, nodes_of, entry_verdict, entries_verdict, is_unended, dirs_open_at, name_verdict, next_verdict, walk, check, parent_below, parent_of, entries_bytes, texts_of, encode}
use Rattle.space.specs.declared.region.DiscRegion.{DiscRegion}
use Rattle.space.specs.Used.{no_region, nonempty_regions}
use Rattle.space.specs.Layout.{are_disjoint, is_disjoint_from_all, are_pairwise_disjoint, are_below, are_disjoint_below}
use Rattle.executable.specs.Dol.{words_at, largest_of}
use Rattle.executable.specs.Program.{program_of, program_in, own_region}
use Rattle.opened.specs.Opening.{table_of, nodes_in, regions_behind_table, used_in, layout_verdict, opening}
use Rattle.clearing.specs.Clearing.{Occupancy, occupancy_of}
use Rattle.worked.specs.Image.{master, master_words}
use Rattle.worked.specs.Laws.Applied.{bytes_only, bytes-only}
use Rattle.worked.specs.Laws.SheetsApplied.{master-bytes}
use Rattle.worked.specs.Laws.Marked as small
use Rattle.worked.specs.Laws.Marked.{at}

-- files of these regions, named from this letter on
abbrev files_from : ℕ → List DiscRegion → List Node
files_from letter [] = []
files_from letter (r ∷ rs) = file (letter ∷ []) r.offset r.size ∷ files_from (suc letter) rs

abbrev table : List DiscRegion → List ℕ
table files = encode (directory [] (suc (length files)) ∷ files_from 0x61 files)

-- a disc that ends at e, with these files: its table at `fst`, a program of 0xE4 bytes at `dol`, or
-- none where that is 0
abbrev disc : ℕ → ℕ → ℕ → List DiscRegion → List ℕ
disc e fst dol files =
    put (put (put (put (put (put (replicate e 0)
    gcn_magic_field.at (be32_bytes gcn_magic))
    dol_offset_field.at (be32_bytes dol))
    fst_offset_field.at (be32_bytes fst))
    fst_size_field.at (be32_bytes (length (table files))))
    user_size_field.at (be32_bytes e))
    fst (table files)

-- what takes the bytes of one whose table ends at t
abbrev pub taken : ℕ → ℕ → DiscRegion → List DiscRegion → Occupancy
taken t e program files =
    record { table_end = t; disc_end = e; program = program; files = no_region ∷ files }

-- `a` in the middle of a larger disc
unfoldable pub moved : List ℕ
moved = disc 8192 0x440 0 (at 2048 756 ∷ [])

-- a program between two files, with free bytes beside each
unfoldable pub between : List ℕ
between = disc 1500 0x440 1200 (at 1140 40 ∷ at 1440 30 ∷ [])

-- a file right before the program, and one right behind it
unfoldable pub abutted : List ℕ
abutted = disc 1460 0x440 1168 (at 1138 30 ∷ at 1396 24 ∷ [])

-- the program before all files, and behind all files
unfoldable pub before_files : List ℕ
before_files = disc 1450 0x440 1120 (at 1360 40 ∷ [])

unfoldable pub behind_files : List ℕ
behind_files = disc 1400 0x440 1160 (at 1120 30 ∷ [])

-- the program before the table, which it abuts
unfoldable pub before_table : List ℕ
before_table = disc 1400 1316 0x440 (at 1352 30 ∷ [])

-- the program right behind the table
unfoldable pub behind_table : List ℕ
behind_table = disc 1430 0x440 1128 (at 1360 30 ∷ at 1394 30 ∷ [])

-- a file right behind the table: of one byte, and of all that is there
unfoldable pub one_byte : List ℕ
one_byte = disc 1130 0x440 0 (at 1114 1 ∷ [])

unfoldable pub filled : List ℕ
filled = disc 1144 0x440 0 (at 1114 30 ∷ [])

-- two files, the later one first in the table, and two empty ones: between them, and at 0
unfoldable pub apart : List ℕ
apart = disc 1256 0x440 0 (at 1206 30 ∷ at 1201 0 ∷ at 1166 30 ∷ at 0 0 ∷ [])

-- ---- what each image reads as

abbrev pub of_master : Occupancy
of_master = taken 1114 8192 no_region (at 1280 256 ∷ [])

abbrev pub of_between : Occupancy
of_between = taken 1128 1500 (at 1200 228) (at 1140 40 ∷ at 1440 30 ∷ [])

abbrev pub of_apart : Occupancy
of_apart = taken 1156 1256 no_region (at 1206 30 ∷ at 1201 0 ∷ at 1166 30 ∷ at 0 0 ∷ [])

pub record Reads (image : List ℕ) (o : Occupancy) : Type 0 where
  pub bytes : AllBytes image
  pub opens : opening image master_words ≡ Ok tt
  pub occupied : occupancy_of image ≡ o

pub at_master : Reads master of_master
unfolding program_in own_region
at_master = record {
  bytes = master-bytes;
  opens = small.opens;
  occupied = rw (small.nodes, small.no_program, small.header.0, small.header.1, small.header.2);
}

pub at_moved : Reads moved (taken 1114 8192 no_region (at 2048 756 ∷ []))
unfolding moved put bytes_only opening layout_verdict header_verdict all_fields_verdict field_verdict fields bounds_verdict table_of check nodes_in nodes_of nodes_from node_at name_at count entries_verdict entry_verdict is_unended walk name_verdict next_verdict dirs_open_at is_plain is_safe be24 be32 used_in regions_behind_table program_of program_in own_region words_at largest_of nonempty_regions are_disjoint_below are_pairwise_disjoint is_disjoint_from_all are_disjoint are_below units encode entries_bytes texts_of parent_of parent_below
at_moved = record { bytes = bytes-only moved refl; opens = refl; occupied = refl }

pub at_between : Reads between of_between
unfolding between put bytes_only opening layout_verdict header_verdict all_fields_verdict field_verdict fields bounds_verdict table_of check nodes_in nodes_of nodes_from node_at name_at count entries_verdict entry_verdict is_unended walk name_verdict next_verdict dirs_open_at is_plain is_safe be24 be32 used_in regions_behind_table program_of program_in own_region words_at largest_of nonempty_regions are_disjoint_below are_pairwise_disjoint is_disjoint_from_all are_disjoint are_below units encode entries_bytes texts_of parent_of parent_below
at_between = record { bytes = bytes-only between refl; opens = refl; occupied = refl }

pub at_abutted : Reads abutted (taken 1128 1460 (at 1168 228) (at 1138 30 ∷ at 1396 24 ∷ []))
unfolding abutted put bytes_only opening layout_verdict header_verdict all_fields_verdict field_verdict fields bounds_verdict table_of check nodes_in nodes_of nodes_from node_at name_at count entries_verdict entry_verdict is_unended walk name_verdict next_verdict dirs_open_at is_plain is_safe be24 be32 used_in regions_behind_table program_of program_in own_region words_at largest_of nonempty_regions are_disjoint_below are_pairwise_disjoint is_disjoint_from_all are_disjoint are_below units encode entries_bytes texts_of parent_of parent_below
at_abutted = record { bytes = bytes-only abutted refl; opens = refl; occupied = refl }

pub at_before_files : Reads before_files (taken 1114 1450 (at 1120 228) (at 1360 40 ∷ []))
unfolding before_files put bytes_only opening layout_verdict header_verdict all_fields_verdict field_verdict fields bounds_verdict table_of check nodes_in nodes_of nodes_from node_at name_at count entries_verdict entry_verdict is_unended walk name_verdict next_verdict dirs_open_at is_plain is_safe be24 be32 used_in regions_behind_table program_of program_in own_region words_at largest_of nonempty_regions are_disjoint_below are_pairwise_disjoint is_disjoint_from_all are_disjoint are_below units encode entries_bytes texts_of parent_of parent_below
at_before_files = record { bytes = bytes-only before_files refl; opens = refl; occupied = refl }

pub at_behind_files : Reads behind_files (taken 1114 1400 (at 1160 228) (at 1120 30 ∷ []))
unfolding behind_files put bytes_only opening layout_verdict header_verdict all_fields_verdict field_verdict fields bounds_verdict table_of check nodes_in nodes_of nodes_from node_at name_at count entries_verdict entry_verdict is_unended walk name_verdict next_verdict dirs_open_at is_plain is_safe be24 be32 used_in regions_behind_table program_of program_in own_region words_at largest_of nonempty_regions are_disjoint_below are_pairwise_disjoint is_disjoint_from_all are_disjoint are_below units encode entries_bytes texts_of parent_of parent_below
at_behind_files = record { bytes = bytes-only behind_files refl; opens = refl; occupied = refl }

pub at_before_table : Reads before_table (taken 1342 1400 no_region (at 1352 30 ∷ []))
unfolding before_table put bytes_only opening layout_verdict header_verdict all_fields_verdict field_verdict fields bounds_verdict table_of check nodes_in nodes_of nodes_from node_at name_at count entries_verdict entry_verdict is_unended walk name_verdict next_verdict dirs_open_at is_plain is_safe be24 be32 used_in regions_behind_table program_of program_in own_region words_at largest_of nonempty_regions are_disjoint_below are_pairwise_disjoint is_disjoint_from_all are_disjoint are_below units encode entries_bytes texts_of parent_of parent_below
at_before_table = record { bytes = bytes-only before_table refl; opens = refl; occupied = refl }

pub at_apart : Reads apart of_apart
unfolding apart put bytes_only opening layout_verdict header_verdict all_fields_verdict field_verdict fields bounds_verdict table_of check nodes_in nodes_of nodes_from node_at name_at count entries_verdict entry_verdict is_unended walk name_verdict next_verdict dirs_open_at is_plain is_safe be24 be32 used_in regions_behind_table program_of program_in own_region words_at largest_of nonempty_regions are_disjoint_below are_pairwise_disjoint is_disjoint_from_all are_disjoint are_below units encode entries_bytes texts_of parent_of parent_below
at_apart = record { bytes = bytes-only apart refl; opens = refl; occupied = refl }

pub at_behind_table :
    Reads behind_table (taken 1128 1430 (at 1128 228) (at 1360 30 ∷ at 1394 30 ∷ []))
unfolding behind_table put bytes_only opening layout_verdict header_verdict all_fields_verdict field_verdict fields bounds_verdict table_of check nodes_in nodes_of nodes_from node_at name_at count entries_verdict entry_verdict is_unended walk name_verdict next_verdict dirs_open_at is_plain is_safe be24 be32 used_in regions_behind_table program_of program_in own_region words_at largest_of nonempty_regions are_disjoint_below are_pairwise_disjoint is_disjoint_from_all are_disjoint are_below units encode entries_bytes texts_of parent_of parent_below
at_behind_table = record { bytes = bytes-only behind_table refl; opens = refl; occupied = refl }

pub at_one_byte : Reads one_byte (taken 1114 1130 no_region (at 1114 1 ∷ []))
unfolding one_byte put bytes_only opening layout_verdict header_verdict all_fields_verdict field_verdict fields bounds_verdict table_of check nodes_in nodes_of nodes_from node_at name_at count entries_verdict entry_verdict is_unended walk name_verdict next_verdict dirs_open_at is_plain is_safe be24 be32 used_in regions_behind_table program_of program_in own_region words_at largest_of nonempty_regions are_disjoint_below are_pairwise_disjoint is_disjoint_from_all are_disjoint are_below units encode entries_bytes texts_of parent_of parent_below
at_one_byte = record { bytes = bytes-only one_byte refl; opens = refl; occupied = refl }

pub at_filled : Reads filled (taken 1114 1144 no_region (at 1114 30 ∷ []))
unfolding filled put bytes_only opening layout_verdict header_verdict all_fields_verdict field_verdict fields bounds_verdict table_of check nodes_in nodes_of nodes_from node_at name_at count entries_verdict entry_verdict is_unended walk name_verdict next_verdict dirs_open_at is_plain is_safe be24 be32 used_in regions_behind_table program_of program_in own_region words_at largest_of nonempty_regions are_disjoint_below are_pairwise_disjoint is_disjoint_from_all are_disjoint are_below units encode entries_bytes texts_of parent_of parent_below
at_filled = record { bytes = bytes-only filled refl; opens = refl; occupied = refl }
