-- The images that the worked sheets come to on the small master, written out from the layout, and what each of them reads as, by computing. Assumes
-- nothing.
use Rattle.std.specs.Prelude.{Ok}
use Rattle.std.specs.Prelude.{ℕ, ◌≡◌, refl, List, [], ◌∷◌, ◌++◌}
use Rattle.endian.specs.Bytes.{be24, be32, be32_bytes, put}
use Rattle.header.specs.Fields.{fields, fst_size_field}
use Rattle.header.specs.Verdicts.{field_verdict, all_fields_verdict, header_verdict, bounds_verdict, fst_offset, fst_size, fst_max_size, disc_end}
use Rattle.tree.specs.Units.{units}
use Rattle.tree.specs.Table.{Node, file, directory, is_plain, is_safe, count, name_at, node_at, nodes_from, nodes_of, entry_verdict, entries_verdict, is_unended, dirs_open_at, name_verdict, next_verdict, walk, check}
use Rattle.space.specs.declared.region.DiscRegion.{DiscRegion}
use Rattle.space.specs.Used.{is_used, nonempty_regions, total_size}
use Rattle.space.specs.Layout.{are_disjoint, is_disjoint_from_all, are_pairwise_disjoint, are_below, are_disjoint_below}
use Rattle.space.specs.Free.{runs, free_regions}
use Rattle.executable.specs.Program.{program_of, program_in, own_region}
use Rattle.opened.specs.Opening.{table_of, nodes_in, opening, regions_behind_table, used_in, free_space_of, used_of, layout_verdict}
use Rattle.worked.specs.Image.{master, master_words}
use Rattle.worked.specs.Laws.Marked as small
use Rattle.worked.specs.Laws.Marked.{at}

-- ---- the images

-- the small master with another table
abbrev with_table : List ℕ → ℕ → List ℕ
with_table table size = put (put master fst_size_field.at (be32_bytes size)) 0x440 table

-- the root, which ends so, and `a`, of n bytes
abbrev first_entries : ℕ → ℕ → List ℕ
first_entries next n = 1 ∷ 0 ∷ 0 ∷ 0 ∷ 0 ∷ 0 ∷ 0 ∷ 0 ∷ 0 ∷ 0 ∷ 0 ∷ next ∷ 0 ∷ 0 ∷ 0 ∷ 0 ∷ 0 ∷ 0 ∷ 5 ∷ 0 ∷ be32_bytes n

-- the directory `x`
unfoldable pub with_x : List ℕ
with_x =
    with_table (first_entries 3 0x100 ++ (
    1 ∷ 0 ∷ 0 ∷ 2 ∷ 0 ∷ 0 ∷ 0 ∷ 0 ∷ 0 ∷ 0 ∷ 0 ∷ 3 ∷
    0x61 ∷ 0 ∷ 0x78 ∷ 0 ∷ []
    )) 0x28

-- and in it the file `f`; `a` has n bytes
unfoldable pub with_f : ℕ → List ℕ
with_f n =
    with_table (first_entries 4 n ++ (
    1 ∷ 0 ∷ 0 ∷ 2 ∷ 0 ∷ 0 ∷ 0 ∷ 0 ∷ 0 ∷ 0 ∷ 0 ∷ 4 ∷
    0 ∷ 0 ∷ 0 ∷ 4 ∷ 0 ∷ 0 ∷ 0 ∷ 0 ∷ 0 ∷ 0 ∷ 0 ∷ 0 ∷
    0x61 ∷ 0 ∷ 0x78 ∷ 0 ∷ 0x66 ∷ 0 ∷ []
    )) 0x36

-- a file whose name is one pair
unfoldable pub with_pair : List ℕ
with_pair =
    with_table (first_entries 3 0x100 ++ (
    0 ∷ 0 ∷ 0 ∷ 2 ∷ 0 ∷ 0 ∷ 0 ∷ 0 ∷ 0 ∷ 0 ∷ 0 ∷ 0 ∷
    0x61 ∷ 0 ∷ 0x83 ∷ 0x5C ∷ 0 ∷ []
    )) 0x29

-- ---- what each image reads as

pub record Reads (image : List ℕ) (nodes : List Node) (gaps : List DiscRegion) (size total : ℕ) : Type 0 where
  pub opens : opening image master_words ≡ Ok tt
  pub tree : nodes_in image ≡ nodes
  pub header : (fst_offset image ≡ 0x440) × (fst_size image ≡ size) × (disc_end image ≡ 0x2000) × (fst_max_size image ≡ 0)
  pub free : free_space_of image ≡ gaps
  pub used : used_of image ≡ total

abbrev pub tree_a : List Node
tree_a = directory [] 2 ∷ file (0x61 ∷ []) 0x500 0x100 ∷ []

abbrev pub tree_x : List Node
tree_x = directory [] 3 ∷ file (0x61 ∷ []) 0x500 0x100 ∷ directory (0x78 ∷ []) 3 ∷ []

abbrev pub tree_f : ℕ → List Node
tree_f n = directory [] 4 ∷ file (0x61 ∷ []) 0x500 n ∷ directory (0x78 ∷ []) 4 ∷ file (0x66 ∷ []) 0 0 ∷ []

abbrev pub tree_pair : List Node
tree_pair = directory [] 3 ∷ file (0x61 ∷ []) 0x500 0x100 ∷ file (0x83 ∷ 0x5C ∷ []) 0 0 ∷ []

pub at-master : Reads master tree_a (at 1114 166 ∷ at 1536 6656 ∷ []) 0x1A 1370
at-master = record { opens = small.opens; tree = small.nodes; header = small.header; free = small.free; used = small.used }

pub at-x : Reads with_x tree_x (at 1128 152 ∷ at 1536 6656 ∷ []) 0x28 1384
unfolding with_x master put opening layout_verdict header_verdict all_fields_verdict field_verdict fields bounds_verdict table_of check nodes_in nodes_of nodes_from node_at name_at count entries_verdict entry_verdict is_unended walk name_verdict next_verdict dirs_open_at is_plain is_safe be24 be32 used_in used_of total_size regions_behind_table program_of program_in own_region nonempty_regions are_disjoint_below are_pairwise_disjoint is_disjoint_from_all are_disjoint are_below free_regions runs is_used units
at-x = record { opens = refl; tree = refl; header = (refl, refl, refl, refl); free = refl; used = refl }

pub at-f : Reads (with_f 0x100) (tree_f 0x100) (at 1142 138 ∷ at 1536 6656 ∷ []) 0x36 1398
unfolding with_f master put opening layout_verdict header_verdict all_fields_verdict field_verdict fields bounds_verdict table_of check nodes_in nodes_of nodes_from node_at name_at count entries_verdict entry_verdict is_unended walk name_verdict next_verdict dirs_open_at is_plain is_safe be24 be32 used_in used_of total_size regions_behind_table program_of program_in own_region nonempty_regions are_disjoint_below are_pairwise_disjoint is_disjoint_from_all are_disjoint are_below free_regions runs is_used units
at-f = record { opens = refl; tree = refl; header = (refl, refl, refl, refl); free = refl; used = refl }

pub at-last : Reads (with_f 0x200) (tree_f 0x200) (at 1142 138 ∷ at 1792 6400 ∷ []) 0x36 1654
unfolding with_f master put opening layout_verdict header_verdict all_fields_verdict field_verdict fields bounds_verdict table_of check nodes_in nodes_of nodes_from node_at name_at count entries_verdict entry_verdict is_unended walk name_verdict next_verdict dirs_open_at is_plain is_safe be24 be32 used_in used_of total_size regions_behind_table program_of program_in own_region nonempty_regions are_disjoint_below are_pairwise_disjoint is_disjoint_from_all are_disjoint are_below free_regions runs is_used units
at-last = record { opens = refl; tree = refl; header = (refl, refl, refl, refl); free = refl; used = refl }

pub at-pair : Reads with_pair tree_pair (at 1129 151 ∷ at 1536 6656 ∷ []) 0x29 1385
unfolding with_pair master put opening layout_verdict header_verdict all_fields_verdict field_verdict fields bounds_verdict table_of check nodes_in nodes_of nodes_from node_at name_at count entries_verdict entry_verdict is_unended walk name_verdict next_verdict dirs_open_at is_plain is_safe be24 be32 used_in used_of total_size regions_behind_table program_of program_in own_region nonempty_regions are_disjoint_below are_pairwise_disjoint is_disjoint_from_all are_disjoint are_below free_regions runs is_used units
at-pair = record { opens = refl; tree = refl; header = (refl, refl, refl, refl); free = refl; used = refl }
