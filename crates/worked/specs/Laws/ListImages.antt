-- The images that the worked list goes through, written out from the layout, and what each of them reads as, by computing. Assumes nothing.
use Rattle.std.specs.Prelude.{Some, Ok}
use Rattle.std.specs.Prelude.{ℕ, ◌+◌, ◌≡◌, refl, List, [], ◌∷◌, ◌++◌, map, replicate}
use Rattle.endian.specs.Bytes.{be24, be32, be32_bytes, put}
use Rattle.header.specs.Fields.{fields, dol_offset_field, fst_size_field}
use Rattle.header.specs.Verdicts.{field_verdict, all_fields_verdict, header_verdict, bounds_verdict, fst_offset, fst_size, fst_max_size, disc_end}
use Rattle.executable.specs.Dol.{words_at, largest_of}
use Rattle.tree.specs.Units.{units}
use Rattle.tree.specs.Table.{Node, file, directory, is_plain, is_safe, count, name_at, node_at, nodes_from, nodes_of, entry_verdict, entries_verdict, is_unended, dirs_open_at, name_verdict, next_verdict, walk, check}
use Rattle.space.specs.declared.region.DiscRegion.{DiscRegion}
use Rattle.space.specs.Used.{used_regions, is_used, nonempty_regions, total_size}
use Rattle.space.specs.Layout.{are_disjoint, is_disjoint_from_all, are_pairwise_disjoint, are_below, are_disjoint_below}
use Rattle.space.specs.Free.{runs, free_regions}
use Rattle.executable.specs.Program.{program_of, program_in, own_region}
use Rattle.opened.specs.Opening.{table_of, nodes_in, opening, regions_behind_table, region_of, used_in, free_space_of, used_of, layout_verdict}
use Rattle.worked.specs.Image.{master, master_words}
use Rattle.worked.specs.Laws.Marked.{at}
use Rattle.worked.specs.Laws.Maximum.{stating}

-- ---- the images

-- what `a` begins with, and the four bytes of the program's one section
abbrev pub of_a : List ℕ
of_a = 1 ∷ 2 ∷ 3 ∷ 4 ∷ 5 ∷ 6 ∷ 7 ∷ 8 ∷ []

abbrev section : List ℕ
section = 0xD1 ∷ 0xD2 ∷ 0xD3 ∷ 0xD4 ∷ []

-- the program: its header, in which the section stands at 0x100 with 4 bytes, and the section
abbrev pub program_bytes : List ℕ
program_bytes = be32_bytes 0x100 ++ (replicate 0x8C 0 ++ (be32_bytes 4 ++ (replicate 0x6C 0 ++ section)))

-- the small master with bytes in `a`; the program at 0x700; and a stated maximum, which the table with one
-- entry of one letter more just meets
unfoldable pub first : List ℕ
first = put (put (put (stating 0x28) dol_offset_field.at (be32_bytes 0x700)) 0x700 program_bytes) 0x500 of_a

abbrev pub clip : List ℕ
clip = 0x11 ∷ 0x12 ∷ 0x13 ∷ []

-- the entries up to the offset of the last one, `b`, and the texts
abbrev entries : List ℕ
entries =
    1 ∷ 0 ∷ 0 ∷ 0 ∷ 0 ∷ 0 ∷ 0 ∷ 0 ∷ 0 ∷ 0 ∷ 0 ∷ 3 ∷
    0 ∷ 0 ∷ 0 ∷ 0 ∷ 0 ∷ 0 ∷ 5 ∷ 0 ∷ 0 ∷ 0 ∷ 1 ∷ 0 ∷
    0 ∷ 0 ∷ 0 ∷ 2 ∷ []

abbrev texts : List ℕ
texts = 0x61 ∷ 0 ∷ 0x62 ∷ 0 ∷ []

-- with `b` at o, of n bytes, and bs at 0x900
unfoldable pub with_b : ℕ → ℕ → List ℕ → List ℕ
with_b o n bs = put (put (put first fst_size_field.at (be32_bytes 0x28)) 0x440 (entries ++ (be32_bytes o ++ (be32_bytes n ++ texts)))) 0x900 bs

abbrev pub last : List ℕ
last = with_b 0x900 5 clip

-- ---- what each image reads as

-- where the program lies
abbrev pub program : DiscRegion
program = at 0x700 0x104

pub record Reads (image : List ℕ) (nodes : List Node) (free : List DiscRegion) (size used : ℕ) : Type 0 where
  pub opens : opening image master_words ≡ Ok tt
  pub tree : nodes_in image ≡ nodes
  pub runs : program_of image ≡ Ok (Some program)
  pub header : (fst_offset image ≡ 0x440) × (fst_size image ≡ size) × (fst_max_size image ≡ 0x28) × (disc_end image ≡ 0x2000)
  -- the free regions and the used total, once tree, program and header are read
  pub gaps : free_regions 0x2000 (used_regions (0x440 + size) (own_region 0x440 program ∷ map region_of nodes)) ≡ free
  pub sizes : 0x440 + size + total_size (own_region 0x440 program ∷ map region_of nodes) ≡ used

module _ {image : List ℕ} {nodes : List Node} {free : List DiscRegion} {size used : ℕ} (r : Reads image nodes free size used) where
  pub used-regions : used_in image ≡ used_regions (0x440 + size) (own_region 0x440 program ∷ map region_of nodes)
  unfolding used_in regions_behind_table program_in
  used-regions = rw (r.runs, r.tree, r.header.0, r.header.1)

  pub space : free_space_of image ≡ free
  space = rw (used-regions, r.header.3) r.gaps

  pub total : used_of image ≡ used
  unfolding used_of regions_behind_table program_in
  total = rw (r.runs, r.tree, r.header.0, r.header.1) r.sizes

abbrev pub tree_b : ℕ → ℕ → List Node
tree_b o n = directory [] 3 ∷ file (0x61 ∷ []) 0x500 0x100 ∷ file (0x62 ∷ []) o n ∷ []

pub at_first : Reads first (directory [] 2 ∷ file (0x61 ∷ []) 0x500 0x100 ∷ []) (at 1114 166 ∷ at 1536 256 ∷ at 2052 6140 ∷ []) 0x1A 1630
unfolding first stating master put opening layout_verdict header_verdict all_fields_verdict field_verdict fields bounds_verdict table_of check nodes_in nodes_of nodes_from node_at name_at count entries_verdict entry_verdict is_unended walk name_verdict next_verdict dirs_open_at is_plain is_safe be24 be32 used_in regions_behind_table program_of program_in own_region words_at largest_of nonempty_regions are_disjoint_below are_pairwise_disjoint is_disjoint_from_all are_disjoint are_below units free_regions runs is_used total_size
at_first = record { opens = refl; tree = refl; runs = refl; header = (refl, refl, refl, refl); gaps = refl; sizes = refl }

pub at-inserted : Reads (with_b 0 0 []) (tree_b 0 0) (at 1128 152 ∷ at 1536 256 ∷ at 2052 6140 ∷ []) 0x28 1644
unfolding with_b first stating master put opening layout_verdict header_verdict all_fields_verdict field_verdict fields bounds_verdict table_of check nodes_in nodes_of nodes_from node_at name_at count entries_verdict entry_verdict is_unended walk name_verdict next_verdict dirs_open_at is_plain is_safe be24 be32 used_in regions_behind_table program_of program_in own_region words_at largest_of nonempty_regions are_disjoint_below are_pairwise_disjoint is_disjoint_from_all are_disjoint are_below units free_regions runs is_used total_size
at-inserted = record { opens = refl; tree = refl; runs = refl; header = (refl, refl, refl, refl); gaps = refl; sizes = refl }

pub at_moved : Reads (with_b 0x900 0 []) (tree_b 0x900 0) (at 1128 152 ∷ at 1536 256 ∷ at 2052 6140 ∷ []) 0x28 1644
unfolding with_b first stating master put opening layout_verdict header_verdict all_fields_verdict field_verdict fields bounds_verdict table_of check nodes_in nodes_of nodes_from node_at name_at count entries_verdict entry_verdict is_unended walk name_verdict next_verdict dirs_open_at is_plain is_safe be24 be32 used_in regions_behind_table program_of program_in own_region words_at largest_of nonempty_regions are_disjoint_below are_pairwise_disjoint is_disjoint_from_all are_disjoint are_below units free_regions runs is_used total_size
at_moved = record { opens = refl; tree = refl; runs = refl; header = (refl, refl, refl, refl); gaps = refl; sizes = refl }

pub at-filled : Reads (with_b 0x900 3 clip) (tree_b 0x900 3) (at 1128 152 ∷ at 1536 256 ∷ at 2052 252 ∷ at 2307 5885 ∷ []) 0x28 1647
unfolding with_b first stating master put opening layout_verdict header_verdict all_fields_verdict field_verdict fields bounds_verdict table_of check nodes_in nodes_of nodes_from node_at name_at count entries_verdict entry_verdict is_unended walk name_verdict next_verdict dirs_open_at is_plain is_safe be24 be32 used_in regions_behind_table program_of program_in own_region words_at largest_of nonempty_regions are_disjoint_below are_pairwise_disjoint is_disjoint_from_all are_disjoint are_below units free_regions runs is_used total_size
at-filled = record { opens = refl; tree = refl; runs = refl; header = (refl, refl, refl, refl); gaps = refl; sizes = refl }

pub at_last : Reads last (tree_b 0x900 5) (at 1128 152 ∷ at 1536 256 ∷ at 2052 252 ∷ at 2309 5883 ∷ []) 0x28 1649
unfolding with_b first stating master put opening layout_verdict header_verdict all_fields_verdict field_verdict fields bounds_verdict table_of check nodes_in nodes_of nodes_from node_at name_at count entries_verdict entry_verdict is_unended walk name_verdict next_verdict dirs_open_at is_plain is_safe be24 be32 used_in regions_behind_table program_of program_in own_region words_at largest_of nonempty_regions are_disjoint_below are_pairwise_disjoint is_disjoint_from_all are_disjoint are_below units free_regions runs is_used total_size
at_last = record { opens = refl; tree = refl; runs = refl; header = (refl, refl, refl, refl); gaps = refl; sizes = refl }
