-- Programs on small images, by computing: the walk before 24 and 24 before 14, what a program uses, and that
-- neither a file nor the table takes its bytes. Assumes nothing.
use Rattle.std.specs.Prelude.{Some, Ok, Err}
use Rattle.refusal.specs.Refusal.{Verdict}
use Rattle.std.specs.Prelude.{ℕ, ◌+◌, ◌≡◌, refl, List, [], ◌∷◌, ◌++◌, replicate}
use Rattle.endian.specs.Bytes.{be24, be32, be32_bytes, put, are_same_bytes}
use Rattle.refusal.specs.declared.Refusal.TheVariants.{UnsafeName, OverlappingRegions, NotEnoughSpace, InvalidDol}
use Rattle.refusal.specs.Refusal.{number_of}
use Rattle.header.specs.Fields.{fields, gcn_magic_field, dol_offset_field, fst_offset_field, fst_size_field, user_size_field}
use Rattle.header.specs.Verdicts.{gcn_magic, field_verdict, all_fields_verdict, header_verdict, bounds_verdict, fst_offset, fst_size, fst_max_size, disc_end}
use Rattle.tree.specs.Units.{units}
use Rattle.tree.specs.Table.{file, directory, is_plain, is_safe, count, name_at, node_at, nodes_from, nodes_of, entry_verdict, entries_verdict, is_unended, dirs_open_at, name_verdict, next_verdict, walk, check, parent_below, parent_of, entries_bytes, texts_of, encode, is_shallow_from, is_shallow, limits}
use Rattle.tree.specs.Lookup.{first_child, child_of}
use Rattle.tree.specs.Insert.{splice, insert_at, set_place}
use Rattle.space.specs.declared.region.DiscRegion.{DiscRegion}
use Rattle.space.specs.Used.{is_used, nonempty_regions, total_size}
use Rattle.space.specs.Layout.{are_disjoint, is_disjoint_from_all, are_pairwise_disjoint, are_below, are_disjoint_below}
use Rattle.space.specs.Free.{runs, free_regions}
use Rattle.space.specs.Align.{align_up}
use Rattle.space.specs.MaxRegionSize.{size_beside_free, max_size_from}
use Rattle.space.specs.Allocate.{better_of, largest_rest, is_power_among, allocation_of}
use Rattle.totals.specs.Totals.{remainders, team_verdict, totals_verdict}
use Rattle.executable.specs.Dol.{words_at, largest_of}
use Rattle.executable.specs.Program.{program_of, program_in, own_region}
use Rattle.opened.specs.Opening.{table_of, nodes_in, regions_behind_table, used_in, layout_verdict, opening, free_space_of, used_of}
use Rattle.edit_rules.specs.Change.{image_with_table, written_image, table_verdict, place_verdict}
use Rattle.edit_rules.specs.Edits.{table_change, insert_file, move_file, resize_file, rewrite, insert_verdict, plan_move, plan_resize, counted_verdict, verdict_of}
use Rattle.worked.specs.Laws.Handed.{own}

-- a disc that ends at 0x900, in an image of so many bytes: the table at `fst`, file `a` of 0x100 bytes at `place`, with this name's byte
abbrev disc : ℕ → ℕ → ℕ → ℕ → List ℕ
disc length fst place name =
    put (put (put (put (put (replicate length 0) gcn_magic_field.at (be32_bytes gcn_magic)) fst_offset_field.at (be32_bytes fst)) fst_size_field.at (be32_bytes 0x1A)) user_size_field.at (be32_bytes 0x900))
    fst ((1 ∷ 0 ∷ 0 ∷ 0 ∷ 0 ∷ 0 ∷ 0 ∷ 0 ∷ 0 ∷ 0 ∷ 0 ∷ 2 ∷ 0 ∷ 0 ∷ 0 ∷ 0 ∷ []) ++ (be32_bytes place ++ (be32_bytes 0x100 ++ (name ∷ 0 ∷ []))))

-- a program at d, whose first text section has this offset and size
abbrev with : ℕ → ℕ → ℕ → List ℕ → List ℕ
with d offset size image = put (put (put image dol_offset_field.at (be32_bytes d)) d (be32_bytes offset)) (d + 0x90) (be32_bytes size)

-- the table at 0x440 and `a` at 0x500, a program behind
abbrev pub behind : ℕ → ℕ → ℕ → List ℕ
behind d offset size = with d offset size (disc 0x900 0x440 0x500 0x61)

-- 16 working words are enough for two entries
abbrev opens : List ℕ → Verdict
opens image = opening image 16

abbrev at : ℕ → ℕ → DiscRegion
at o n = record { offset = o; size = n }

-- 0x123 bytes right behind `a`
unfoldable pub one : List ℕ
one = behind 0x600 0x100 0x23

-- ---- whole images; every other place stands in ProgramVectors of executable

pub record Opens : Type 0 where
  pub at-file : (opens one ≡ Ok tt) × (program_of one ≡ Ok (Some (at 0x600 0x123)))
  -- a sum of 2^32 is 24, though the program lies in `a`, and a name `:` comes first
  pub sum : opens (behind 0x5FF 0xFFFFFFFF 1) ≡ Err InvalidDol
  pub walk : opens (with 0x5FF 0xFFFFFFFF 1 (disc 0x900 0x440 0x500 0x3A)) ≡ Err UnsafeName
  -- a header inside the image, and past the disc end by one byte
  pub past_end : opens (with 0x81D 0 0x10 (disc 0x901 0x440 0x500 0x61)) ≡ Err OverlappingRegions
  pub numbers : (number_of InvalidDol ≡ 24) × (number_of UnsafeName ≡ 13) × (number_of OverlappingRegions ≡ 14)

pub opened : Opens
unfolding one put opening layout_verdict header_verdict all_fields_verdict field_verdict fields bounds_verdict table_of check nodes_in nodes_of nodes_from node_at name_at count entries_verdict entry_verdict is_unended walk name_verdict next_verdict dirs_open_at is_plain is_safe be24 be32 used_in regions_behind_table program_of program_in own_region words_at largest_of nonempty_regions are_disjoint_below are_pairwise_disjoint is_disjoint_from_all are_disjoint are_below units
opened = record { at-file = (refl, refl); sum = refl; walk = refl; past_end = refl; numbers = (refl, refl, refl) }

-- what is free, and the used total
nodes : nodes_in one ≡ directory [] 2 ∷ file (0x61 ∷ []) 0x500 0x100 ∷ []
unfolding one put table_of nodes_in nodes_of nodes_from node_at name_at count be24 be32
nodes = refl

header : (fst_offset one ≡ 0x440) × (fst_size one ≡ 0x1A) × (disc_end one ≡ 0x900)
unfolding one put be32
header = (refl, refl, refl)

pub used : (used_in one ≡ at 0 0x45A ∷ at 0x600 0x123 ∷ at 0x500 0x100 ∷ []) × (used_of one ≡ 0x45A + 0x100 + 0x123)
unfolding used_in used_of regions_behind_table program_in own_region nonempty_regions total_size
used = (rw (nodes, opened.at-file.1, header.0, header.1), rw (nodes, opened.at-file.1, header.0, header.1))

runs-of-one : free_regions 0x900 (at 0 0x45A ∷ at 0x600 0x123 ∷ at 0x500 0x100 ∷ []) ≡ at 0x45A 0xA6 ∷ at 0x723 0x1DD ∷ []
unfolding free_regions runs is_used
runs-of-one = refl

pub free : free_space_of one ≡ at 0x45A 0xA6 ∷ at 0x723 0x1DD ∷ []
free = rw (used.0, header.2) runs-of-one

-- ---- edits keep off it; 40 working bytes are enough for three entries, and the record is one made of the image

-- the table ends where the program begins
unfoldable pub two : List ℕ
two = with 0x45A 0 0 (disc 0x900 0x440 0x600 0x61)

two-opens : (opening two 20 ≡ Ok tt) × (program_of two ≡ Ok (Some (at 0x45A 0xE4)))
unfolding two put opening layout_verdict header_verdict all_fields_verdict field_verdict fields bounds_verdict table_of check nodes_in nodes_of nodes_from node_at name_at count entries_verdict entry_verdict is_unended walk name_verdict next_verdict dirs_open_at is_plain is_safe be24 be32 used_in regions_behind_table program_of program_in own_region words_at largest_of nonempty_regions are_disjoint_below are_pairwise_disjoint is_disjoint_from_all are_disjoint are_below units
two-opens = (refl, refl)

two-nodes : nodes_in two ≡ directory [] 2 ∷ file (0x61 ∷ []) 0x600 0x100 ∷ []
unfolding two put table_of nodes_in nodes_of nodes_from node_at name_at count be24 be32
two-nodes = refl

two-header : (fst_offset two ≡ 0x440) × (fst_size two ≡ 0x1A) × (disc_end two ≡ 0x900) × (fst_max_size two ≡ 0)
unfolding two put be32
two-header = (refl, refl, refl, refl)

two-used : (used_in two ≡ at 0 0x45A ∷ at 0x45A 0xE4 ∷ at 0x600 0x100 ∷ []) × (used_of two ≡ 0x45A + 0xE4 + 0x100)
unfolding used_in used_of regions_behind_table program_in own_region nonempty_regions total_size
two-used = (rw (two-nodes, two-opens.1, two-header.0, two-header.1), rw (two-nodes, two-opens.1, two-header.0, two-header.1))

runs-of-two : free_regions 0x900 (at 0 0x45A ∷ at 0x45A 0xE4 ∷ at 0x600 0x100 ∷ []) ≡ at 0x53E 0xC2 ∷ at 0x700 0x200 ∷ []
unfolding free_regions runs is_used
runs-of-two = refl

two-free : free_space_of two ≡ at 0x53E 0xC2 ∷ at 0x700 0x200 ∷ []
two-free = rw (two-used.0, two-header.2) runs-of-two

-- the table written as it is
two-written_image : used_of (written_image (table_change (directory [] 2 ∷ file (0x61 ∷ []) 0x600 0x100 ∷ [])) two) ≡ 0x45A + 0xE4 + 0x100
unfolding two put table_of nodes_in nodes_of nodes_from node_at name_at count be24 be32 texts_of encode entries_bytes parent_of parent_below written_image image_with_table used_of regions_behind_table program_of program_in own_region words_at largest_of total_size
two-written_image = refl

two-written-free : free_space_of (written_image (table_change (directory [] 2 ∷ file (0x61 ∷ []) 0x600 0x100 ∷ [])) two) ≡ at 0x53E 0xC2 ∷ at 0x700 0x200 ∷ []
unfolding two put table_of nodes_in nodes_of nodes_from node_at name_at count be24 be32 texts_of encode entries_bytes parent_of parent_below written_image image_with_table used_in regions_behind_table program_of program_in own_region words_at largest_of free_regions runs is_used nonempty_regions
two-written-free = refl

pub record Kept : Type 0 where
  -- `a` to where the program lies; grown into it, with no multiple of 0x8000 below the disc end
  pub move-onto : verdict_of (move_file 1 0x700) (own one) one 16 40 ≡ Err NotEnoughSpace
  pub grow-onto : verdict_of (resize_file 1 0x101) (own one) one 16 40 ≡ Err NotEnoughSpace
  -- a table that a program abuts may be written as it is, and may not grow
  pub same-table : verdict_of rewrite (own two) two 20 40 ≡ Ok tt
  pub grown-table : verdict_of (insert_file 0 (0x62 ∷ [])) (own two) two 20 40 ≡ Err NotEnoughSpace
  pub twenty-one : number_of NotEnoughSpace ≡ 21

pub kept : Kept
unfolding verdict_of counted_verdict team_verdict totals_verdict remainders total_size plan_move plan_resize insert_verdict insert_at splice child_of first_child are_same_bytes is_plain is_safe max_size_from size_beside_free allocation_of is_power_among largest_rest better_of align_up table_verdict place_verdict limits is_shallow is_shallow_from dirs_open_at texts_of encode entries_bytes parent_of parent_below set_place units
kept = record {
  move-onto = rw (opened.at-file.0, nodes, free);
  grow-onto = rw (opened.at-file.0, nodes, free);
  same-table = rw (two-opens.0, two-nodes, two-free, two-header.3, two-header.0, two-header.1, two-used.1, two-written_image, two-written-free);
  grown-table = rw (two-opens.0, two-nodes, two-free, two-header.3, two-header.0, two-header.1);
  twenty-one = refl;
}
