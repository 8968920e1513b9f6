-- Worked examples beside P1 to P12, by computing, of what the claim about lists does not show: an old place, a table's
-- lost tail and a shrunk file's lost end zeroed; 19; growth at a multiple of 0x8000. Assumes nothing.
use Rattle.std.specs.Prelude.{Ok, Err}
use Rattle.refusal.specs.Refusal.{Verdict}
use Rattle.std.specs.Prelude.{ℕ, ◌≡◌, refl, List, [], ◌∷◌, ◌++◌, replicate}
use Rattle.std.proofs.Common.{ap, ◌∙◌}
use Rattle.endian.specs.Bytes.{be24, be32, be32_bytes, put, span, are_same_bytes}
use Rattle.refusal.specs.declared.Refusal.TheVariants.{AlreadyExists}
use Rattle.refusal.specs.Refusal.{number_of}
use Rattle.header.specs.Fields.{fields, gcn_magic_field, fst_offset_field, fst_size_field, user_size_field}
use Rattle.header.specs.Verdicts.{gcn_magic, field_verdict, all_fields_verdict, header_verdict, bounds_verdict, fst_offset, fst_size, fst_max_size}
use Rattle.tree.specs.Units.{units}
use Rattle.tree.specs.Table.{file, directory, is_plain, is_safe, count, name_at, node_at, nodes_from, nodes_of, entry_verdict, entries_verdict, is_unended, dirs_open_at, name_verdict, next_verdict, walk, check, parent_below, parent_of, entries_bytes, texts_of, encode, is_shallow_from, is_shallow, limits}
use Rattle.tree.specs.Lookup.{first_child, child_of}
use Rattle.tree.specs.Insert.{set_place}
use Rattle.space.specs.declared.region.DiscRegion.{DiscRegion}
use Rattle.space.specs.Used.{is_used, nonempty_regions, total_size}
use Rattle.space.specs.Layout.{are_disjoint, is_disjoint_from_all, are_pairwise_disjoint, are_below, are_disjoint_below}
use Rattle.space.specs.Free.{runs, free_regions}
use Rattle.space.specs.MaxRegionSize.{size_beside_free, max_size_from}
use Rattle.space.specs.Align.{align_up}
use Rattle.space.specs.Allocate.{better_of, largest_rest, is_power_among, allocation_of}
use Rattle.totals.specs.Totals.{remainders, team_verdict, totals_verdict}
use Rattle.executable.specs.Program.{program_of, program_in, own_region}
use Rattle.opened.specs.Opening.{table_of, nodes_in, opening, free_space_of, used_of, used_in, regions_behind_table, layout_verdict}
use Rattle.edit_rules.specs.Change.{image_with_table, written_image, table_verdict, place_verdict}
use Rattle.edit_rules.specs.Edits.{Edit, insert_file, insert_directory, move_file, resize_file, rewrite, insert_verdict, plan_move, plan_resize, counted_verdict, verdict_of, image_after}
use Rattle.worked.specs.Laws.Handed.{own}

-- ---- an image that ends at e: file `a` of 8 bytes at 0x500, `b` of 4 bytes right behind it; the table's last text, `zz`, is no entry's

abbrev entries : List ℕ
entries =
    1 ∷ 0 ∷ 0 ∷ 0 ∷ 0 ∷ 0 ∷ 0 ∷ 0 ∷ 0 ∷ 0 ∷ 0 ∷ 3 ∷
    0 ∷ 0 ∷ 0 ∷ 0 ∷ 0 ∷ 0 ∷ 5 ∷ 0 ∷ 0 ∷ 0 ∷ 0 ∷ 8 ∷
    0 ∷ 0 ∷ 0 ∷ 2 ∷ 0 ∷ 0 ∷ 5 ∷ 8 ∷ 0 ∷ 0 ∷ 0 ∷ 4 ∷
    0x61 ∷ 0 ∷ 0x62 ∷ 0 ∷ []

abbrev lost : List ℕ
lost = 0x7A ∷ 0x7A ∷ 0 ∷ []

abbrev of_a : List ℕ
of_a = 1 ∷ 2 ∷ 3 ∷ 4 ∷ 5 ∷ 6 ∷ 7 ∷ 8 ∷ []

abbrev pub of_b : List ℕ
of_b = 0xB1 ∷ 0xB2 ∷ 0xB3 ∷ 0xB4 ∷ []

abbrev image_to : ℕ → List ℕ
image_to e =
    put (put (put (put (put (put (put (replicate e 0) gcn_magic_field.at (be32_bytes gcn_magic)) fst_offset_field.at (be32_bytes 0x440)) fst_size_field.at (be32_bytes 43)) user_size_field.at (be32_bytes e)) 0x440 (entries ++ lost)) 0x500 of_a) 0x508 of_b

-- 20 working words are enough for three entries, and 40 working bytes for their table; the record is one made of the image
abbrev pub verdict_on : Edit → List ℕ → Verdict
verdict_on ed image = verdict_of ed (own image) image 20 40

abbrev pub after : Edit → List ℕ → List ℕ
after ed image = image_after ed (own image) image 20 40

-- ---- up to 0x600

unfoldable pub small : List ℕ
small = image_to 0x600

pub record Worked : Type 0 where
  -- the file's bytes go along, and its old place is zeroed
  pub moved : (verdict_on (move_file 1 0x540) small ≡ Ok tt) × (span (after (move_file 1 0x540) small) 0x540 8 ≡ of_a) × (span (after (move_file 1 0x540) small) 0x500 8 ≡ replicate 8 0)
  -- zeros where the old table was longer, and the new size in the header
  pub rewritten : (span small 0x440 43 ≡ entries ++ lost) × (verdict_on rewrite small ≡ Ok tt) × (span (after rewrite small) 0x440 43 ≡ entries ++ (0 ∷ 0 ∷ 0 ∷ [])) × (fst_size (after rewrite small) ≡ 40)
  -- what the file loses is zeroed
  pub shrunk : (verdict_on (resize_file 1 3) small ≡ Ok tt) × (span (after (resize_file 1 3) small) 0x500 12 ≡ 1 ∷ 2 ∷ 3 ∷ 0 ∷ 0 ∷ 0 ∷ 0 ∷ 0 ∷ of_b)
  -- a name that a child of the root has: 19, for a file and for a directory
  pub exists : (verdict_on (insert_file 0 (0x62 ∷ [])) small ≡ Err AlreadyExists) × (verdict_on (insert_directory 0 (0x62 ∷ [])) small ≡ Err AlreadyExists) × (number_of AlreadyExists ≡ 19)

pub worked : Worked
unfolding small plan_move plan_resize insert_verdict child_of first_child are_same_bytes put opening layout_verdict header_verdict all_fields_verdict field_verdict fields bounds_verdict table_of check nodes_in nodes_of nodes_from node_at name_at count entries_verdict entry_verdict is_unended walk name_verdict next_verdict dirs_open_at is_plain is_safe be24 be32 used_in regions_behind_table program_of program_in own_region nonempty_regions are_disjoint_below are_pairwise_disjoint is_disjoint_from_all are_disjoint are_below free_regions runs is_used used_of total_size remainders team_verdict totals_verdict image_after verdict_of counted_verdict table_verdict place_verdict limits is_shallow is_shallow_from texts_of encode entries_bytes parent_of parent_below set_place written_image image_with_table max_size_from size_beside_free units
worked = record {
  moved = (refl, refl, refl);
  rewritten = (refl, refl, refl, refl);
  shrunk = (refl, refl);
  exists = (refl, refl, refl);
}

-- ---- up to 0x8040, with bytes that the free space held behind 0x8000

unfoldable pub large : List ℕ
large = put (image_to 0x8040) 0x8000 (replicate 16 0xEE)

abbrev pub at : ℕ → ℕ → DiscRegion
at o n = record { offset = o; size = n }

pub large-opens : opening large 20 ≡ Ok tt
unfolding large put opening layout_verdict header_verdict all_fields_verdict field_verdict fields bounds_verdict table_of check nodes_in nodes_of nodes_from node_at name_at count entries_verdict entry_verdict is_unended walk name_verdict next_verdict dirs_open_at is_plain is_safe be24 be32 used_in regions_behind_table program_of program_in own_region nonempty_regions are_disjoint_below are_pairwise_disjoint is_disjoint_from_all are_disjoint are_below units
large-opens = refl

pub large-nodes : nodes_in large ≡ directory [] 3 ∷ file (0x61 ∷ []) 0x500 8 ∷ file (0x62 ∷ []) 0x508 4 ∷ []
unfolding large put table_of nodes_in nodes_of nodes_from node_at name_at count be24 be32
large-nodes = refl

pub large-free : free_space_of large ≡ at 0x46B 0x95 ∷ at 0x50C 0x7B34 ∷ []
unfolding large put table_of nodes_in nodes_of nodes_from node_at name_at count be24 be32 used_in regions_behind_table program_of program_in own_region free_regions runs is_used nonempty_regions
large-free = refl

pub large-used : used_of large ≡ 1143
unfolding large put table_of nodes_in nodes_of nodes_from node_at name_at count be24 be32 used_of regions_behind_table program_of program_in own_region total_size
large-used = refl

pub large-header : (fst_offset large ≡ 0x440) × (fst_size large ≡ 43) × (fst_max_size large ≡ 0)
unfolding large put be32
large-header = (refl, refl, refl)

-- what is written then
abbrev pub grown : List ℕ
grown = written_image (record {
  nodes = directory [] 3 ∷ file (0x61 ∷ []) 0x8000 12 ∷ file (0x62 ∷ []) 0x508 4 ∷ [];
  old = at 0x500 8;
  place = at 0x8000 12;
  kept = 8;
  lost = at 0x500 8;
}) large

grown-used : used_of grown ≡ 1144
unfolding large put table_of nodes_in nodes_of nodes_from node_at name_at count be24 be32 texts_of encode entries_bytes parent_of parent_below written_image image_with_table used_of regions_behind_table program_of program_in own_region total_size
grown-used = refl

grown-free : free_space_of grown ≡ at 0x468 0xA0 ∷ at 0x50C 0x7AF4 ∷ at 0x800C 0x34 ∷ []
unfolding large put table_of nodes_in nodes_of nodes_from node_at name_at count be24 be32 texts_of encode entries_bytes parent_of parent_below written_image image_with_table used_in regions_behind_table program_of program_in own_region free_regions runs is_used nonempty_regions
grown-free = refl

grows : verdict_on (resize_file 1 12) large ≡ Ok tt
unfolding verdict_of counted_verdict team_verdict totals_verdict remainders total_size plan_resize max_size_from size_beside_free allocation_of is_power_among largest_rest better_of align_up table_verdict place_verdict limits is_shallow is_shallow_from dirs_open_at texts_of encode entries_bytes parent_of parent_below set_place
grows = rw (large-opens, large-nodes, large-free, large-header.2, large-header.0, large-header.1, large-free, large-used, grown-used, grown-free)

grown-is : after (resize_file 1 12) large ≡ grown
unfolding image_after plan_resize max_size_from size_beside_free allocation_of is_power_among largest_rest better_of align_up set_place
grown-is = rw (grows, large-nodes, large-free)

grown-reads :
    (nodes_in grown ≡ directory [] 3 ∷ file (0x61 ∷ []) 0x8000 12 ∷ file (0x62 ∷ []) 0x508 4 ∷ []) ×
    (span grown 0x8000 12 ≡ of_a ++ (0xEE ∷ 0xEE ∷ 0xEE ∷ 0xEE ∷ [])) ×
    (span grown 0x500 12 ≡ replicate 8 0 ++ of_b)
unfolding large put table_of nodes_in nodes_of nodes_from node_at name_at count be24 be32 texts_of encode entries_bytes parent_of parent_below written_image image_with_table
grown-reads = (refl, refl, refl)

-- `a` grown by 4 bytes, which do not fit before `b`
pub record Grown : Type 0 where
  -- at a multiple of 0x8000, where it can't grow in place; what it gains is as the free space held it
  pub accepted : verdict_on (resize_file 1 12) large ≡ Ok tt
  pub tree : nodes_in (after (resize_file 1 12) large) ≡ directory [] 3 ∷ file (0x61 ∷ []) 0x8000 12 ∷ file (0x62 ∷ []) 0x508 4 ∷ []
  pub bytes : span (after (resize_file 1 12) large) 0x8000 12 ≡ of_a ++ (0xEE ∷ 0xEE ∷ 0xEE ∷ 0xEE ∷ [])
  pub old : span (after (resize_file 1 12) large) 0x500 12 ≡ replicate 8 0 ++ of_b

pub worked-growth : Grown
worked-growth = record {
  accepted = grows;
  tree = ap nodes_in grown-is ∙ grown-reads.0;
  bytes = ap (λ (i : List ℕ). span i 0x8000 12) grown-is ∙ grown-reads.1;
  old = ap (λ (i : List ℕ). span i 0x500 12) grown-is ∙ grown-reads.2;
}
