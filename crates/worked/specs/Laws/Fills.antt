-- Worked fills, by computing, on the images of Worked: a clip of the file's size, a shorter one, none, longer
-- ones, and the refusals. Assumes nothing.
use Rattle.std.specs.Prelude.{Ok, Err}
use Rattle.std.specs.Prelude.{ℕ, ◌<◌, ◌≡◌, refl, List, [], ◌∷◌, ◌++◌, length, replicate}
use Rattle.std.proofs.Common.{ap, ◌∙◌, lt-ltb}
use Rattle.endian.specs.Bytes.{be24, be32, put, span}
use Rattle.refusal.specs.declared.Refusal.TheVariants.{LimitOrMemory, NoSuchEntry, ExpectedFile, NotEnoughSpace}
use Rattle.refusal.specs.Refusal.{number_of}
use Rattle.header.specs.Fields.{fields}
use Rattle.header.specs.Verdicts.{field_verdict, all_fields_verdict, header_verdict, bounds_verdict}
use Rattle.tree.specs.Units.{units}
use Rattle.tree.specs.Table.{file, directory, is_plain, is_safe, count, name_at, node_at, nodes_from, nodes_of, entry_verdict, entries_verdict, is_unended, dirs_open_at, name_verdict, next_verdict, walk, check, parent_below, parent_of, entries_bytes, texts_of, encode, is_shallow_from, is_shallow, limits}
use Rattle.tree.specs.Insert.{set_place}
use Rattle.space.specs.Used.{is_used, nonempty_regions, total_size}
use Rattle.space.specs.Layout.{are_disjoint, is_disjoint_from_all, are_pairwise_disjoint, are_below, are_disjoint_below}
use Rattle.space.specs.Free.{runs, free_regions}
use Rattle.space.specs.Align.{align_up}
use Rattle.space.specs.MaxRegionSize.{size_beside_free, max_size_from}
use Rattle.space.specs.Allocate.{better_of, largest_rest, is_power_among, allocation_of}
use Rattle.totals.specs.Totals.{remainders, team_verdict, totals_verdict}
use Rattle.executable.specs.Program.{program_of, program_in, own_region}
use Rattle.opened.specs.Opening.{table_of, nodes_in, opening, free_space_of, used_of, used_in, regions_behind_table, layout_verdict}
use Rattle.edit_rules.specs.Change.{image_with_table, written_image, table_verdict, place_verdict}
use Rattle.edit_rules.specs.Edits.{fill_file, plan_resize, plan_fill, counted_verdict, verdict_of, image_after}
use Rattle.worked.specs.Laws.Handed.{own}
use Rattle.worked.specs.Laws.Worked.{at, verdict_on, after, small, large, of_b, large-opens, large-nodes, large-free, large-used, large-header, grown}

abbrev three : List ℕ
three = 0x11 ∷ 0x12 ∷ 0x13 ∷ []

abbrev eight : List ℕ
eight = 0x21 ∷ 0x22 ∷ 0x23 ∷ 0x24 ∷ 0x25 ∷ 0x26 ∷ 0x27 ∷ 0x28 ∷ []

abbrev twelve : List ℕ
twelve = eight ++ (0x31 ∷ 0x32 ∷ 0x33 ∷ 0x34 ∷ [])

-- ---- up to 0x600: `a` has 8 bytes at 0x500, `b` 4 bytes behind it

pub record Fills : Type 0 where
  -- the file's own size: the clip alone is written, and no working byte is wanted; the table keeps its lost tail
  pub same : (verdict_of (fill_file 1 eight) (own small) small 20 0 ≡ Ok tt) × (image_after (fill_file 1 eight) (own small) small 20 0 ≡ put small 0x500 eight)
  -- shorter: the old tail is zeroed
  pub shorter : (verdict_on (fill_file 1 three) small ≡ Ok tt) × (span (after (fill_file 1 three) small) 0x500 12 ≡ three ++ (replicate 5 0 ++ of_b))
  -- none: a resize to 0
  pub none : (verdict_on (fill_file 1 []) small ≡ Ok tt) × (span (after (fill_file 1 []) small) 0x500 12 ≡ replicate 8 0 ++ of_b)
  -- longer, where the file can grow: `b`
  pub grown : (verdict_on (fill_file 2 twelve) small ≡ Ok tt) × (span (after (fill_file 2 twelve) small) 0x508 12 ≡ twelve)
  -- as far as it can grow, and one byte more: no multiple of 0x8000 is free
  pub most : (verdict_on (fill_file 2 (replicate 0xF8 1)) small ≡ Ok tt) × (verdict_on (fill_file 2 (replicate 0xF9 1)) small ≡ Err NotEnoughSpace) × (number_of NotEnoughSpace ≡ 21)
  -- one working byte too few for the table: nothing is written
  pub table : (verdict_of (fill_file 1 three) (own small) small 20 39 ≡ Err LimitOrMemory) × (image_after (fill_file 1 three) (own small) small 20 39 ≡ small)
  -- above 2^32 - 1 bytes
  pub longest : (clip : List ℕ) → 0xFFFFFFFF < length clip → verdict_on (fill_file 1 clip) small ≡ Err NotEnoughSpace
  -- 15, 16
  pub refused : (verdict_on (fill_file 3 three) small ≡ Err NoSuchEntry) × (verdict_on (fill_file 0 three) small ≡ Err ExpectedFile)

pub fills : Fills
unfolding small plan_resize plan_fill put opening layout_verdict header_verdict all_fields_verdict field_verdict fields bounds_verdict table_of check nodes_in nodes_of nodes_from node_at name_at count entries_verdict entry_verdict is_unended walk name_verdict next_verdict dirs_open_at is_plain is_safe be24 be32 used_in regions_behind_table program_of program_in own_region nonempty_regions are_disjoint_below are_pairwise_disjoint is_disjoint_from_all are_disjoint are_below free_regions runs is_used used_of total_size remainders team_verdict totals_verdict image_after verdict_of counted_verdict table_verdict place_verdict limits is_shallow is_shallow_from texts_of encode entries_bytes parent_of parent_below set_place written_image image_with_table max_size_from size_beside_free allocation_of is_power_among largest_rest better_of align_up units
fills = record {
  same = (refl, refl);
  shorter = (refl, refl);
  none = (refl, refl);
  grown = (refl, refl);
  most = (refl, refl, refl);
  table = (refl, refl);
  longest = λ clip h. rw (lt-ltb 0xFFFFFFFF (length clip) h);
  refused = (refl, refl);
}

-- ---- up to 0x8040: `a` cannot grow before `b`, and goes to 0x8000

moved-used : used_of (put grown 0x8000 twelve) ≡ 1144
unfolding large put table_of nodes_in nodes_of nodes_from node_at name_at count be24 be32 texts_of encode entries_bytes parent_of parent_below written_image image_with_table used_of regions_behind_table program_of program_in own_region total_size
moved-used = refl

moved-free : free_space_of (put grown 0x8000 twelve) ≡ at 0x468 0xA0 ∷ at 0x50C 0x7AF4 ∷ at 0x800C 0x34 ∷ []
unfolding large put table_of nodes_in nodes_of nodes_from node_at name_at count be24 be32 texts_of encode entries_bytes parent_of parent_below written_image image_with_table used_in regions_behind_table program_of program_in own_region free_regions runs is_used nonempty_regions
moved-free = refl

moves : verdict_on (fill_file 1 twelve) large ≡ Ok tt
unfolding verdict_of counted_verdict team_verdict totals_verdict remainders total_size plan_fill plan_resize max_size_from size_beside_free allocation_of is_power_among largest_rest better_of align_up table_verdict place_verdict limits is_shallow is_shallow_from dirs_open_at texts_of encode entries_bytes parent_of parent_below set_place
moves = rw (large-opens, large-nodes, large-free, large-header.2, large-header.0, large-header.1, large-free, large-used, moved-used, moved-free)

moved-is : after (fill_file 1 twelve) large ≡ put grown 0x8000 twelve
unfolding image_after plan_fill plan_resize max_size_from size_beside_free allocation_of is_power_among largest_rest better_of align_up set_place
moved-is = rw (moves, large-nodes, large-free)

moved-reads : (nodes_in (put grown 0x8000 twelve) ≡ directory [] 3 ∷ file (0x61 ∷ []) 0x8000 12 ∷ file (0x62 ∷ []) 0x508 4 ∷ []) × (span (put grown 0x8000 twelve) 0x8000 12 ≡ twelve) × (span (put grown 0x8000 twelve) 0x500 12 ≡ replicate 8 0 ++ of_b)
unfolding large put table_of nodes_in nodes_of nodes_from node_at name_at count be24 be32 texts_of encode entries_bytes parent_of parent_below written_image image_with_table
moved-reads = (refl, refl, refl)

pub record Moved : Type 0 where
  pub accepted : verdict_on (fill_file 1 twelve) large ≡ Ok tt
  pub tree : nodes_in (after (fill_file 1 twelve) large) ≡ directory [] 3 ∷ file (0x61 ∷ []) 0x8000 12 ∷ file (0x62 ∷ []) 0x508 4 ∷ []
  -- the clip is at the new place, and the old one is zeroed
  pub bytes : span (after (fill_file 1 twelve) large) 0x8000 12 ≡ twelve
  pub old : span (after (fill_file 1 twelve) large) 0x500 12 ≡ replicate 8 0 ++ of_b

pub moved : Moved
moved = record {
  accepted = moves;
  tree = ap nodes_in moved-is ∙ moved-reads.0;
  bytes = ap (λ (i : List ℕ). span i 0x8000 12) moved-is ∙ moved-reads.1;
  old = ap (λ (i : List ℕ). span i 0x500 12) moved-is ∙ moved-reads.2;
}
