-- The small master with another size of `a`, and the edits of such images that the worked records and teams make, by computing: each passes its
-- own tests, and what it does to used and free bytes. Assumes nothing.
use Rattle.std.specs.Prelude.{Ok}
use Rattle.refusal.specs.Refusal.{Verdict}
use Rattle.std.specs.Prelude.{ℕ, ◌+◌, ◌≡◌, refl, List, [], ◌∷◌}
use Rattle.endian.specs.Bytes.{be24, be32, be32_bytes, put}
use Rattle.header.specs.Fields.{fields}
use Rattle.header.specs.Verdicts.{field_verdict, all_fields_verdict, header_verdict, bounds_verdict, fst_offset, fst_size, fst_max_size, disc_end}
use Rattle.tree.specs.Units.{units}
use Rattle.tree.specs.Table.{Node, file, directory, is_plain, is_safe, count, name_at, node_at, nodes_from, nodes_of, entry_verdict, entries_verdict, is_unended, dirs_open_at, name_verdict, next_verdict, walk, check, parent_below, parent_of, entries_bytes, texts_of, encode, is_shallow_from, is_shallow, limits}
use Rattle.tree.specs.Insert.{set_place}
use Rattle.space.specs.declared.region.DiscRegion.{DiscRegion}
use Rattle.space.specs.Used.{is_used, nonempty_regions, total_size}
use Rattle.space.specs.Layout.{are_disjoint, is_disjoint_from_all, are_pairwise_disjoint, are_below, are_disjoint_below}
use Rattle.space.specs.Free.{runs, free_regions, largest_size}
use Rattle.space.specs.MaxRegionSize.{size_beside_free, max_size_from}
use Rattle.executable.specs.Program.{program_of, program_in, own_region}
use Rattle.totals.specs.declared.Totals.{Totals}
use Rattle.opened.specs.Opening.{table_of, nodes_in, regions_behind_table, used_in, free_space_of, used_of, opening, layout_verdict, disc_of}
use Rattle.edit_rules.specs.Change.{Plan, change, image_with_table, written_image, table_verdict, place_verdict}
use Rattle.edit_rules.specs.Edits.{Edit, Account, move_file, resize_file, rewrite, table_change, resize_change, plan_move, plan_resize, plan_of, plan_verdict, plan_image, verdict_of, image_after, totals_after}
use Rattle.worked.specs.Image.{master, master_words, master_bytes}
use Rattle.worked.specs.Laws.Marked.{at, opens, nodes, header, free, used, moved_a, moved-used, moved-free}
use Rattle.worked.specs.Laws.Planned.{to, Planned}

-- ---- what an edit of the small master answers, and what image and record it leaves

abbrev pub answer : Edit → Account → Verdict
answer ed a = verdict_of ed a master master_words master_bytes

abbrev pub image : Edit → Account → List ℕ
image ed a = image_after ed a master master_words master_bytes

abbrev pub after : Edit → Account → Totals
after ed a = totals_after ed a master master_words master_bytes

-- ---- other sizes of `a`, and what each image reads as

unfoldable pub sized : ℕ → List ℕ
sized n = put master 0x454 (be32_bytes n)

abbrev tree : ℕ → List Node
tree n = directory [] 2 ∷ file (0x61 ∷ []) 0x500 n ∷ []

pub record Reads (image : List ℕ) (n : ℕ) (gaps : List DiscRegion) : Type 0 where
  pub opens : opening image master_words ≡ Ok tt
  pub nodes : nodes_in image ≡ tree n
  pub header : (fst_offset image ≡ 0x440) × (fst_size image ≡ 0x1A) × (disc_end image ≡ 0x2000) × (fst_max_size image ≡ 0)
  pub free : free_space_of image ≡ gaps
  pub used : used_of image ≡ 1114 + n

pub at_256 : Reads master 0x100 (at 1114 166 ∷ at 1536 6656 ∷ [])
at_256 = record { opens = opens; nodes = nodes; header = header; free = free; used = used }

pub record Sizes : Type 0 where
  pub at_0 : Reads (sized 0) 0 (at 1114 7078 ∷ [])
  pub at_128 : Reads (sized 128) 128 (at 1114 166 ∷ at 1408 6784 ∷ [])
  pub at_250 : Reads (sized 250) 250 (at 1114 166 ∷ at 1530 6662 ∷ [])
  pub at_252 : Reads (sized 252) 252 (at 1114 166 ∷ at 1532 6660 ∷ [])
  pub at_255 : Reads (sized 255) 255 (at 1114 166 ∷ at 1535 6657 ∷ [])
  pub at_257 : Reads (sized 257) 257 (at 1114 166 ∷ at 1537 6655 ∷ [])
  pub at_756 : Reads (sized 756) 756 (at 1114 166 ∷ at 2036 6156 ∷ [])
  pub at_757 : Reads (sized 757) 757 (at 1114 166 ∷ at 2037 6155 ∷ [])
  pub at_6911 : Reads (sized 6911) 6911 (at 1114 166 ∷ at 8191 1 ∷ [])
  pub at_6912 : Reads (sized 6912) 6912 (at 1114 166 ∷ [])

pub sizes : Sizes
unfolding sized master put opening layout_verdict header_verdict all_fields_verdict field_verdict fields bounds_verdict table_of check nodes_in nodes_of nodes_from node_at name_at count entries_verdict entry_verdict is_unended walk name_verdict next_verdict dirs_open_at is_plain is_safe be24 be32 used_in used_of total_size regions_behind_table program_of program_in own_region nonempty_regions are_disjoint_below are_pairwise_disjoint is_disjoint_from_all are_disjoint are_below free_regions runs is_used units
sizes = record {
  at_0 = record { opens = refl; nodes = refl; header = (refl, refl, refl, refl); free = refl; used = refl };
  at_128 = record { opens = refl; nodes = refl; header = (refl, refl, refl, refl); free = refl; used = refl };
  at_250 = record { opens = refl; nodes = refl; header = (refl, refl, refl, refl); free = refl; used = refl };
  at_252 = record { opens = refl; nodes = refl; header = (refl, refl, refl, refl); free = refl; used = refl };
  at_255 = record { opens = refl; nodes = refl; header = (refl, refl, refl, refl); free = refl; used = refl };
  at_257 = record { opens = refl; nodes = refl; header = (refl, refl, refl, refl); free = refl; used = refl };
  at_756 = record { opens = refl; nodes = refl; header = (refl, refl, refl, refl); free = refl; used = refl };
  at_757 = record { opens = refl; nodes = refl; header = (refl, refl, refl, refl); free = refl; used = refl };
  at_6911 = record { opens = refl; nodes = refl; header = (refl, refl, refl, refl); free = refl; used = refl };
  at_6912 = record { opens = refl; nodes = refl; header = (refl, refl, refl, refl); free = refl; used = refl };
}

-- ---- edits that cost nothing: two that write a table, and one that writes nothing

abbrev pub rewritten_master : List ℕ
rewritten_master = written_image (table_change (tree 0x100)) master

rewritten-reads : (used_of rewritten_master ≡ 1370) × (free_space_of rewritten_master ≡ at 1114 166 ∷ at 1536 6656 ∷ [])
unfolding master put table_of nodes_in nodes_of nodes_from node_at name_at count be24 be32 texts_of encode entries_bytes parent_of parent_below written_image image_with_table used_in used_of total_size regions_behind_table program_of program_in own_region free_regions runs is_used nonempty_regions
rewritten-reads = (refl, refl)

pub record Costless : Type 0 where
  pub rewritten : Planned master_bytes rewrite master rewritten_master (to 1370 1370 6822 6656)
  pub moved : Planned master_bytes (move_file 1 0x600) master (moved_a 0x600) (to 1370 1370 6822 6400)
  pub same_size : Planned master_bytes (resize_file 1 0x100) master master (to 1370 1370 6822 6656)

pub costless : Costless
unfolding plan_move plan_resize max_size_from size_beside_free table_verdict place_verdict limits is_shallow is_shallow_from dirs_open_at texts_of encode entries_bytes parent_of parent_below set_place total_size largest_size
costless = record {
  rewritten = record { opens = opens; tests = rw (nodes, free, header.3, header.0, header.1); writes = rw nodes; change = rw (used, rewritten-reads.0, rewritten-reads.1) };
  moved = record { opens = opens; tests = rw (nodes, free, header.3, header.0, header.1, free); writes = rw (nodes, free); change = rw (used, moved-used, moved-free) };
  same_size = record { opens = opens; tests = rw nodes; writes = rw nodes; change = rw (used, free) };
}

-- ---- resizes

abbrev resize : ℕ → ℕ → Plan
resize n m = change 1 (resize_change (tree n) 1 (at 0x500 n) m)

abbrev Writes : List ℕ → ℕ → ℕ → Type 0
Writes image n m = plan_image (resize n m) image ≡ sized m

record Written : Type 0 where
  pub to_0 : Writes master 0x100 0
  pub to_128 : Writes master 0x100 128
  pub to_250 : Writes master 0x100 250
  pub to_252 : Writes master 0x100 252
  pub to_255 : Writes master 0x100 255
  pub to_257 : Writes master 0x100 257
  pub to_756 : Writes master 0x100 756
  pub to_757 : Writes master 0x100 757
  pub to_7 : Writes (sized 250) 250 257
  pub to_6911 : Writes (sized 257) 257 6911
  pub to_6912 : Writes (sized 257) 257 6912
  pub to_1 : Writes (sized 6911) 6911 6912

written : Written
unfolding sized master put be32 texts_of encode entries_bytes parent_of parent_below written_image image_with_table set_place
written = record { to_0 = refl; to_128 = refl; to_250 = refl; to_252 = refl; to_255 = refl; to_257 = refl; to_756 = refl; to_757 = refl; to_7 = refl; to_6911 = refl; to_6912 = refl; to_1 = refl }

-- of an image where `a` has n bytes, to m bytes
abbrev Resized : List ℕ → ℕ → ℕ → ℕ → ℕ → Type 0
Resized image n m free largest = Planned master_bytes (resize_file 1 m) image (sized m) (to (1114 + n) (1114 + m) free largest)

resized : {image : List ℕ} {n m : ℕ} {gaps gaps' : List DiscRegion} → Reads image n gaps → Reads (sized m) m gaps' → plan_of (resize_file 1 m) (disc_of image) ≡ resize n m → plan_verdict (resize n m) (disc_of image) master_words master_bytes ≡ Ok tt → Writes image n m → Resized image n m (total_size gaps') (largest_size gaps')
resized r r' plan tests writes = record { opens = r.opens; tests = rw plan tests; writes = rw plan writes; change = rw (r.used, r'.used, r'.free) }

pub record Resizes : Type 0 where
  pub to_0 : Resized master 0x100 0 7078 7078
  pub to_128 : Resized master 0x100 128 6950 6784
  pub to_250 : Resized master 0x100 250 6828 6662
  pub to_252 : Resized master 0x100 252 6826 6660
  pub to_255 : Resized master 0x100 255 6823 6657
  pub to_257 : Resized master 0x100 257 6821 6655
  pub to_756 : Resized master 0x100 756 6322 6156
  pub to_757 : Resized master 0x100 757 6321 6155
  pub to_7 : Resized (sized 250) 250 257 6821 6655
  pub to_6911 : Resized (sized 257) 257 6911 167 166
  pub to_6912 : Resized (sized 257) 257 6912 166 166
  pub to_1 : Resized (sized 6911) 6911 6912 166 166

pub resizes : Resizes
unfolding plan_resize max_size_from size_beside_free table_verdict place_verdict limits is_shallow is_shallow_from dirs_open_at texts_of encode entries_bytes parent_of parent_below set_place total_size largest_size
resizes =
    let a = sizes.at_250 in
    let b = sizes.at_257 in
    let c = sizes.at_6911 in
    record {
      to_0 = resized at_256 sizes.at_0 (rw nodes) (rw (free, header.3, header.0, header.1)) written.to_0;
      to_128 = resized at_256 sizes.at_128 (rw nodes) (rw (free, header.3, header.0, header.1)) written.to_128;
      to_250 = resized at_256 a (rw nodes) (rw (free, header.3, header.0, header.1)) written.to_250;
      to_252 = resized at_256 sizes.at_252 (rw nodes) (rw (free, header.3, header.0, header.1)) written.to_252;
      to_255 = resized at_256 sizes.at_255 (rw nodes) (rw (free, header.3, header.0, header.1)) written.to_255;
      to_257 = resized at_256 b (rw (nodes, free)) (rw (free, header.3, header.0, header.1)) written.to_257;
      to_756 = resized at_256 sizes.at_756 (rw (nodes, free)) (rw (free, header.3, header.0, header.1)) written.to_756;
      to_757 = resized at_256 sizes.at_757 (rw (nodes, free)) (rw (free, header.3, header.0, header.1)) written.to_757;
      to_7 = resized a b (rw (a.nodes, a.free)) (rw (a.free, a.header.3, a.header.0, a.header.1)) written.to_7;
      to_6911 = resized b c (rw (b.nodes, b.free)) (rw (b.free, b.header.3, b.header.0, b.header.1)) written.to_6911;
      to_6912 = resized b sizes.at_6912 (rw (b.nodes, b.free)) (rw (b.free, b.header.3, b.header.0, b.header.1)) written.to_6912;
      to_1 = resized c sizes.at_6912 (rw (c.nodes, c.free)) (rw (c.free, c.header.3, c.header.0, c.header.1)) written.to_1;
    }
