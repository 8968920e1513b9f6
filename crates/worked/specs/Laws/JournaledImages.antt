-- The images that the worked list with crashes goes through, written out from the layout, and what its edits of them come to, by computing. Assumes
-- nothing.
use Rattle.std.specs.Prelude.{Ok, ℕ, ◌≡◌, refl, List, [], ◌∷◌, ◌++◌}
use Rattle.endian.specs.Bytes.{be24, be32, be32_bytes, put}
use Rattle.header.specs.Fields.{fields}
use Rattle.header.specs.Verdicts.{field_verdict, all_fields_verdict, header_verdict, bounds_verdict, fst_offset, fst_size, fst_max_size, disc_end}
use Rattle.tree.specs.Units.{units}
use Rattle.tree.specs.Table.{Node, file, directory, is_plain, is_safe, count, name_at, node_at, nodes_from, nodes_of, entry_verdict, entries_verdict, is_unended, dirs_open_at, name_verdict, next_verdict, walk, check, parent_below, parent_of, entries_bytes, texts_of, encode, is_shallow_from, is_shallow, limits}
use Rattle.tree.specs.Insert.{set_place}
use Rattle.space.specs.declared.region.DiscRegion.{DiscRegion}
use Rattle.space.specs.Used.{is_used, nonempty_regions, total_size}
use Rattle.space.specs.Layout.{are_disjoint, is_disjoint_from_all, are_pairwise_disjoint, are_below, are_disjoint_below}
use Rattle.space.specs.Free.{runs, free_regions, largest_size}
use Rattle.space.specs.MaxRegionSize.{size_beside_free, max_size_from}
use Rattle.executable.specs.Program.{program_of, program_in, own_region}
use Rattle.totals.specs.declared.Totals.{Totals}
use Rattle.totals.specs.Totals.{remainders, team_verdict, totals_verdict, moved_totals}
use Rattle.opened.specs.Opening.{table_of, nodes_in, opening, regions_behind_table, used_in, free_space_of, used_of, layout_verdict, disc_of}
use Rattle.edit_rules.specs.Change.{Change, change, image_with_table, written_image, table_verdict, place_verdict}
use Rattle.edit_rules.specs.Edits.{Edit, Account, account, move_file, resize_file, relocation_change, resize_change, plan_move, plan_resize, plan_of, plan_verdict, plan_image}
use Rattle.worked.specs.Image.{master, master_words, master_bytes}
use Rattle.worked.specs.Laws.Handed.{teams_after}
use Rattle.worked.specs.Laws.Marked.{at}
use Rattle.worked.specs.Laws.Planned.{to, Step, Planned, accepted-by}

-- ---- the images

-- what `a` begins with
abbrev pub of_a : List ℕ
of_a = 1 ∷ 2 ∷ 3 ∷ 4 ∷ 5 ∷ 6 ∷ 7 ∷ 8 ∷ []

-- the small master with these in `a`
unfoldable pub first : List ℕ
first = put master 0x500 of_a

-- `a` with so many bytes and these at 0x1000, where the entry's two words say so; at 0x500 there are zeros
unfoldable pub elsewhere : ℕ → List ℕ → List ℕ
elsewhere n bs = put (put master 0x450 (be32_bytes 0x1000 ++ be32_bytes n)) 0x1000 bs

abbrev pub moved : List ℕ
moved = elsewhere 0x100 of_a

-- with 7 bytes; the eighth is zero
abbrev pub shorter : List ℕ
shorter = elsewhere 7 (1 ∷ 2 ∷ 3 ∷ 4 ∷ 5 ∷ 6 ∷ 7 ∷ [])

-- the same with another stated maximum
abbrev pub stated : List ℕ
stated = put shorter 0x42C (be32_bytes 0x28)

-- ---- what each reads as

pub record Reads (image : List ℕ) (offset size : ℕ) (gaps : List DiscRegion) (total : ℕ) : Type 0 where
  pub opens : opening image master_words ≡ Ok tt
  pub nodes : nodes_in image ≡ directory [] 2 ∷ file (0x61 ∷ []) offset size ∷ []
  pub header : (fst_offset image ≡ 0x440) × (fst_size image ≡ 0x1A) × (disc_end image ≡ 0x2000) × (fst_max_size image ≡ 0)
  pub free : free_space_of image ≡ gaps
  pub used : used_of image ≡ total

pub at_first : Reads first 0x500 0x100 (at 1114 166 ∷ at 1536 6656 ∷ []) 1370
unfolding first master put opening layout_verdict header_verdict all_fields_verdict field_verdict fields bounds_verdict table_of check nodes_in nodes_of nodes_from node_at name_at count entries_verdict entry_verdict is_unended walk name_verdict next_verdict dirs_open_at is_plain is_safe be24 be32 used_in used_of total_size regions_behind_table program_of program_in own_region nonempty_regions are_disjoint_below are_pairwise_disjoint is_disjoint_from_all are_disjoint are_below free_regions runs is_used units
at_first = record { opens = refl; nodes = refl; header = (refl, refl, refl, refl); free = refl; used = refl }

pub at-moved : Reads moved 0x1000 0x100 (at 1114 2982 ∷ at 4352 3840 ∷ []) 1370
unfolding elsewhere master put opening layout_verdict header_verdict all_fields_verdict field_verdict fields bounds_verdict table_of check nodes_in nodes_of nodes_from node_at name_at count entries_verdict entry_verdict is_unended walk name_verdict next_verdict dirs_open_at is_plain is_safe be24 be32 used_in used_of total_size regions_behind_table program_of program_in own_region nonempty_regions are_disjoint_below are_pairwise_disjoint is_disjoint_from_all are_disjoint are_below free_regions runs is_used units
at-moved = record { opens = refl; nodes = refl; header = (refl, refl, refl, refl); free = refl; used = refl }

pub at-shorter : Reads shorter 0x1000 7 (at 1114 2982 ∷ at 4103 4089 ∷ []) 1121
unfolding elsewhere master put opening layout_verdict header_verdict all_fields_verdict field_verdict fields bounds_verdict table_of check nodes_in nodes_of nodes_from node_at name_at count entries_verdict entry_verdict is_unended walk name_verdict next_verdict dirs_open_at is_plain is_safe be24 be32 used_in used_of total_size regions_behind_table program_of program_in own_region nonempty_regions are_disjoint_below are_pairwise_disjoint is_disjoint_from_all are_disjoint are_below free_regions runs is_used units
at-shorter = record { opens = refl; nodes = refl; header = (refl, refl, refl, refl); free = refl; used = refl }

-- ---- the edits: `a` moved, and made 7 bytes

-- the record of the small master, and after each
abbrev pub totals : ℕ → ℕ → ℕ → Totals
totals used largest edits = record { used = used; largest = largest; teams = teams_after 0 edits }

abbrev pub held : ℕ → ℕ → ℕ → Account
held used largest edits = account (totals used largest edits) 0

abbrev pub move : Edit
move = move_file 1 0x1000

abbrev pub shorten : Edit
shorten = resize_file 1 7

abbrev tree : ℕ → ℕ → List Node
tree offset size = directory [] 2 ∷ file (0x61 ∷ []) offset size ∷ []

abbrev move_a : Change
move_a = relocation_change (tree 0x500 0x100) 1 (at 0x500 0x100) (at 0x1000 0x100)

pub move-plan : plan_of move (disc_of first) ≡ change 1 move_a
unfolding plan_move max_size_from size_beside_free
move-plan = rw (at_first.nodes, at_first.free)

move-tests : plan_verdict (change 1 move_a) (disc_of first) master_words master_bytes ≡ Ok tt
unfolding table_verdict place_verdict limits is_shallow is_shallow_from dirs_open_at texts_of encode entries_bytes parent_of parent_below max_size_from size_beside_free set_place
move-tests = rw (at_first.free, at_first.header.3, at_first.header.0, at_first.header.1)

move-writes : plan_image (change 1 move_a) first ≡ moved
unfolding first elsewhere master put be32 texts_of encode entries_bytes parent_of parent_below written_image image_with_table set_place
move-writes = refl

pub move-done : Step master_bytes (Ok tt) move (held 1370 6656 0) first moved (totals 1370 3840 1)
unfolding team_verdict totals_verdict remainders moved_totals largest_size total_size
move-done =
    let p : Planned master_bytes move first moved (to 1370 1370 6822 3840) =
    record {
      opens = at_first.opens;
      tests = rw move-plan move-tests;
      writes = rw move-plan move-writes;
      change = rw (at_first.used, at-moved.used, at-moved.free);
    }
    in
    accepted-by p (held 1370 6656 0) refl

abbrev shorten_a : Change
shorten_a = resize_change (tree 0x1000 0x100) 1 (at 0x1000 0x100) 7

resize-plan : plan_of shorten (disc_of moved) ≡ change 1 shorten_a
unfolding plan_resize max_size_from size_beside_free
resize-plan = rw at-moved.nodes

resize-tests : plan_verdict (change 1 shorten_a) (disc_of moved) master_words master_bytes ≡ Ok tt
unfolding table_verdict place_verdict limits is_shallow is_shallow_from dirs_open_at texts_of encode entries_bytes parent_of parent_below max_size_from size_beside_free set_place
resize-tests = rw (at-moved.free, at-moved.header.3, at-moved.header.0, at-moved.header.1)

resize-writes : plan_image (change 1 shorten_a) moved ≡ shorter
unfolding elsewhere master put be32 texts_of encode entries_bytes parent_of parent_below written_image image_with_table set_place
resize-writes = refl

pub resize-done : Step master_bytes (Ok tt) shorten (held 1370 3840 1) moved shorter (totals 1121 4089 2)
unfolding team_verdict totals_verdict remainders moved_totals largest_size total_size
resize-done =
    let p : Planned master_bytes shorten moved shorter (to 1370 1121 7071 4089) =
    record {
      opens = at-moved.opens;
      tests = rw resize-plan resize-tests;
      writes = rw resize-plan resize-writes;
      change = rw (at-moved.used, at-shorter.used, at-shorter.free);
    }
    in
    accepted-by p (held 1370 3840 1) refl
