-- Worked stated maxima, by computing, on the small master: its table has 0x1A bytes, and 0x28 with an entry
-- `b` more. Assumes nothing.
use Rattle.std.specs.Prelude.{Ok, Err}
use Rattle.refusal.specs.Refusal.{Verdict}
use Rattle.std.specs.Prelude.{ℕ, ◌≡◌, refl, List, [], ◌∷◌, replicate}
use Rattle.endian.specs.Bytes.{be24, be32, be32_bytes, put, are_same_bytes}
use Rattle.refusal.specs.declared.Refusal.TheVariants.{LimitOrMemory, NotEnoughSpace, TableAboveMaximum}
use Rattle.refusal.specs.Refusal.{number_of}
use Rattle.header.specs.Fields.{fields, fst_max_size_field}
use Rattle.header.specs.Verdicts.{field_verdict, all_fields_verdict, header_verdict, bounds_verdict, disc_end, fst_offset, fst_size, fst_max_size}
use Rattle.tree.specs.Units.{units}
use Rattle.tree.specs.Table.{file, directory, is_plain, is_safe, count, name_at, node_at, nodes_from, nodes_of, entry_verdict, entries_verdict, is_unended, dirs_open_at, name_verdict, next_verdict, walk, check, parent_below, parent_of, entries_bytes, texts_of, encode, is_shallow_from, is_shallow, limits}
use Rattle.tree.specs.Lookup.{first_child, child_of}
use Rattle.tree.specs.Insert.{raised_next, splice, insert_at, set_place}
use Rattle.space.specs.Used.{is_used, nonempty_regions, total_size}
use Rattle.space.specs.Layout.{are_disjoint, is_disjoint_from_all, are_pairwise_disjoint, are_below, are_disjoint_below}
use Rattle.space.specs.Free.{runs, free_regions}
use Rattle.space.specs.MaxRegionSize.{size_beside_free, max_size_from}
use Rattle.totals.specs.Totals.{remainders, team_verdict, totals_verdict}
use Rattle.executable.specs.Program.{program_of, program_in, own_region}
use Rattle.opened.specs.Opening.{table_of, nodes_in, opening, regions_behind_table, used_in, free_space_of, used_of, layout_verdict, disc_of}
use Rattle.edit_rules.specs.Change.{Change, nothing, change, filled, image_with_table, written_image, table_verdict, place_verdict}
use Rattle.edit_rules.specs.Edits.{Edit, insert_file, move_file, resize_file, fill_file, rewrite, table_change, insert_verdict, plan_of, plan_move, plan_resize, plan_fill, counted_verdict, verdict_of}
use Rattle.worked.specs.Laws.Handed.{most, handed}
use Rattle.worked.specs.Image.{master, master_words}
use Rattle.worked.specs.Laws.Marked.{at, fresh}

-- the small master with a stated maximum
unfoldable pub stating : ℕ → List ℕ
stating m = put master fst_max_size_field.at (be32_bytes m)

-- whatever it is, the image opens to the same tree with the same free regions
opens : (m : ℕ) → opening (stating m) master_words ≡ Ok tt
unfolding stating master put opening layout_verdict header_verdict all_fields_verdict field_verdict fields bounds_verdict table_of check nodes_in nodes_of nodes_from node_at name_at count entries_verdict entry_verdict is_unended walk name_verdict next_verdict dirs_open_at is_plain is_safe be24 be32 used_in regions_behind_table program_of program_in own_region nonempty_regions are_disjoint_below are_pairwise_disjoint is_disjoint_from_all are_disjoint are_below units
opens m = refl

nodes : (m : ℕ) → nodes_in (stating m) ≡ directory [] 2 ∷ file (0x61 ∷ []) 0x500 0x100 ∷ []
unfolding stating master put table_of nodes_in nodes_of nodes_from node_at name_at count be24 be32
nodes m = refl

table : (m : ℕ) → (fst_offset (stating m) ≡ 0x440) × (fst_size (stating m) ≡ 0x1A) × (disc_end (stating m) ≡ 0x2000)
unfolding stating master put be32
table m = (refl, refl, refl)

regions : (m : ℕ) → used_in (stating m) ≡ at 0 0x45A ∷ at 0x500 0x100 ∷ []
unfolding stating master put table_of nodes_in nodes_of nodes_from node_at name_at count be24 be32 used_in regions_behind_table program_of program_in own_region nonempty_regions
regions m = refl

runs-between : free_regions 0x2000 (at 0 0x45A ∷ at 0x500 0x100 ∷ []) ≡ at 1114 166 ∷ at 1536 6656 ∷ []
unfolding free_regions runs is_used
runs-between = refl

free : (m : ℕ) → free_space_of (stating m) ≡ at 1114 166 ∷ at 1536 6656 ∷ []
free m = rw (regions m, (table m).2) runs-between

used : (m : ℕ) → used_of (stating m) ≡ 1370
unfolding stating master put table_of nodes_in nodes_of nodes_from node_at name_at count be24 be32 used_of regions_behind_table program_of program_in own_region total_size
used m = refl

stated : (fst_max_size (stating 0x1A) ≡ 0x1A) × (fst_max_size (stating 0x19) ≡ 0x19) × (fst_max_size (stating 0) ≡ 0) × (fst_max_size (stating 0x28) ≡ 0x28) × (fst_max_size (stating 0x27) ≡ 0x27)
unfolding stating master put be32
stated = (refl, refl, refl, refl, refl)

-- the same, with `a` right behind the table
unfoldable pub tight : ℕ → List ℕ
tight m = put (stating m) 0x450 (be32_bytes 0x45A)

pub tight-opens : (m : ℕ) → opening (tight m) master_words ≡ Ok tt
unfolding tight stating master put opening layout_verdict header_verdict all_fields_verdict field_verdict fields bounds_verdict table_of check nodes_in nodes_of nodes_from node_at name_at count entries_verdict entry_verdict is_unended walk name_verdict next_verdict dirs_open_at is_plain is_safe be24 be32 used_in regions_behind_table program_of program_in own_region nonempty_regions are_disjoint_below are_pairwise_disjoint is_disjoint_from_all are_disjoint are_below units
tight-opens m = refl

tight-nodes : (m : ℕ) → nodes_in (tight m) ≡ directory [] 2 ∷ file (0x61 ∷ []) 0x45A 0x100 ∷ []
unfolding tight stating master put table_of nodes_in nodes_of nodes_from node_at name_at count be24 be32
tight-nodes m = refl

pub tight-header : (fst_offset (tight 0) ≡ 0x440) × (fst_size (tight 0) ≡ 0x1A) × (fst_max_size (tight 0) ≡ 0) × (fst_max_size (tight 0x1A) ≡ 0x1A)
unfolding tight stating master put be32
tight-header = (refl, refl, refl, refl)

pub tight-free : free_space_of (tight 0) ≡ at 1370 6822 ∷ []
unfolding tight stating master put table_of nodes_in nodes_of nodes_from node_at name_at count be24 be32 used_in regions_behind_table program_of program_in own_region free_regions runs is_used nonempty_regions
tight-free = refl

-- the same, with a zero byte more behind the texts: 0x1B bytes, written anew 0x1A
unfoldable pub slack : ℕ → List ℕ
slack m = put (stating m) 0x428 (be32_bytes 0x1B)

pub slack-opens : opening (slack 0x1A) master_words ≡ Ok tt
unfolding slack stating master put opening layout_verdict header_verdict all_fields_verdict field_verdict fields bounds_verdict table_of check nodes_in nodes_of nodes_from node_at name_at count entries_verdict entry_verdict is_unended walk name_verdict next_verdict dirs_open_at is_plain is_safe be24 be32 used_in regions_behind_table program_of program_in own_region nonempty_regions are_disjoint_below are_pairwise_disjoint is_disjoint_from_all are_disjoint are_below units
slack-opens = refl

few-opens : opening (stating 0x1A) 19 ≡ Ok tt
unfolding stating master put opening layout_verdict header_verdict all_fields_verdict field_verdict fields bounds_verdict table_of check nodes_in nodes_of nodes_from node_at name_at count entries_verdict entry_verdict is_unended walk name_verdict next_verdict dirs_open_at is_plain is_safe be24 be32 used_in regions_behind_table program_of program_in own_region nonempty_regions are_disjoint_below are_pairwise_disjoint is_disjoint_from_all are_disjoint are_below units
few-opens = refl

slack-nodes : nodes_in (slack 0x1A) ≡ directory [] 2 ∷ file (0x61 ∷ []) 0x500 0x100 ∷ []
unfolding slack stating master put table_of nodes_in nodes_of nodes_from node_at name_at count be24 be32
slack-nodes = refl

pub slack-header : (fst_offset (slack 0x1A) ≡ 0x440) × (fst_size (slack 0x1A) ≡ 0x1B) × (fst_max_size (slack 0x1A) ≡ 0x1A)
unfolding slack stating master put be32
slack-header = (refl, refl, refl)

slack-free : free_space_of (slack 0x1A) ≡ at 1115 165 ∷ at 1536 6656 ∷ []
unfolding slack stating master put table_of nodes_in nodes_of nodes_from node_at name_at count be24 be32 used_in regions_behind_table program_of program_in own_region free_regions runs is_used nonempty_regions
slack-free = refl

slack-used : used_of (slack 0x1A) ≡ 1371
unfolding slack stating master put table_of nodes_in nodes_of nodes_from node_at name_at count be24 be32 used_of regions_behind_table program_of program_in own_region total_size
slack-used = refl

slack-rewritten : used_of (written_image (table_change (directory [] 2 ∷ file (0x61 ∷ []) 0x500 0x100 ∷ [])) (slack 0x1A)) ≡ 1370
unfolding slack stating master put table_of nodes_in nodes_of nodes_from node_at name_at count be24 be32 texts_of encode entries_bytes parent_of parent_below written_image image_with_table used_of regions_behind_table program_of program_in own_region total_size
slack-rewritten = refl

slack-freed : free_space_of (written_image (table_change (directory [] 2 ∷ file (0x61 ∷ []) 0x500 0x100 ∷ [])) (slack 0x1A)) ≡ at 1114 166 ∷ at 1536 6656 ∷ []
unfolding slack stating master put table_of nodes_in nodes_of nodes_from node_at name_at count be24 be32 texts_of encode entries_bytes parent_of parent_below written_image image_with_table used_in regions_behind_table program_of program_in own_region free_regions runs is_used nonempty_regions
slack-freed = refl

-- ---- the images that are written

rewritten : (m : ℕ) → used_of (written_image (table_change (directory [] 2 ∷ file (0x61 ∷ []) 0x500 0x100 ∷ [])) (stating m)) ≡ 1370
unfolding stating master put table_of nodes_in nodes_of nodes_from node_at name_at count be24 be32 texts_of encode entries_bytes parent_of parent_below written_image image_with_table used_of regions_behind_table program_of program_in own_region total_size
rewritten m = refl

rewritten-free : (m : ℕ) → free_space_of (written_image (table_change (directory [] 2 ∷ file (0x61 ∷ []) 0x500 0x100 ∷ [])) (stating m)) ≡ at 1114 166 ∷ at 1536 6656 ∷ []
unfolding stating master put table_of nodes_in nodes_of nodes_from node_at name_at count be24 be32 texts_of encode entries_bytes parent_of parent_below written_image image_with_table used_in regions_behind_table program_of program_in own_region free_regions runs is_used nonempty_regions
rewritten-free m = refl

abbrev pub insert_b : Edit
insert_b = insert_file 0 (0x62 ∷ [])

abbrev with_b : Change
with_b = table_change (directory [] 3 ∷ file (0x61 ∷ []) 0x500 0x100 ∷ file (0x62 ∷ []) 0 0 ∷ [])

abbrev tight_with_b : Change
tight_with_b = table_change (directory [] 3 ∷ file (0x61 ∷ []) 0x45A 0x100 ∷ file (0x62 ∷ []) 0 0 ∷ [])

plan-b : (m : ℕ) → plan_of insert_b (disc_of (stating m)) ≡ change 2 with_b
unfolding insert_verdict insert_at splice raised_next child_of first_child are_same_bytes is_plain is_safe parent_of parent_below dirs_open_at units
plan-b m = rw (nodes m)

pub tight-plan : (m : ℕ) → plan_of insert_b (disc_of (tight m)) ≡ change 2 tight_with_b
unfolding insert_verdict insert_at splice raised_next child_of first_child are_same_bytes is_plain is_safe parent_of parent_below dirs_open_at units
tight-plan m = rw (tight-nodes m)

inserted : (m : ℕ) → used_of (written_image with_b (stating m)) ≡ 1384
unfolding stating master put table_of nodes_in nodes_of nodes_from node_at name_at count be24 be32 texts_of encode entries_bytes parent_of parent_below written_image image_with_table used_of regions_behind_table program_of program_in own_region total_size
inserted m = refl

inserted-free : (m : ℕ) → free_space_of (written_image with_b (stating m)) ≡ at 1128 152 ∷ at 1536 6656 ∷ []
unfolding stating master put table_of nodes_in nodes_of nodes_from node_at name_at count be24 be32 texts_of encode entries_bytes parent_of parent_below written_image image_with_table used_in regions_behind_table program_of program_in own_region free_regions runs is_used nonempty_regions
inserted-free m = refl

-- `a` filled with as many bytes as it has
abbrev clip : List ℕ
clip = replicate 0x100 7

plan-clip : plan_of (fill_file 1 clip) (disc_of (stating 0x19)) ≡ filled 1 clip nothing
unfolding plan_fill plan_resize
plan-clip = rw (nodes 0x19)

clipped : used_of (put (stating 0x19) 0x500 clip) ≡ 1370
unfolding stating master put table_of nodes_in nodes_of nodes_from node_at name_at count be24 be32 used_of regions_behind_table program_of program_in own_region total_size
clipped = refl

clipped-free : free_space_of (put (stating 0x19) 0x500 clip) ≡ at 1114 166 ∷ at 1536 6656 ∷ []
unfolding stating master put table_of nodes_in nodes_of nodes_from node_at name_at count be24 be32 used_in regions_behind_table program_of program_in own_region free_regions runs is_used nonempty_regions
clipped-free = refl

-- ---- the examples

-- an edit of the small master with that maximum, with its record and 0x28 working bytes
abbrev on : ℕ → Edit → Verdict
on m ed = verdict_of ed fresh (stating m) master_words 0x28

pub record Maximum : Type 0 where
  -- a table of exactly the maximum: a rewrite is accepted, an insert is 26
  pub exact : (on 0x1A rewrite ≡ Ok tt) × (on 0x1A insert_b ≡ Err TableAboveMaximum)
  -- an image whose table is above it opens: a rewrite is 26, and so are a move and a shrink
  pub larger : (opening (stating 0x19) master_words ≡ Ok tt) × (on 0x19 rewrite ≡ Err TableAboveMaximum) × (on 0x19 (move_file 1 0x600) ≡ Err TableAboveMaximum) × (on 0x19 (resize_file 1 0xFF) ≡ Err TableAboveMaximum)
  -- a resize to the present size and a fill of it write no table
  pub same_size : (on 0x19 (resize_file 1 0x100) ≡ Ok tt) × (on 0x19 (fill_file 1 clip) ≡ Ok tt)
  -- 0: as before
  pub none : (on 0 rewrite ≡ Ok tt) × (on 0 insert_b ≡ Ok tt)
  -- the table with `b` has 0x28 bytes
  pub grown : (on 0x28 insert_b ≡ Ok tt) × (on 0x27 insert_b ≡ Err TableAboveMaximum)
  -- one that is edited down to it: a table of 0x1B bytes, one of which no name uses
  pub edited-down : verdict_of rewrite fresh (slack 0x1A) master_words 0x1A ≡ Ok tt
  -- 9 comes before 26: one working word too few for three entries, one working byte too few for their table
  pub limits-first : verdict_of insert_b fresh (stating 0x1A) 19 0x28 ≡ Err LimitOrMemory
  pub bytes-first : verdict_of insert_b fresh (stating 0x1A) master_words 0x27 ≡ Err LimitOrMemory
  -- 26 comes before the table's 21: `a` lies right behind the table
  pub room-last : (verdict_of insert_b fresh (tight 0x1A) master_words 0x28 ≡ Err TableAboveMaximum) × (verdict_of insert_b fresh (tight 0) master_words 0x28 ≡ Err NotEnoughSpace)
  -- and before 25: with a record that can count no more edits
  pub record-last : verdict_of rewrite (handed 1370 6656 most) (stating 0x19) master_words 0x28 ≡ Err TableAboveMaximum
  pub number : number_of TableAboveMaximum ≡ 26

pub maximum : Maximum
unfolding verdict_of counted_verdict team_verdict totals_verdict remainders total_size plan_move plan_resize max_size_from size_beside_free table_verdict place_verdict limits is_shallow is_shallow_from dirs_open_at texts_of encode entries_bytes parent_of parent_below set_place
maximum = record {
  exact = (rw (opens 0x1A, nodes 0x1A, free 0x1A, stated.0, (table 0x1A).0, (table 0x1A).1, used 0x1A, rewritten 0x1A, rewritten-free 0x1A), rw (opens 0x1A, plan-b 0x1A, stated.0));
  larger = (
    opens 0x19,
    rw (opens 0x19, nodes 0x19, stated.1),
    rw (opens 0x19, nodes 0x19, free 0x19, stated.1),
    rw (opens 0x19, nodes 0x19, stated.1),
  );
  same_size = (rw (opens 0x19, nodes 0x19, used 0x19, free 0x19), rw (opens 0x19, plan-clip, nodes 0x19, used 0x19, clipped, clipped-free));
  none = (rw (opens 0, nodes 0, free 0, stated.2, (table 0).0, (table 0).1, used 0, rewritten 0, rewritten-free 0), rw (opens 0, plan-b 0, free 0, stated.2, (table 0).0, (table 0).1, used 0, inserted 0, inserted-free 0));
  grown = (rw (opens 0x28, plan-b 0x28, free 0x28, stated.3, (table 0x28).0, (table 0x28).1, used 0x28, inserted 0x28, inserted-free 0x28), rw (opens 0x27, plan-b 0x27, stated.4));
  edited-down = rw (slack-opens, slack-nodes, slack-free, slack-header.2, slack-header.0, slack-header.1, slack-used, slack-rewritten, slack-freed);
  limits-first = rw (few-opens, plan-b 0x1A);
  bytes-first = rw (opens 0x1A, plan-b 0x1A);
  room-last = (rw (tight-opens 0x1A, tight-plan 0x1A, tight-header.3), rw (tight-opens 0, tight-plan 0, tight-free, tight-header.2, tight-header.0, tight-header.1));
  record-last = rw (opens 0x19, nodes 0x19, stated.1);
  number = refl;
}
