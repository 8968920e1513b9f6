-- RULES, Worked examples, and the numbers of the small master's listing, about the definitions that the
-- calls' promises cite: by computing. Assumes nothing.
use Rattle.std.specs.Prelude.{None, Ok, Err}
use Rattle.refusal.specs.Refusal.{Verdict}
use Rattle.std.specs.Prelude.{ℕ, ◌+◌, ◌-◌, ◌≡◌, refl, List, [], ◌∷◌, negsuc}
use Rattle.endian.specs.Bytes.{be24, be32, put, are_same_bytes}
use Rattle.refusal.specs.declared.Refusal.TheVariants.{LimitOrMemory, ExpectedDirectory, NotFound, OverlappingMove, NotEnoughSpace, InvalidSeek}
use Rattle.refusal.specs.Refusal.{number_of}
use Rattle.header.specs.Fields.{fields}
use Rattle.header.specs.Verdicts.{field_verdict, all_fields_verdict, header_verdict, bounds_verdict, fst_offset, fst_size, fst_max_size, disc_end}
use Rattle.window.specs.declared.Window.{Window}
use Rattle.std.specs.declared.io.SeekFrom.TheVariants.{Current}
use Rattle.window.specs.Window.{seek_of, new_window}
use Rattle.tree.specs.declared.Entry.TheVariants.{File, Directory}
use Rattle.tree.specs.declared.Found.TheVariants as found
use Rattle.tree.specs.Units.{units}
use Rattle.tree.specs.Table.{file, directory, is_plain, is_safe, count, name_at, node_at, nodes_from, nodes_of, entry_verdict, entries_verdict, is_unended, dirs_open_at, name_verdict, next_verdict, walk, check, parent_below, parent_of, entries_bytes, texts_of, encode, is_shallow_from, is_shallow, limits}
use Rattle.tree.specs.Lookup.{components_of, components, first_child, child_of, follow, lookup}
use Rattle.tree.specs.Insert.{set_place}
use Rattle.space.specs.declared.region.DiscRegion.{DiscRegion}
use Rattle.space.specs.Used.{is_used, nonempty_regions, total_size}
use Rattle.space.specs.Layout.{are_disjoint, is_disjoint_from_all, are_pairwise_disjoint, are_below, are_disjoint_below}
use Rattle.space.specs.Free.{runs, free_regions}
use Rattle.space.specs.Clusters.{bytes_before, whole_clusters, exact_rest}
use Rattle.space.specs.MaxRegionSize.{size_beside_free, max_size_from}
use Rattle.space.specs.Align.{align_up}
use Rattle.space.specs.Allocate.{better_of, largest_rest, is_power_among, allocation_of}
use Rattle.space.specs.Listing.{rows_of}
use Rattle.totals.specs.Totals.{remainders, team_verdict, totals_verdict}
use Rattle.executable.specs.Program.{program_of, program_in, own_region}
use Rattle.opened.specs.Opening.{table_of, nodes_in, opening, free_space_of, used_of, used_in, regions_behind_table, layout_verdict}
use Rattle.disc.specs.Files.{entry_answer, lookup_answer, max_file_size_answer, open_file_answer}
use Rattle.disc.specs.Calls.{totals_answer, free_answer, free_list, free_regions_answer, free_regions_list, free_clusters_answer, free_clusters_list, allocate_answer}
use Rattle.opened.specs.Answers.{max_region_size_answer}
use Rattle.edit_rules.specs.Change.{image_with_table, written_image, table_verdict, place_verdict}
use Rattle.edit_rules.specs.Edits.{Edit, Account, move_file, resize_file, plan_move, plan_resize, counted_verdict, verdict_of, image_after}
use Rattle.worked.specs.Laws.Handed.{handed}
use Rattle.worked.specs.Image.{master, master_words, master_bytes}

-- ---- the image opens, and what it reads as

pub opens : opening master master_words ≡ Ok tt
unfolding master put opening layout_verdict header_verdict all_fields_verdict field_verdict fields bounds_verdict table_of check nodes_in nodes_of nodes_from node_at name_at count entries_verdict entry_verdict is_unended walk name_verdict next_verdict dirs_open_at is_plain is_safe be24 be32 used_in regions_behind_table program_of program_in own_region nonempty_regions are_disjoint_below are_pairwise_disjoint is_disjoint_from_all are_disjoint are_below units
opens = refl

pub nodes : nodes_in master ≡ directory [] 2 ∷ file (0x61 ∷ []) 0x500 0x100 ∷ []
unfolding master put table_of nodes_in nodes_of nodes_from node_at name_at count be24 be32
nodes = refl

-- the DOL offset is 0, so there is no program
pub no_program : program_of master ≡ Ok None
unfolding master put be32 program_of
no_program = refl

-- the table's own place, the disc end, and no stated maximum
pub header : (fst_offset master ≡ 0x440) × (fst_size master ≡ 0x1A) × (disc_end master ≡ 0x2000) × (fst_max_size master ≡ 0)
unfolding master put be32
header = (refl, refl, refl, refl)

abbrev pub at : ℕ → ℕ → DiscRegion
at o n = record { offset = o; size = n }

pub free : free_space_of master ≡ at 1114 166 ∷ at 1536 6656 ∷ []
unfolding master put table_of nodes_in nodes_of nodes_from node_at name_at count be24 be32 used_in regions_behind_table program_of program_in own_region free_regions runs is_used nonempty_regions
free = refl

pub used : used_of master ≡ 1370
unfolding used_of regions_behind_table program_in own_region total_size
used = rw (nodes, no_program, header.0, header.1)

-- with the record made of it (Records)
abbrev pub fresh : Account
fresh = handed 1370 6656 0

-- ---- what is written when `a` goes elsewhere, or gets n bytes where it is

abbrev written_for : DiscRegion → ℕ → DiscRegion → List ℕ
written_for place kept lost = written_image (record {
  nodes = directory [] 2 ∷ file (0x61 ∷ []) place.offset place.size ∷ [];
  old = at 0x500 0x100;
  place = place;
  kept = kept;
  lost = lost;
}) master

abbrev pub moved_a : ℕ → List ℕ
moved_a to = written_for (at to 0x100) 0x100 (at 0x500 0x100)

abbrev resized_a : ℕ → List ℕ
resized_a n = written_for (at 0x500 n) 0 (at (0x500 + n) (0x100 - n))

pub moved-used : used_of (moved_a 0x600) ≡ 1370
unfolding master put table_of nodes_in nodes_of nodes_from node_at name_at count be24 be32 texts_of encode entries_bytes parent_of parent_below written_image image_with_table used_of regions_behind_table program_of program_in own_region total_size
moved-used = refl

moved-opens : opening (moved_a 0x600) master_words ≡ Ok tt
unfolding master put opening layout_verdict header_verdict all_fields_verdict field_verdict fields bounds_verdict table_of check nodes_in nodes_of nodes_from node_at name_at count entries_verdict entry_verdict is_unended walk name_verdict next_verdict dirs_open_at is_plain is_safe be24 be32 used_in regions_behind_table program_of program_in own_region nonempty_regions are_disjoint_below are_pairwise_disjoint is_disjoint_from_all are_disjoint are_below texts_of encode entries_bytes parent_of parent_below written_image image_with_table units
moved-opens = refl

pub moved-free : free_space_of (moved_a 0x600) ≡ at 0x45A 0x1A6 ∷ at 0x700 0x1900 ∷ []
unfolding master put table_of nodes_in nodes_of nodes_from node_at name_at count be24 be32 texts_of encode entries_bytes parent_of parent_below written_image image_with_table used_in regions_behind_table program_of program_in own_region free_regions runs is_used nonempty_regions
moved-free = refl

resized-used : used_of (resized_a 0x1B00) ≡ 8026
unfolding master put table_of nodes_in nodes_of nodes_from node_at name_at count be24 be32 texts_of encode entries_bytes parent_of parent_below written_image image_with_table used_of regions_behind_table program_of program_in own_region total_size
resized-used = refl

resized-free : free_space_of (resized_a 0x1B00) ≡ at 1114 166 ∷ []
unfolding master put table_of nodes_in nodes_of nodes_from node_at name_at count be24 be32 texts_of encode entries_bytes parent_of parent_below written_image image_with_table used_in regions_behind_table program_of program_in own_region free_regions runs is_used nonempty_regions
resized-free = refl

-- the paths `a/` and `..`
abbrev a/ : List ℕ
a/ = 0x61 ∷ 0x2F ∷ []

abbrev up : List ℕ
up = 0x2E ∷ 0x2E ∷ []

-- the window of `a`, at its first byte
abbrev window_of_a : Window
window_of_a = new_window 0x500 0x100

-- an edit of the small master, with its record
abbrev on_master : Edit → Verdict
on_master ed = verdict_of ed fresh master master_words master_bytes

-- the small master after a move of `a`
abbrev moved_to : ℕ → List ℕ
moved_to to = image_after (move_file 1 to) fresh master master_words master_bytes

-- four words for two regions
abbrev four : List ℕ
four = 0 ∷ 0 ∷ 0 ∷ 0 ∷ []

moves : on_master (move_file 1 0x600) ≡ Ok tt
unfolding verdict_of counted_verdict team_verdict totals_verdict remainders total_size plan_move max_size_from size_beside_free table_verdict place_verdict limits is_shallow is_shallow_from dirs_open_at texts_of encode entries_bytes parent_of parent_below set_place
moves = rw (opens, nodes, free, header.3, header.0, header.1, free, used, moved-used, moved-free)

moved-is : moved_to 0x600 ≡ moved_a 0x600
unfolding image_after plan_move max_size_from size_beside_free set_place
moved-is = rw (moves, nodes, free)

moved : free_regions_list (moved_to 0x600) master_words four ≡ 0x45A ∷ 0x1A6 ∷ 0x700 ∷ 0x1900 ∷ []
unfolding free_list rows_of put
moved = rw (moved-is, moved-opens, moved-free)

-- ---- P1 to P12; `a` is entry 1. A refusal stands with its number

pub record Marked : Type 0 where
  -- the largest size of `a`
  pub P1 : max_file_size_answer master master_words 1 ≡ Ok 0x1B00
  -- a place for 0x100 bytes at alignment 0x100
  pub P2 : allocate_answer master master_words 0x100 0x100 ≡ Ok (at 0x600 0x1A00)
  -- one byte more than is free together, at alignment 1
  pub P3 : (allocate_answer master master_words 0x1A01 1 ≡ Err NotEnoughSpace) × (number_of NotEnoughSpace ≡ 21)
  -- `a` moved over its own old place
  pub P4 : (on_master (move_file 1 0x580) ≡ Err OverlappingMove) × (number_of OverlappingMove ≡ 20)
  -- `a` moved to 0x600: what is free then
  pub P5 : (on_master (move_file 1 0x600) ≡ Ok tt) × (free_regions_list (moved_to 0x600) master_words four ≡ 0x45A ∷ 0x1A6 ∷ 0x700 ∷ 0x1900 ∷ [])
  -- `a` moved into the header
  pub P6 : (on_master (move_file 1 0x400) ≡ Err NotEnoughSpace) × (number_of NotEnoughSpace ≡ 21)
  -- `a` made as large as it can be
  pub P7 : on_master (resize_file 1 0x1B00) ≡ Ok tt
  -- a byte more
  pub P8 : (on_master (resize_file 1 0x1B01) ≡ Err NotEnoughSpace) × (number_of NotEnoughSpace ≡ 21)
  -- the empty path
  pub P9 : lookup_answer master master_words 0 [] ≡ found.At 0 (Directory (record { parent = 0; next = 2 }))
  -- `a/`, a component behind a file
  pub P10 : (lookup_answer master master_words 0 a/ ≡ found.Refused ExpectedDirectory) × (number_of ExpectedDirectory ≡ 17)
  -- `..` above the root
  pub P11 : (lookup_answer master master_words 0 up ≡ found.Refused NotFound) × (number_of NotFound ≡ 18)
  -- the window of `a`, a step back from position 0; `negsuc 0` is the distance -1
  pub P12 : (open_file_answer master master_words 1 ≡ Ok window_of_a) × (seek_of window_of_a (Current (negsuc 0)) ≡ Err InvalidSeek) × (number_of InvalidSeek ≡ 23)

pub marked : Marked
unfolding max_file_size_answer max_region_size_answer allocate_answer lookup_answer entry_answer open_file_answer max_size_from size_beside_free allocation_of is_power_among largest_rest better_of align_up verdict_of counted_verdict team_verdict totals_verdict remainders total_size plan_move plan_resize table_verdict place_verdict limits is_shallow is_shallow_from dirs_open_at texts_of encode entries_bytes parent_of parent_below lookup follow components child_of first_child are_same_bytes set_place components_of units
marked = record {
  P1 = rw (opens, nodes, free);
  P2 = rw (opens, free);
  P3 = (rw (opens, free), refl);
  P4 = (rw (opens, nodes), refl);
  P5 = (moves, moved);
  P6 = (rw (opens, nodes, free), refl);
  P7 = rw (opens, nodes, free, header.3, header.0, header.1, free, used, resized-used, resized-free);
  P8 = (rw (opens, nodes, free), refl);
  P9 = rw (opens, nodes);
  P10 = (rw (opens, nodes), refl);
  P11 = (rw (opens, nodes), refl);
  P12 = (rw (opens, nodes), refl, refl);
}

-- ---- the listing, line by line

pub record Listed : Type 0 where
  pub totals : totals_answer master master_words ≡ Ok (record { disc_end = 8192; used = 1370 })
  pub root : entry_answer master master_words 0 ≡ found.At 0 (Directory (record { parent = 0; next = 2 }))
  pub a : entry_answer master master_words 1 ≡ found.At 1 (File (record { offset = 1280; size = 256 }))
  pub regions : free_regions_answer master master_words 4 ≡ Ok 2
  pub list : free_regions_list master master_words four ≡ 1114 ∷ 166 ∷ 1536 ∷ 6656 ∷ []

pub small-listing : Listed
unfolding totals_answer entry_answer free_answer free_list rows_of put parent_of parent_below used_of regions_behind_table program_in own_region total_size
small-listing = record {
  totals = rw (opens, nodes, no_program, header.0, header.1, header.2);
  root = rw (opens, nodes);
  a = rw (opens, nodes);
  regions = rw (opens, free);
  list = rw (opens, free);
}

-- ---- the same free regions in clusters

pub record InClusters : Type 0 where
  pub regions : free_clusters_answer master master_words 6 ≡ Ok 2
  pub list : free_clusters_list master master_words (0 ∷ 0 ∷ 0 ∷ 0 ∷ 0 ∷ 0 ∷ 7 ∷ []) ≡ 166 ∷ 0 ∷ 0 ∷ 6656 ∷ 0 ∷ 0 ∷ 7 ∷ []
  -- a list of five words is short, and stays as it was
  pub short : free_clusters_answer master master_words 5 ≡ Err LimitOrMemory
  pub stays : free_clusters_list master master_words (1 ∷ 2 ∷ 3 ∷ 4 ∷ 5 ∷ []) ≡ 1 ∷ 2 ∷ 3 ∷ 4 ∷ 5 ∷ []

pub small-clusters : InClusters
unfolding free_answer free_list rows_of put bytes_before whole_clusters exact_rest align_up
small-clusters = record { regions = rw (opens, free); list = rw (opens, free); short = rw (opens, free); stays = rw (opens, free) }
