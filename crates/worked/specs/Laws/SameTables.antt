-- One tree in tables that share the texts of its names in five ways, and in tables that store false parents: the images, written out from the
-- layout, what each of them reads as, by computing, and the disc that they mean. Assumes nothing.
use Rattle.std.specs.Prelude.{None, Ok, Err}
use Rattle.std.specs.Prelude.{ℕ, ◌+◌, ◌-◌, ◌*◌, ◌≡◌, refl, true, false, List, [], ◌∷◌, ◌++◌, map, length, replicate, slice_index}
use Rattle.std.proofs.Common.{◌∙◌}
use Rattle.endian.specs.Bytes.{be24, be32, be32_bytes, put, AllBytes}
use Rattle.refusal.specs.declared.Refusal.TheVariants.{LimitOrMemory}
use Rattle.header.specs.Fields.{fields, fst_offset_field, fst_size_field}
use Rattle.header.specs.Verdicts.{field_verdict, all_fields_verdict, header_verdict, bounds_verdict, fst_offset, fst_size, fst_max_size, disc_end}
use Rattle.tree.specs.Units.{units}
use Rattle.tree.specs.Table.{Node, file, directory, is_plain, is_safe, kind, count, name_offset, offset_or_parent, name_at, node_at, nodes_from, nodes_of, entry_verdict, entries_verdict, is_unended, dirs_open_at, name_verdict, next_verdict, walk, check, parent_below, parent_of, entries_bytes, texts_of, encode}
use Rattle.space.specs.declared.region.DiscRegion.{DiscRegion}
use Rattle.space.specs.Used.{no_region, used_regions, is_used, nonempty_regions, total_size}
use Rattle.space.specs.Layout.{are_disjoint, is_disjoint_from_all, are_pairwise_disjoint, are_below, are_disjoint_below}
use Rattle.space.specs.Free.{runs, free_regions}
use Rattle.executable.specs.Program.{program_of, program_in, own_region}
use Rattle.opened.specs.Opening.{table_of, nodes_in, opening, regions_behind_table, region_of, used_in, free_space_of, used_of, layout_verdict, Disc, disc_of}
use Rattle.same_table.specs.Unread.{is_unread_in, DifferInUnread}
use Rattle.worked.specs.Image.{master, master_words}
use Rattle.worked.specs.Laws.Marked.{at}
use Rattle.worked.specs.Laws.Applied.{bytes_only, bytes-only}

-- ---- the tree: `a` in the root, `a` in that, and in that the file `ba` of 0x100 bytes

-- where the file lies at o
abbrev pub tree_at : ℕ → List Node
tree_at o = directory [] 4 ∷ directory (0x61 ∷ []) 4 ∷ directory (0x61 ∷ []) 4 ∷ file (0x62 ∷ 0x61 ∷ []) o 0x100 ∷ []

abbrev pub tree : List Node
tree = tree_at 0x500

-- another tree: the file is in the outer `a`, beside the inner one
abbrev pub tree_beside : List Node
tree_beside = directory [] 4 ∷ directory (0x61 ∷ []) 4 ∷ directory (0x61 ∷ []) 3 ∷ file (0x62 ∷ 0x61 ∷ []) 0x500 0x100 ∷ []

-- the table that is written of the first, 0x37 bytes: the texts in the order of the entries, none shared
abbrev pub one_table : List ℕ
one_table =
    1 ∷ 0 ∷ 0 ∷ 0 ∷ 0 ∷ 0 ∷ 0 ∷ 0 ∷ 0 ∷ 0 ∷ 0 ∷ 4 ∷
    1 ∷ 0 ∷ 0 ∷ 0 ∷ 0 ∷ 0 ∷ 0 ∷ 0 ∷ 0 ∷ 0 ∷ 0 ∷ 4 ∷
    1 ∷ 0 ∷ 0 ∷ 2 ∷ 0 ∷ 0 ∷ 0 ∷ 1 ∷ 0 ∷ 0 ∷ 0 ∷ 4 ∷
    0 ∷ 0 ∷ 0 ∷ 4 ∷ 0 ∷ 0 ∷ 5 ∷ 0 ∷ 0 ∷ 0 ∷ 1 ∷ 0 ∷
    0x61 ∷ 0 ∷ 0x61 ∷ 0 ∷ 0x62 ∷ 0x61 ∷ 0 ∷ []

pub encoded : (encode tree ≡ one_table) × (length one_table ≡ 0x37)
unfolding texts_of encode entries_bytes parent_of parent_below
encoded = (refl, refl)

-- ---- the images

-- the entries, whose names stand at x, y and z of the texts
abbrev entries : ℕ → ℕ → ℕ → List ℕ
entries x y z =
    1 ∷ 0 ∷ 0 ∷ 0 ∷ 0 ∷ 0 ∷ 0 ∷ 0 ∷ 0 ∷ 0 ∷ 0 ∷ 4 ∷
    1 ∷ 0 ∷ 0 ∷ x ∷ 0 ∷ 0 ∷ 0 ∷ 0 ∷ 0 ∷ 0 ∷ 0 ∷ 4 ∷
    1 ∷ 0 ∷ 0 ∷ y ∷ 0 ∷ 0 ∷ 0 ∷ 1 ∷ 0 ∷ 0 ∷ 0 ∷ 4 ∷
    0 ∷ 0 ∷ 0 ∷ z ∷ 0 ∷ 0 ∷ 5 ∷ 0 ∷ 0 ∷ 0 ∷ 1 ∷ 0 ∷ []

-- the small master with this table of n bytes at o
abbrev with_table : ℕ → ℕ → List ℕ → List ℕ
with_table o n table = put (put (put master fst_offset_field.at (be32_bytes o)) fst_size_field.at (be32_bytes n)) o table

-- no text shared, and in another order: that of `ba`, of the inner `a`, of the outer one
unfoldable pub unshared : List ℕ
unshared = with_table 0x440 0x37 (entries 5 3 0 ++ (0x62 ∷ 0x61 ∷ 0 ∷ 0x61 ∷ 0 ∷ 0x61 ∷ 0 ∷ []))

-- both `a` share a text
unfoldable pub twins : List ℕ
twins = with_table 0x440 0x35 (entries 0 0 2 ++ (0x61 ∷ 0 ∷ 0x62 ∷ 0x61 ∷ 0 ∷ []))

-- the same texts, but the inner `a` is the end of `ba`
unfoldable pub tail : List ℕ
tail = with_table 0x440 0x35 (entries 0 3 2 ++ (0x61 ∷ 0 ∷ 0x62 ∷ 0x61 ∷ 0 ∷ []))

-- all three share one text
unfoldable pub one_text : List ℕ
one_text = with_table 0x440 0x33 (entries 1 1 0 ++ (0x62 ∷ 0x61 ∷ 0 ∷ []))

-- the inner `a` is the end of `ba`; no entry uses the texts `x` before, `y` between, `z` and the empty one behind; and the table lies elsewhere
unfoldable pub slack : List ℕ
slack = with_table 0x480 0x3C (entries 2 7 6 ++ (0x78 ∷ 0 ∷ 0x61 ∷ 0 ∷ 0x79 ∷ 0 ∷ 0x62 ∷ 0x61 ∷ 0 ∷ 0x7A ∷ 0 ∷ 0 ∷ []))

-- the twins, where directory k stores another parent
unfoldable pub false_parent : ℕ → List ℕ → List ℕ
false_parent k bs = put twins (0x440 + (12 * k + 4)) bs

-- the root stores 7, which no entry has, the outer `a` itself, and the inner one the highest number
abbrev pub root_in_7 : List ℕ
root_in_7 = false_parent 0 (0 ∷ 0 ∷ 0 ∷ 7 ∷ [])

abbrev pub in_itself : List ℕ
in_itself = false_parent 1 (0 ∷ 0 ∷ 0 ∷ 1 ∷ [])

abbrev pub in_none : List ℕ
in_none = false_parent 2 (0xFF ∷ 0xFF ∷ 0xFF ∷ 0xFF ∷ [])

-- the twins, where the root stores a name offset
unfoldable pub root_named : List ℕ
root_named = put twins 0x441 (0 ∷ 0 ∷ 5 ∷ [])

-- the twins, with the tree changed
unfoldable pub elsewhere : List ℕ
elsewhere = put twins 0x468 (be32_bytes 0x600)

unfoldable pub beside : List ℕ
beside = put twins 0x460 (be32_bytes 3)

-- the written table
unfoldable pub plain : List ℕ
plain = with_table 0x440 0x37 one_table

-- the twins, where the file holds nothing but 7s; and what a move of it to 0x700 leaves of them
abbrev pub all_7 : List ℕ
all_7 = replicate 0x100 7

abbrev pub table_moved : List ℕ
table_moved =
    1 ∷ 0 ∷ 0 ∷ 0 ∷ 0 ∷ 0 ∷ 0 ∷ 0 ∷ 0 ∷ 0 ∷ 0 ∷ 4 ∷
    1 ∷ 0 ∷ 0 ∷ 0 ∷ 0 ∷ 0 ∷ 0 ∷ 0 ∷ 0 ∷ 0 ∷ 0 ∷ 4 ∷
    1 ∷ 0 ∷ 0 ∷ 2 ∷ 0 ∷ 0 ∷ 0 ∷ 1 ∷ 0 ∷ 0 ∷ 0 ∷ 4 ∷
    0 ∷ 0 ∷ 0 ∷ 4 ∷ 0 ∷ 0 ∷ 7 ∷ 0 ∷ 0 ∷ 0 ∷ 1 ∷ 0 ∷
    0x61 ∷ 0 ∷ 0x61 ∷ 0 ∷ 0x62 ∷ 0x61 ∷ 0 ∷ []

unfoldable pub sevens : List ℕ
sevens = put twins 0x500 all_7

unfoldable pub sevens_moved : List ℕ
sevens_moved = put (with_table 0x440 0x37 table_moved) 0x700 all_7

-- ---- what each image reads as

-- an image of the tree, with a table of n bytes at o
pub record Reads (o n : ℕ) (image : List ℕ) : Type 0 where
  pub bytes : AllBytes image
  pub opens : opening image master_words ≡ Ok tt
  pub nodes : nodes_in image ≡ tree
  pub program : program_of image ≡ Ok None
  pub header : (fst_offset image ≡ o) × (fst_size image ≡ n) × (fst_max_size image ≡ 0) × (disc_end image ≡ 0x2000)

pub at-unshared : Reads 0x440 0x37 unshared
unfolding unshared master put opening layout_verdict header_verdict all_fields_verdict field_verdict fields bounds_verdict table_of check nodes_in nodes_of nodes_from node_at name_at count entries_verdict entry_verdict is_unended walk name_verdict next_verdict dirs_open_at is_plain is_safe be24 be32 used_in regions_behind_table program_of program_in own_region nonempty_regions are_disjoint_below are_pairwise_disjoint is_disjoint_from_all are_disjoint are_below units bytes_only
at-unshared = record { bytes = bytes-only unshared refl; opens = refl; nodes = refl; program = refl; header = (refl, refl, refl, refl) }

pub at-twins : Reads 0x440 0x35 twins
unfolding twins master put opening layout_verdict header_verdict all_fields_verdict field_verdict fields bounds_verdict table_of check nodes_in nodes_of nodes_from node_at name_at count entries_verdict entry_verdict is_unended walk name_verdict next_verdict dirs_open_at is_plain is_safe be24 be32 used_in regions_behind_table program_of program_in own_region nonempty_regions are_disjoint_below are_pairwise_disjoint is_disjoint_from_all are_disjoint are_below units bytes_only
at-twins = record { bytes = bytes-only twins refl; opens = refl; nodes = refl; program = refl; header = (refl, refl, refl, refl) }

pub at-tail : Reads 0x440 0x35 tail
unfolding tail master put opening layout_verdict header_verdict all_fields_verdict field_verdict fields bounds_verdict table_of check nodes_in nodes_of nodes_from node_at name_at count entries_verdict entry_verdict is_unended walk name_verdict next_verdict dirs_open_at is_plain is_safe be24 be32 used_in regions_behind_table program_of program_in own_region nonempty_regions are_disjoint_below are_pairwise_disjoint is_disjoint_from_all are_disjoint are_below units bytes_only
at-tail = record { bytes = bytes-only tail refl; opens = refl; nodes = refl; program = refl; header = (refl, refl, refl, refl) }

pub at-one-text : Reads 0x440 0x33 one_text
unfolding one_text master put opening layout_verdict header_verdict all_fields_verdict field_verdict fields bounds_verdict table_of check nodes_in nodes_of nodes_from node_at name_at count entries_verdict entry_verdict is_unended walk name_verdict next_verdict dirs_open_at is_plain is_safe be24 be32 used_in regions_behind_table program_of program_in own_region nonempty_regions are_disjoint_below are_pairwise_disjoint is_disjoint_from_all are_disjoint are_below units bytes_only
at-one-text = record { bytes = bytes-only one_text refl; opens = refl; nodes = refl; program = refl; header = (refl, refl, refl, refl) }

pub at-slack : Reads 0x480 0x3C slack
unfolding slack master put opening layout_verdict header_verdict all_fields_verdict field_verdict fields bounds_verdict table_of check nodes_in nodes_of nodes_from node_at name_at count entries_verdict entry_verdict is_unended walk name_verdict next_verdict dirs_open_at is_plain is_safe be24 be32 used_in regions_behind_table program_of program_in own_region nonempty_regions are_disjoint_below are_pairwise_disjoint is_disjoint_from_all are_disjoint are_below units bytes_only
at-slack = record { bytes = bytes-only slack refl; opens = refl; nodes = refl; program = refl; header = (refl, refl, refl, refl) }

pub at-root-in-7 : Reads 0x440 0x35 root_in_7
unfolding false_parent twins master put opening layout_verdict header_verdict all_fields_verdict field_verdict fields bounds_verdict table_of check nodes_in nodes_of nodes_from node_at name_at count entries_verdict entry_verdict is_unended walk name_verdict next_verdict dirs_open_at is_plain is_safe be24 be32 used_in regions_behind_table program_of program_in own_region nonempty_regions are_disjoint_below are_pairwise_disjoint is_disjoint_from_all are_disjoint are_below units bytes_only
at-root-in-7 = record { bytes = bytes-only root_in_7 refl; opens = refl; nodes = refl; program = refl; header = (refl, refl, refl, refl) }

pub at-in-itself : Reads 0x440 0x35 in_itself
unfolding false_parent twins master put opening layout_verdict header_verdict all_fields_verdict field_verdict fields bounds_verdict table_of check nodes_in nodes_of nodes_from node_at name_at count entries_verdict entry_verdict is_unended walk name_verdict next_verdict dirs_open_at is_plain is_safe be24 be32 used_in regions_behind_table program_of program_in own_region nonempty_regions are_disjoint_below are_pairwise_disjoint is_disjoint_from_all are_disjoint are_below units bytes_only
at-in-itself = record { bytes = bytes-only in_itself refl; opens = refl; nodes = refl; program = refl; header = (refl, refl, refl, refl) }

pub at-in-none : Reads 0x440 0x35 in_none
unfolding false_parent twins master put opening layout_verdict header_verdict all_fields_verdict field_verdict fields bounds_verdict table_of check nodes_in nodes_of nodes_from node_at name_at count entries_verdict entry_verdict is_unended walk name_verdict next_verdict dirs_open_at is_plain is_safe be24 be32 used_in regions_behind_table program_of program_in own_region nonempty_regions are_disjoint_below are_pairwise_disjoint is_disjoint_from_all are_disjoint are_below units bytes_only
at-in-none = record { bytes = bytes-only in_none refl; opens = refl; nodes = refl; program = refl; header = (refl, refl, refl, refl) }

pub at-root-named : Reads 0x440 0x35 root_named
unfolding root_named twins master put opening layout_verdict header_verdict all_fields_verdict field_verdict fields bounds_verdict table_of check nodes_in nodes_of nodes_from node_at name_at count entries_verdict entry_verdict is_unended walk name_verdict next_verdict dirs_open_at is_plain is_safe be24 be32 used_in regions_behind_table program_of program_in own_region nonempty_regions are_disjoint_below are_pairwise_disjoint is_disjoint_from_all are_disjoint are_below units bytes_only
at-root-named = record { bytes = bytes-only root_named refl; opens = refl; nodes = refl; program = refl; header = (refl, refl, refl, refl) }

pub at-plain : Reads 0x440 0x37 plain
unfolding plain master put opening layout_verdict header_verdict all_fields_verdict field_verdict fields bounds_verdict table_of check nodes_in nodes_of nodes_from node_at name_at count entries_verdict entry_verdict is_unended walk name_verdict next_verdict dirs_open_at is_plain is_safe be24 be32 used_in regions_behind_table program_of program_in own_region nonempty_regions are_disjoint_below are_pairwise_disjoint is_disjoint_from_all are_disjoint are_below units bytes_only
at-plain = record { bytes = bytes-only plain refl; opens = refl; nodes = refl; program = refl; header = (refl, refl, refl, refl) }

pub at-sevens : Reads 0x440 0x35 sevens
unfolding sevens twins master put opening layout_verdict header_verdict all_fields_verdict field_verdict fields bounds_verdict table_of check nodes_in nodes_of nodes_from node_at name_at count entries_verdict entry_verdict is_unended walk name_verdict next_verdict dirs_open_at is_plain is_safe be24 be32 used_in regions_behind_table program_of program_in own_region nonempty_regions are_disjoint_below are_pairwise_disjoint is_disjoint_from_all are_disjoint are_below units bytes_only
at-sevens = record { bytes = bytes-only sevens refl; opens = refl; nodes = refl; program = refl; header = (refl, refl, refl, refl) }

-- an image of another tree
pub record Other (nodes : List Node) (image : List ℕ) : Type 0 where
  pub bytes : AllBytes image
  pub opens : opening image master_words ≡ Ok tt
  pub tree-is : nodes_in image ≡ nodes

pub at-elsewhere : Other (tree_at 0x600) elsewhere
unfolding elsewhere twins master put opening layout_verdict header_verdict all_fields_verdict field_verdict fields bounds_verdict table_of check nodes_in nodes_of nodes_from node_at name_at count entries_verdict entry_verdict is_unended walk name_verdict next_verdict dirs_open_at is_plain is_safe be24 be32 used_in regions_behind_table program_of program_in own_region nonempty_regions are_disjoint_below are_pairwise_disjoint is_disjoint_from_all are_disjoint are_below units bytes_only
at-elsewhere = record { bytes = bytes-only elsewhere refl; opens = refl; tree-is = refl }

pub at-beside : Other tree_beside beside
unfolding beside twins master put opening layout_verdict header_verdict all_fields_verdict field_verdict fields bounds_verdict table_of check nodes_in nodes_of nodes_from node_at name_at count entries_verdict entry_verdict is_unended walk name_verdict next_verdict dirs_open_at is_plain is_safe be24 be32 used_in regions_behind_table program_of program_in own_region nonempty_regions are_disjoint_below are_pairwise_disjoint is_disjoint_from_all are_disjoint are_below units bytes_only
at-beside = record { bytes = bytes-only beside refl; opens = refl; tree-is = refl }

-- the file lies elsewhere in this one too
pub at-sevens-moved : (used_of sevens_moved ≡ 1399) × (free_space_of sevens_moved ≡ at 0x477 0x289 ∷ at 0x800 0x1800 ∷ [])
unfolding sevens_moved master put table_of nodes_in nodes_of nodes_from node_at name_at count be24 be32 used_in used_of total_size regions_behind_table program_of program_in own_region free_regions runs is_used nonempty_regions
at-sevens-moved = (refl, refl)

-- ---- what the tables store, no two the same

-- where the names stand
abbrev Names : List ℕ → ℕ → ℕ → ℕ → Type 0
Names image x y z = (name_offset (table_of image) 1 ≡ x) × (name_offset (table_of image) 2 ≡ y) × (name_offset (table_of image) 3 ≡ z)

pub record Stored : Type 0 where
  pub unshared : Names unshared 5 3 0
  pub twins : Names twins 0 0 2
  pub tail : Names tail 0 3 2
  pub one-text : Names one_text 1 1 0
  pub slack : Names slack 2 7 6
  pub root-in-7 : offset_or_parent (table_of root_in_7) 0 ≡ 7
  pub in-itself : offset_or_parent (table_of in_itself) 1 ≡ 1
  pub in-none : offset_or_parent (table_of in_none) 2 ≡ 0xFFFFFFFF
  pub root-named : name_offset (table_of root_named) 0 ≡ 5

pub stored : Stored
unfolding unshared twins tail one_text slack false_parent root_named master put table_of be24 be32
stored = record {
  unshared = (refl, refl, refl);
  twins = (refl, refl, refl);
  tail = (refl, refl, refl);
  one-text = (refl, refl, refl);
  slack = (refl, refl, refl);
  root-in-7 = refl;
  in-itself = refl;
  in-none = refl;
  root-named = refl;
}

-- of the twins: which entries are directories, and with how few words they open
pub kinds : (count (table_of twins) ≡ 4) × (kind (table_of twins) 0 ≡ 1) × (kind (table_of twins) 1 ≡ 1) × (kind (table_of twins) 2 ≡ 1)
unfolding twins master put table_of count be32
kinds = (refl, refl, refl, refl)

pub with_words : (opening twins 24 ≡ Ok tt) × (opening twins 23 ≡ Err LimitOrMemory)
unfolding twins master put opening layout_verdict header_verdict all_fields_verdict field_verdict fields bounds_verdict table_of check nodes_in nodes_of nodes_from node_at name_at count entries_verdict entry_verdict is_unended walk name_verdict next_verdict dirs_open_at is_plain is_safe be24 be32 used_in regions_behind_table program_of program_in own_region nonempty_regions are_disjoint_below are_pairwise_disjoint is_disjoint_from_all are_disjoint are_below units
with_words = (refl, refl)

-- which of their bytes neither opening nor an edit reads: of the name offset and the parent that the root stores, and of the parent that the inner `a` does; and which they
-- read: of kinds and nexts, of the name offset of the outer `a`, and of the offset of the file
pub record Unread : Type 0 where
  pub root-name : (is_unread_in twins 0x441 ≡ true) × (is_unread_in twins 0x443 ≡ true)
  pub root-parent : (is_unread_in twins 0x444 ≡ true) × (is_unread_in twins 0x447 ≡ true)
  pub parent : (is_unread_in twins 0x45C ≡ true) × (is_unread_in twins 0x45F ≡ true)
  pub kinds : (is_unread_in twins 0x440 ≡ false) × (is_unread_in twins 0x458 ≡ false)
  pub nexts : (is_unread_in twins 0x448 ≡ false) × (is_unread_in twins 0x460 ≡ false)
  pub name-offset : (is_unread_in twins 0x44D ≡ false) × (is_unread_in twins 0x44F ≡ false)
  pub offset : (is_unread_in twins 0x468 ≡ false) × (is_unread_in twins 0x46B ≡ false)

pub unread : Unread
unfolding twins master put table_of count be32
unread = record {
  root-name = (refl, refl);
  root-parent = (refl, refl);
  parent = (refl, refl);
  kinds = (refl, refl);
  nexts = (refl, refl);
  name-offset = (refl, refl);
  offset = (refl, refl);
}

-- byte i is b, and a call may read it
pub record HasByte (image : List ℕ) (i b : ℕ) : Type 0 where
  pub is-read : is_unread_in image i ≡ false
  pub is : slice_index image i ≡ b

pub byte-of : {image new : List ℕ} {i b : ℕ} → DifferInUnread image new → HasByte image i b → slice_index new i ≡ b
byte-of {i = i} d h = d.same i h.is-read ∙ h.is

-- of the root's next, of a text and of the file; the file where it holds 7s; that and its offset where it lies elsewhere then
pub record Bytes : Type 0 where
  pub next : HasByte twins 0x44B 4
  pub text : HasByte twins 0x470 0x61
  pub file : HasByte twins 0x500 0
  pub next-then : HasByte sevens 0x44B 4
  pub filled : HasByte sevens 0x500 7
  pub offset : HasByte sevens_moved 0x46A 7
  pub moved : HasByte sevens_moved 0x700 7

pub bytes : Bytes
unfolding sevens sevens_moved twins master put table_of count be32
bytes = record {
  next = record { is-read = refl; is = refl };
  text = record { is-read = refl; is = refl };
  file = record { is-read = refl; is = refl };
  next-then = record { is-read = refl; is = refl };
  filled = record { is-read = refl; is = refl };
  offset = record { is-read = refl; is = refl };
  moved = record { is-read = refl; is = refl };
}

pub twins-long : length twins ≡ 0x2000
unfolding twins master put
twins-long = refl

-- ---- the disc that an image of the tree means

abbrev used_to : ℕ → List DiscRegion
used_to e = used_regions e (no_region ∷ map region_of tree)

abbrev pub disc : ℕ → ℕ → Disc
disc o n = record { nodes = tree; start = o; table_size = n; maximum = 0; end = 0x2000; used = used_to (o + n) }

-- free is what lies between the table and the file, and behind the file
pub record Around (o n : ℕ) : Type 0 where
  pub own : own_region o no_region ≡ no_region
  pub free : free_regions 0x2000 (used_to (o + n)) ≡ at (o + n) (0x500 - (o + n)) ∷ at 0x600 0x1A00 ∷ []
  pub used : o + n + total_size (no_region ∷ map region_of tree) ≡ o + n + 0x100

pub around-37 : Around 0x440 0x37
unfolding own_region free_regions runs is_used nonempty_regions total_size
around-37 = record { own = refl; free = refl; used = refl }

pub around-35 : Around 0x440 0x35
unfolding own_region free_regions runs is_used nonempty_regions total_size
around-35 = record { own = refl; free = refl; used = refl }

pub around-33 : Around 0x440 0x33
unfolding own_region free_regions runs is_used nonempty_regions total_size
around-33 = record { own = refl; free = refl; used = refl }

pub around-slack : Around 0x480 0x3C
unfolding own_region free_regions runs is_used nonempty_regions total_size
around-slack = record { own = refl; free = refl; used = refl }

module _ {o n : ℕ} {image : List ℕ} (r : Reads o n image) (around : Around o n) where
  uses : used_in image ≡ used_to (o + n)
  unfolding used_in regions_behind_table program_in
  uses = rw (r.program, r.nodes, r.header.0, r.header.1, around.own)

  pub meant : disc_of image ≡ disc o n
  meant = rw (uses, r.nodes, r.header.0, r.header.1, r.header.2, r.header.3)

  pub free : free_space_of image ≡ at (o + n) (0x500 - (o + n)) ∷ at 0x600 0x1A00 ∷ []
  free = rw (uses, r.header.3) around.free

  pub used : used_of image ≡ o + n + 0x100
  unfolding used_of regions_behind_table program_in
  used = rw (r.program, r.nodes, r.header.0, r.header.1, around.own) around.used
