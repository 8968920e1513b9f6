-- A worked new master, by computing: its tree, and every part of its image (FORMAT, The file table). Assumes nothing.
use Rattle.std.specs.Prelude.{Ok, Err, ℕ, ◌≡◌, refl, List, [], ◌∷◌, ◌++◌, length, replicate}
use Rattle.refusal.specs.declared.Refusal.TheVariants.{NotEnoughSpace}
use Rattle.endian.specs.Bytes.{be32, put, span, are_same_bytes}
use Rattle.header.specs.Fields.{fields}
use Rattle.header.specs.Header.{put_fields, field_bytes, blank_header}
use Rattle.tree.specs.Units.{units}
use Rattle.tree.specs.Table.{Node, file, directory, is_plain, is_safe, dirs_open_at, parent_below, parent_of, entries_bytes, texts_of, encode, is_shallow_from, is_shallow, limits}
use Rattle.space.specs.Align.{align_up}
use Rattle.wish_list.specs.Paths.{paths_in, path_verdict, paths_verdict, list_verdict}
use Rattle.wish_list.specs.Tree.{wishes, common, below, entries_from, tree_from, tree}
use Rattle.placement.specs.Placement.{whole_total, largest_rest, are_all_empty, least_end, is_placeable, offsets_in_order, offsets_with_last, last_file, offsets_of}
use Rattle.master.specs.Master.{Master, nodes_of_master, before_place, master_verdict, header_with, written_master, image_with_master}
use Rattle.worked.specs.Laws.NewMasters.{wished}

-- ---- `a/b`, `a/c/d` and `e`

abbrev nested_paths : List ℕ
nested_paths = 0x61 ∷ 0x2F ∷ 0x62 ∷ 0 ∷ 0x61 ∷ 0x2F ∷ 0x63 ∷ 0x2F ∷ 0x64 ∷ 0 ∷ 0x65 ∷ 0 ∷ []

abbrev pub nested : ℕ → List ℕ → Master
nested e sizes = wished e nested_paths sizes

-- the tree of these files, with offset and size of `b` and `d`; `e` is empty
abbrev pub nested_tree : ℕ → ℕ → ℕ → ℕ → List Node
nested_tree b_offset b_size d_offset d_size =
    directory [] 6 ∷
    directory (0x61 ∷ []) 5 ∷
    file (0x62 ∷ []) b_offset b_size ∷
    directory (0x63 ∷ []) 5 ∷
    file (0x64 ∷ []) d_offset d_size ∷
    file (0x65 ∷ []) 0 0 ∷ []

pub record Nested : Type 0 where
  -- of 5, 0x8001 and 0 bytes: `d`, whose last cluster has more room, lies last
  pub sized : nodes_of_master (nested 0x18001 (5 ∷ 0x8001 ∷ 0 ∷ [])) ≡ nested_tree 0x8000 5 0x10000 0x8001
  pub enough : master_verdict (nested 0x18001 (5 ∷ 0x8001 ∷ 0 ∷ [])) 0x18001 32 0x52 ≡ Ok tt
  -- the same rest in each: the first file lies last
  pub tie : nodes_of_master (nested 0x10003 (3 ∷ 3 ∷ 0 ∷ [])) ≡ nested_tree 0x10000 3 0x8000 3

pub nested-worked : Nested
unfolding paths_in path_verdict paths_verdict list_verdict wishes common below entries_from tree_from tree are_same_bytes is_plain is_safe units limits is_shallow is_shallow_from dirs_open_at texts_of encode entries_bytes parent_of parent_below align_up whole_total largest_rest are_all_empty least_end is_placeable offsets_in_order offsets_with_last last_file offsets_of before_place master_verdict nodes_of_master
nested-worked = record { sized = refl; enough = refl; tie = refl }

-- ---- its image: `d` has 3 bytes, `b` and `e` have none; two bytes 0xEE more than the disc are lent, and all the buffer held them

abbrev pub small : Master
small = nested 0x8003 (0 ∷ 3 ∷ 0 ∷ [])

abbrev pub lent : List ℕ
lent = replicate 0x8005 0xEE

-- the root, `a`, `b`, `c`, `d`, `e`, and the texts
abbrev pub small_table : List ℕ
small_table =
    1 ∷ 0 ∷ 0 ∷ 0 ∷ 0 ∷ 0 ∷ 0 ∷ 0 ∷ 0 ∷ 0 ∷ 0 ∷ 6 ∷
    1 ∷ 0 ∷ 0 ∷ 0 ∷ 0 ∷ 0 ∷ 0 ∷ 0 ∷ 0 ∷ 0 ∷ 0 ∷ 5 ∷
    0 ∷ 0 ∷ 0 ∷ 2 ∷ 0 ∷ 0 ∷ 0 ∷ 0 ∷ 0 ∷ 0 ∷ 0 ∷ 0 ∷
    1 ∷ 0 ∷ 0 ∷ 4 ∷ 0 ∷ 0 ∷ 0 ∷ 1 ∷ 0 ∷ 0 ∷ 0 ∷ 5 ∷
    0 ∷ 0 ∷ 0 ∷ 6 ∷ 0 ∷ 0 ∷ 0x80 ∷ 0 ∷ 0 ∷ 0 ∷ 0 ∷ 3 ∷
    0 ∷ 0 ∷ 0 ∷ 8 ∷ 0 ∷ 0 ∷ 0 ∷ 0 ∷ 0 ∷ 0 ∷ 0 ∷ 0 ∷
    0x61 ∷ 0 ∷ 0x62 ∷ 0 ∷ 0x63 ∷ 0 ∷ 0x64 ∷ 0 ∷ 0x65 ∷ 0 ∷ []

-- 0 but for the game code, the magic, place and size of the table, and the disc end
abbrev pub small_header : List ℕ
small_header =
    0x47 ∷ 0x54 ∷ 0x53 ∷ 0x45 ∷ (replicate 0x18 0 ++ (
    0xC2 ∷ 0x33 ∷ 0x9F ∷ 0x3D ∷ (replicate 0x404 0 ++ (
    0 ∷ 0 ∷ 4 ∷ 0x40 ∷
    0 ∷ 0 ∷ 0 ∷ 0x52 ∷
    0 ∷ 0 ∷ 0 ∷ 0 ∷
    0 ∷ 0 ∷ 0 ∷ 0 ∷
    0 ∷ 0 ∷ 0x80 ∷ 3 ∷
    0 ∷ 0 ∷ 0 ∷ 0 ∷
    0 ∷ 0 ∷ 0 ∷ 0 ∷ []))))

unfoldable pub written : List ℕ
written = written_master small lent

pub small-tree : nodes_of_master small ≡ nested_tree 0 0 0x8000 3
unfolding paths_in wishes common below entries_from tree_from tree are_same_bytes texts_of encode entries_bytes parent_of parent_below align_up whole_total largest_rest offsets_in_order offsets_with_last last_file offsets_of nodes_of_master
small-tree = refl

pub record Image : Type 0 where
  pub accepted : master_verdict small (length lent) 32 0x52 ≡ Ok tt
  -- one byte less of disc
  pub less : master_verdict (nested 0x8002 (0 ∷ 3 ∷ 0 ∷ [])) (length lent) 32 0x52 ≡ Err NotEnoughSpace
  -- every byte
  pub bytes : written ≡ small_header ++ (small_table ++ (replicate 0x7B71 0 ++ (0xEE ∷ 0xEE ∷ [])))
  -- the fields by their places
  pub code : span written 0 4 ≡ 0x47 ∷ 0x54 ∷ 0x53 ∷ 0x45 ∷ []
  pub magic : be32 written 0x1C ≡ 0xC2339F3D
  pub executable : be32 written 0x420 ≡ 0
  pub table-offset : be32 written 0x424 ≡ 0x440
  pub table-size : be32 written 0x428 ≡ 0x52
  pub table-maximum : be32 written 0x42C ≡ 0
  pub user-size : be32 written 0x434 ≡ 0x8003
  -- which the call writes; a buffer that is shorter than the disc stays as it was
  pub called : image_with_master small lent 32 0x52 ≡ written
  pub refused : image_with_master small (replicate 0x8002 0xEE) 32 0x52 ≡ replicate 0x8002 0xEE

pub image : Image
unfolding paths_in path_verdict paths_verdict list_verdict wishes common below entries_from tree_from tree are_same_bytes is_plain is_safe units limits is_shallow is_shallow_from dirs_open_at texts_of encode entries_bytes parent_of parent_below align_up whole_total largest_rest are_all_empty least_end is_placeable offsets_in_order offsets_with_last last_file offsets_of before_place master_verdict nodes_of_master written header_with written_master put put_fields fields field_bytes blank_header be32 image_with_master
image = record {
  accepted = refl;
  less = refl;
  bytes = refl;
  code = refl;
  magic = refl;
  executable = refl;
  table-offset = refl;
  table-size = refl;
  table-maximum = refl;
  user-size = refl;
  called = refl;
  refused = refl;
}
