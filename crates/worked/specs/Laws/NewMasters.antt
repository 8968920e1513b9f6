-- Worked wish lists, by computing: which disc ends are enough, where the files lie, and what is refused first. Assumes nothing.
use Rattle.std.specs.Prelude.{Ok, Err, ℕ, ◌-◌, ◌^◌, ◌≡◌, refl, false, List, [], ◌∷◌}
use Rattle.endian.specs.Bytes.{are_same_bytes}
use Rattle.refusal.specs.declared.Refusal.TheVariants.{MissingNullTerminator, LimitOrMemory, InvalidNameByte, UnsafeName, AlreadyExists, NotEnoughSpace}
use Rattle.refusal.specs.Refusal.{number_of}
use Rattle.tree.specs.Units.{units}
use Rattle.tree.specs.Table.{file, directory, is_plain, is_safe, dirs_open_at, parent_below, parent_of, entries_bytes, texts_of, encode, is_shallow_from, is_shallow, limits}
use Rattle.space.specs.Align.{align_up}
use Rattle.wish_list.specs.Paths.{paths_in, path_verdict, paths_verdict, list_verdict}
use Rattle.wish_list.specs.Tree.{wishes, common, below, entries_from, tree_from, tree}
use Rattle.placement.specs.Placement.{whole_total, largest_rest, are_all_empty, least_end, is_placeable, offsets_in_order, offsets_with_last, last_file, offsets_of}
use Rattle.master.specs.Master.{Master, table_size, first_free, nodes_of_master, before_place, master_verdict}

-- a disc that ends at e; the game code is `GTSE`
abbrev pub wished : ℕ → List ℕ → List ℕ → Master
wished e paths sizes = record { game_code = 0x47 ∷ 0x54 ∷ 0x53 ∷ 0x45 ∷ []; disc_end = e; paths = paths; sizes = sizes }

-- ---- two files: `a` of 1 byte, `b` of 0x8000

abbrev pub two : ℕ → Master
two e = wished e (0x61 ∷ 0 ∷ 0x62 ∷ 0 ∷ []) (1 ∷ 0x8000 ∷ [])

pub record Two : Type 0 where
  -- 20 words and 40 bytes of working memory are enough
  pub enough : master_verdict (two 0x10001) 0x10001 20 40 ≡ Ok tt
  pub less : master_verdict (two 0x10000) 0x10000 20 40 ≡ Err NotEnoughSpace
  pub table : (table_size (two 0x10001) ≡ 40) × (first_free (two 0x10001) ≡ 0x468)
  -- `b`, which fills its cluster, lies before `a`
  pub tree : nodes_of_master (two 0x10001) ≡ directory [] 3 ∷ file (0x61 ∷ []) 0x10000 1 ∷ file (0x62 ∷ []) 0x8000 0x8000 ∷ []
  -- 9, where a buffer is one byte too short, or working memory one word or one byte, comes before 21
  pub short-buffer : (master_verdict (two 0x10000) 0xFFFF 20 40 ≡ Err LimitOrMemory) × (master_verdict (two 0x10001) 0x10000 20 40 ≡ Err LimitOrMemory)
  pub short-words : (master_verdict (two 0x10000) 0x10000 19 40 ≡ Err LimitOrMemory) × (master_verdict (two 0x10001) 0x10001 19 40 ≡ Err LimitOrMemory)
  pub short-bytes : (master_verdict (two 0x10000) 0x10000 20 39 ≡ Err LimitOrMemory) × (master_verdict (two 0x10001) 0x10001 20 39 ≡ Err LimitOrMemory)
  pub numbers : (number_of NotEnoughSpace ≡ 21) × (number_of LimitOrMemory ≡ 9)

pub two-worked : Two
unfolding paths_in path_verdict paths_verdict list_verdict wishes common below entries_from tree_from tree are_same_bytes is_plain is_safe units limits is_shallow is_shallow_from dirs_open_at texts_of encode entries_bytes parent_of parent_below align_up whole_total largest_rest are_all_empty least_end is_placeable offsets_in_order offsets_with_last last_file offsets_of before_place master_verdict nodes_of_master
two-worked = record {
  enough = refl;
  less = refl;
  table = (refl, refl);
  tree = refl;
  short-buffer = (refl, refl);
  short-words = (refl, refl);
  short-bytes = (refl, refl);
  numbers = (refl, refl);
}

-- ---- no file: the root alone

abbrev pub none : ℕ → Master
none e = wished e [] []

pub record None : Type 0 where
  pub enough : master_verdict (none 0x44C) 0x44C 12 12 ≡ Ok tt
  pub less : master_verdict (none 0x44B) 0x44B 12 12 ≡ Err NotEnoughSpace
  pub tree : nodes_of_master (none 0x44C) ≡ directory [] 1 ∷ []
  pub table : table_size (none 0x44C) ≡ 12

pub none-worked : None
unfolding paths_in paths_verdict list_verdict wishes below tree_from tree limits is_shallow is_shallow_from texts_of encode entries_bytes align_up whole_total largest_rest are_all_empty least_end is_placeable offsets_with_last last_file offsets_of before_place master_verdict nodes_of_master
none-worked = record { enough = refl; less = refl; tree = refl; table = refl }

-- ---- two files that are as large as a file can be

abbrev pub most : ℕ
most = 2 ^ 32 - 1

abbrev pub huge : Master
huge = wished most (0x61 ∷ 0 ∷ 0x62 ∷ 0 ∷ []) (most ∷ most ∷ [])

pub record Huge : Type 0 where
  pub refused : master_verdict huge most 20 40 ≡ Err NotEnoughSpace
  pub least : least_end 0x468 (most ∷ most ∷ []) ≡ 0x200007FFF
  pub no-place : is_placeable 0x468 most (most ∷ most ∷ []) ≡ false
  -- one alone has none either: it would have to begin at byte 0
  pub one : is_placeable 0x468 most (most ∷ []) ≡ false

pub huge-worked : Huge
unfolding paths_in path_verdict paths_verdict list_verdict wishes common below entries_from tree_from tree are_same_bytes is_plain is_safe units limits is_shallow is_shallow_from dirs_open_at texts_of encode entries_bytes parent_of parent_below align_up whole_total largest_rest are_all_empty least_end is_placeable before_place master_verdict
huge-worked = record { refused = refl; least = refl; no-place = refl; one = refl }

-- ---- which refusal comes first

pub record Order : Type 0 where
  -- 8 before all: where names are unsafe or not plain, and there is no buffer and no working memory
  pub paths-few : master_verdict (wished 0x500 (0x5C ∷ 0 ∷ []) (1 ∷ 1 ∷ [])) 0 0 0 ≡ Err MissingNullTerminator
  pub paths-many : master_verdict (wished 0x500 (1 ∷ 0 ∷ 1 ∷ 0 ∷ []) (0 ∷ [])) 0 0 0 ≡ Err MissingNullTerminator
  pub unended : master_verdict (wished 0x500 (0x5C ∷ 0 ∷ 0x61 ∷ []) (0 ∷ [])) 0 0 0 ≡ Err MissingNullTerminator
  -- no words and no buffer, and a disc that is too short: the paths are judged all the same
  pub unsafe : master_verdict (wished 0x500 (0x5C ∷ 0 ∷ []) (0 ∷ [])) 0 0 0 ≡ Err UnsafeName
  pub unplain : master_verdict (wished 0x500 (1 ∷ 0 ∷ []) (0 ∷ [])) 0 0 0 ≡ Err InvalidNameByte
  pub twice : master_verdict (wished 0x500 (0x61 ∷ 0 ∷ 0x61 ∷ 0 ∷ []) (0 ∷ 0 ∷ [])) 0 0 0 ≡ Err AlreadyExists
  -- then working memory and the buffer are too small, and 21 is last
  pub memory : master_verdict (wished 0x44B (0x61 ∷ 0 ∷ []) (0 ∷ [])) 0 0 0 ≡ Err LimitOrMemory
  pub place : master_verdict (wished 0x44B (0x61 ∷ 0 ∷ []) (0 ∷ [])) 0x44B 16 26 ≡ Err NotEnoughSpace
  pub numbers : (number_of MissingNullTerminator ≡ 8) × (number_of UnsafeName ≡ 13) × (number_of InvalidNameByte ≡ 12) × (number_of AlreadyExists ≡ 19)

pub order-worked : Order
unfolding paths_in path_verdict paths_verdict list_verdict wishes common below entries_from tree_from tree are_same_bytes is_plain is_safe units limits is_shallow is_shallow_from dirs_open_at texts_of encode entries_bytes parent_of parent_below align_up whole_total largest_rest are_all_empty least_end is_placeable before_place master_verdict
order-worked = record {
  paths-few = refl;
  paths-many = refl;
  unended = refl;
  unsafe = refl;
  unplain = refl;
  twice = refl;
  memory = refl;
  place = refl;
  numbers = (refl, refl, refl, refl);
}
