-- A new master: its tests in order, and every byte of it (RULES, A new master). Assumes nothing: these are definitions.
use Rattle.std.specs.Prelude.{Ok, ℕ, ◌+◌, List, [], length, not, replicate, if◌then◌else◌, nat_lt, is_err}
use Rattle.endian.specs.Bytes.{put}
use Rattle.refusal.specs.declared.Refusal.TheVariants.{LimitOrMemory, NotEnoughSpace}
use Rattle.refusal.specs.Refusal.{Verdict, refuse, first}
use Rattle.header.specs.declared.value.DiscHeader.{DiscHeader}
use Rattle.header.specs.Header.{blank_header, put_header}
use Rattle.tree.specs.Table.{Node, encode, limits}
use Rattle.wish_list.specs.Paths.{list_verdict}
use Rattle.wish_list.specs.Tree.{tree_of}
use Rattle.placement.specs.Placement.{is_placeable, offsets_of}

-- what is wished for
pub record Master : Type 0 where
  pub game_code : List ℕ
  pub disc_end : ℕ
  -- the paths, each ended by a zero byte, and the size of each file
  pub paths : List ℕ
  pub sizes : List ℕ

-- the tree with the files at these offsets
abbrev pub nodes_at : Master → List ℕ → List Node
nodes_at m offsets = tree_of m.paths m.sizes offsets

-- the table has this size wherever the files lie
abbrev pub table_size : Master → ℕ
table_size m = length (encode (nodes_at m []))

abbrev pub first_free : Master → ℕ
first_free m = 0x440 + table_size m

unfoldable pub nodes_of_master : Master → List Node
nodes_of_master m = nodes_at m (offsets_of (first_free m) m.sizes)

-- before the place of the files: the paths, then what an edit tests where it writes its table, and a buffer of `room` bytes that is
-- shorter than the disc
unfoldable pub before_place : Master → ℕ → ℕ → ℕ → Verdict
before_place m room words bytes =
    first (list_verdict m.paths (length m.sizes))
    (first (limits (nodes_at m []) words)
    (refuse (nat_lt bytes (table_size m)) LimitOrMemory
    (refuse (nat_lt room m.disc_end) LimitOrMemory (Ok tt))))

-- in a buffer of `room` bytes, with so many words and working bytes lent
unfoldable pub master_verdict : Master → ℕ → ℕ → ℕ → Verdict
master_verdict m room words bytes =
    first (before_place m room words bytes) (refuse (not (is_placeable (first_free m) m.disc_end m.sizes)) NotEnoughSpace (Ok tt))

-- ---- the image

-- the game code, the table's size and the disc end; all else is 0 but the magic and the table's place
unfoldable pub header_with : List ℕ → ℕ → ℕ → DiscHeader
header_with game_code disc_end size = record blank_header { game_code = game_code; fst_offset = 0x440; fst_size = size; user_size = disc_end }

abbrev pub header_of_master : Master → DiscHeader
header_of_master m = header_with m.game_code m.disc_end (table_size m)

-- header and table, and 0 in every other byte below the disc end; the bytes behind it stay
unfoldable pub written_master : Master → List ℕ → List ℕ
written_master m image = put (put_header (header_of_master m) (put image 0 (replicate m.disc_end 0))) 0x440 (encode (nodes_of_master m))

-- a refused call leaves the image as it is
unfoldable pub image_with_master : Master → List ℕ → ℕ → ℕ → List ℕ
image_with_master m image words bytes = if is_err (master_verdict m (length image) words bytes) then image else written_master m image
