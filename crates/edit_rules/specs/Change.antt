-- What an accepted edit does to an image, and the tests that each edit which writes a table ends with (RULES,
-- Edits). Assumes nothing: these are definitions.
use Rattle.std.specs.Prelude.{Ok, nat_lt}
use Rattle.refusal.specs.Refusal.{Verdict}
use Rattle.std.specs.Prelude.{ℕ, ◌+◌, ◌-◌, Bool, ◌&&◌, List, ◌++◌, length, replicate}
use Rattle.endian.specs.Bytes.{put, span, be32_bytes}
use Rattle.refusal.specs.declared.Refusal.TheVariants.{LimitOrMemory, NotEnoughSpace, TableAboveMaximum}
use Rattle.refusal.specs.Refusal.{refuse, first}
use Rattle.header.specs.Fields.{fst_size_field}
use Rattle.header.specs.Verdicts.{fst_offset, fst_size}
use Rattle.tree.specs.Table.{Node, encode, limits}
use Rattle.space.specs.declared.region.DiscRegion.{DiscRegion}
use Rattle.space.specs.MaxRegionSize.{max_region_size}
use Rattle.opened.specs.Opening.{Disc, free_of}

pub record Change : Type 0 where
  -- the tree that is written
  pub nodes : List Node
  -- the edited file's old place and its new one; size 0 where there is none
  pub old : DiscRegion
  pub place : DiscRegion
  -- `kept` bytes are copied from the old place to the new one, before the table is written
  pub kept : ℕ
  -- zeroed after the table is written
  pub lost : DiscRegion

-- the table, and zeros up to the old one's size
abbrev pub padded_table : List ℕ → ℕ → List ℕ
padded_table table size = table ++ replicate (size - length table) 0

-- the table at f, over one of that size, and its size in the header
unfoldable pub image_with_table : ℕ → ℕ → List ℕ → List ℕ → List ℕ
image_with_table f size table image = put (put image f (padded_table table size)) fst_size_field.at (be32_bytes (length table))

-- the file's bytes at its new place
abbrev pub copied_image : Change → List ℕ → List ℕ
copied_image c image = put image c.place.offset (span image c.old.offset c.kept)

-- zeros over a region
abbrev pub zeroed_image : DiscRegion → List ℕ → List ℕ
zeroed_image r image = put image r.offset (replicate r.size 0)

-- in this order: the copy, the table, zeros over what the file left or lost
unfoldable pub written_image : Change → List ℕ → List ℕ
written_image c image = zeroed_image c.lost (image_with_table (fst_offset image) (fst_size image) (encode c.nodes) (copied_image c image))

-- RULES, The stated maximum: 0 states none
abbrev pub is_above_maximum : Disc → ℕ → Bool
is_above_maximum d size = nat_lt 0 d.maximum && nat_lt d.maximum size

-- the free regions are those before the edit; the table ends no later than the file's new place begins, where
-- that is not empty
abbrev pub room_verdict : Disc → ℕ → DiscRegion → Verdict
room_verdict d size place =
    refuse (nat_lt (max_region_size d.start d.table_size (free_of d)) size) NotEnoughSpace
    (refuse (nat_lt 0 place.size && nat_lt place.offset (d.start + size)) NotEnoughSpace
    (Ok tt))

-- RULES, The new table: working bytes, the stated maximum, room
unfoldable pub place_verdict : Disc → ℕ → ℕ → DiscRegion → Verdict
place_verdict d bytes size place =
    refuse (nat_lt bytes size) LimitOrMemory
    (refuse (is_above_maximum d size) TableAboveMaximum
    (room_verdict d size place))

-- RULES, The new table: the limits of opening hold for the new tree; then the table's place
unfoldable pub table_verdict : Change → Disc → ℕ → ℕ → Verdict
table_verdict c d words bytes = first (limits c.nodes words) (place_verdict d bytes (length (encode c.nodes)) c.place)

-- what an edit comes to once the image is open: refused by its own tests, accepted with nothing to write, a change to be written, or
-- one of these and then a clip written over a file. An edit that gives an entry's number carries it
pub data Plan : Type 0 where
  refused : Verdict → Plan
  nothing : Plan
  change : ℕ → Change → Plan
  filled : ℕ → List ℕ → Plan → Plan
