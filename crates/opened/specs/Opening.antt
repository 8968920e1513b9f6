-- Opening an image, and what later calls read of it (RULES, Opening). Assumes nothing: these are definitions.
use Rattle.refusal.specs.Refusal.{Verdict}
use Rattle.std.specs.Prelude.{ℕ, List, ◌∷◌, map, length, replicate}
use Rattle.endian.specs.Bytes.{span}
use Rattle.refusal.specs.Refusal.{first}
use Rattle.header.specs.Verdicts.{header_verdict, bounds_verdict, fst_offset, fst_size, fst_max_size, disc_end, table_end}
use Rattle.tree.specs.Table.{Node, file, directory, nodes_of, check}
use Rattle.space.specs.declared.region.DiscRegion.{DiscRegion}
use Rattle.space.specs.Layout.{regions_verdict}
use Rattle.space.specs.Used.{used_regions, used_total}
use Rattle.space.specs.Free.{free_regions}
use Rattle.executable.specs.Program.{program_of, program_verdict, program_behind}

-- the table stands at the FST offset and has the FST size
unfoldable pub table_of : List ℕ → List ℕ
table_of image = span image (fst_offset image) (fst_size image)

-- its entries
unfoldable pub nodes_in : List ℕ → List Node
nodes_in image = nodes_of (table_of image)

-- a file's bytes; a directory has none
abbrev pub region_of : Node → DiscRegion
region_of (file nm offset size) = record { offset = offset; size = size }
region_of (directory nm next) = record { offset = 0; size = 0 }

-- what is used behind the table, the program first where it is a region of its own
unfoldable pub regions_behind_table : List ℕ → List DiscRegion
regions_behind_table image = program_behind image ∷ map region_of (nodes_in image)

-- RULES, Free space: the bytes up to the table end, the program where it is a region of its own, each file that is not empty
unfoldable pub used_in : List ℕ → List DiscRegion
used_in image = used_regions (table_end image) (regions_behind_table image)

-- 24 before 14
unfoldable pub layout_verdict : List ℕ → Verdict
layout_verdict image = first (program_verdict (program_of image)) (regions_verdict (disc_end image) (used_in image))

-- an image, with so many working words lent
unfoldable pub opening : List ℕ → ℕ → Verdict
opening image words =
    first (header_verdict image)
    (first (bounds_verdict image)
    (first (check (table_of image) words)
    (layout_verdict image)))

abbrev pub free_space_of : List ℕ → List DiscRegion
free_space_of image = free_regions (disc_end image) (used_in image)

-- table end, program and files together
unfoldable pub used_of : List ℕ → ℕ
used_of image = used_total (table_end image) (regions_behind_table image)

-- ---- the disc that an image means, where it opens: all that an edit is decided on

pub record Disc : Type 0 where
  -- the tree of the table; where the table starts, its size, and the stated maximum of that
  pub nodes : List Node
  pub start : ℕ
  pub table_size : ℕ
  pub maximum : ℕ
  -- where the disc ends, and its used regions
  pub end : ℕ
  pub used : List DiscRegion

abbrev pub disc_of : List ℕ → Disc
disc_of image = record {
  nodes = nodes_in image;
  start = fst_offset image;
  table_size = fst_size image;
  maximum = fst_max_size image;
  end = disc_end image;
  used = used_in image;
}

abbrev pub free_of : Disc → List DiscRegion
free_of d = free_regions d.end d.used

-- ---- working memory

-- what working memory holds after every call, accepted or refused
abbrev pub zeros : List ℕ → List ℕ
zeros memory = replicate (length memory) 0
