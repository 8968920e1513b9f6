-- What an open disc shows: the disc that its image means, the bytes of its table, and how many working words are lent. Assumes nothing: these are definitions.
use Rattle.std.specs.Prelude.{Result, Ok, Err, ℕ, ◌≡◌, List, ◌∷◌, map}
use Rattle.refusal.specs.declared.Refusal.{Refusal}
use Rattle.header.specs.Verdicts.{fst_offset, fst_size, fst_max_size, disc_end, table_end}
use Rattle.tree.specs.Table.{nodes_of}
use Rattle.space.specs.declared.region.DiscRegion.{DiscRegion}
use Rattle.space.specs.Used.{used_regions}
use Rattle.opened.specs.Opening.{table_of, region_of, opening, Disc, disc_of}
use Rattle.opened.specs.Inner.Prepared.{IsOpenImage}

-- the table's bytes are what the listing of an image reads, and no edit is decided on them
pub record Opened : Type 0 where
  pub disc : Disc
  pub table : List ℕ
  pub words : ℕ

-- by a header, a table and the program's own region
abbrev pub disc_in : List ℕ → List ℕ → DiscRegion → Disc
disc_in header table own = record {
  nodes = nodes_of table;
  start = fst_offset header;
  table_size = fst_size header;
  maximum = fst_max_size header;
  end = disc_end header;
  used = used_regions (table_end header) (own ∷ map region_of (nodes_of table));
}

abbrev pub opened_in : List ℕ → List ℕ → DiscRegion → ℕ → Opened
opened_in header table own words = record { disc = disc_in header table own; table = table; words = words }

-- ---- an image and what is shown of it

-- the image opens with that many words, and means that disc
pub record Means (image : List ℕ) (d : Opened) : Type 0 where
  pub known : IsOpenImage image d.words
  pub is : disc_of image ≡ d.disc
  pub table_is : table_of image ≡ d.table

-- some image means the disc, and that is its table
pub record IsTableOf (d : Opened) (table : List ℕ) : Type 0 where
  pub image : List ℕ
  pub means : Means image d
  pub is : table ≡ table_of image

-- by the cases of the answer: the disc that the image means, or opening refused it
abbrev pub OpensAs : List ℕ → ℕ → Result Opened Refusal → Type 0
OpensAs image words (Ok d) = Means image d × (d.words ≡ words)
OpensAs image words (Err c) = opening image words ≡ Err c
