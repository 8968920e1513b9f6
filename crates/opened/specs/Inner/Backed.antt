-- What an opened disc keeps. Assumes nothing: these are definitions.
use Rattle.std.specs.Prelude.{ℕ, ◌≡◌, List}
use Rattle.space.specs.declared.region.DiscRegion.{DiscRegion}
use Rattle.opened.specs.Opening.{table_of, disc_of}
use Rattle.opened.specs.Inner.Prepared.{IsOpen}
use Rattle.opened.specs.Inner.Disc.{disc_in}

-- the words hold the used regions of an image, and the header, the table and the program's own region are that image's
pub record IsBacked (header table : List ℕ) (own : DiscRegion) (w : List ℕ) (m : ℕ) : Type 0 where
  pub image : List ℕ
  pub known : IsOpen image w m
  pub table_is : table ≡ table_of image
  pub disc_is : disc_in header table own ≡ disc_of image
