-- The words that hold the used regions of an open image, with the names that are needed to say so. Assumes nothing.
use Prim.Native.Nat.{ℕ}
use mathlib.Core.Path.{◌≡◌}
use mathlib.Core.List.{List}
pub use Rattle.table.specs.Inner.Reading.{Opens}
pub use Rattle.space.specs.declared.region.DiscRegion.{DiscRegion}
pub use Rattle.space.specs.Free.{free_regions}
pub use Rattle.space.specs.Used.{total_size}
pub use Rattle.space.specs.Inner.Sort.{regions_in}
pub use Rattle.space.specs.Inner.Words.{IsSortedDisjoint}
use Rattle.header.specs.Verdicts.{disc_end}
use Rattle.opened.specs.Opening.{free_space_of}
use Rattle.opened.specs.Inner.Prepared.{IsOpen}

-- the used regions stand below the end that was read, and the free ones are what they leave
module _ (image w : List ℕ) (m e : ℕ) (o : IsOpen image w m) (h : e ≡ disc_end image) where
  pub sorted-below : IsSortedDisjoint w m e
  sorted-below = rw h o.used.sorted

  pub free-below : free_regions e (regions_in w 0 m) ≡ free_space_of image
  free-below = rw h o.used.free
