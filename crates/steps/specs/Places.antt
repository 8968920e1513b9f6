-- Where two images differ, and which bytes of one are free. Assumes nothing: these are definitions.
use Rattle.std.specs.Prelude.{ℕ, ◌<◌, ◌≡◌, true, false, List, length, slice_index}
use Rattle.header.specs.Fields.{fst_size_field}
use Rattle.header.specs.Verdicts.{fst_offset, fst_size, disc_end}
use Rattle.space.specs.declared.region.DiscRegion.{DiscRegion}
use Rattle.space.specs.Used.{is_inside}
use Rattle.space.specs.Free.{is_free_in}
use Rattle.opened.specs.Opening.{used_in}

-- the images differ in that region at most
pub record DifferOnlyIn (image new : List ℕ) (r : DiscRegion) : Type 0 where
  pub len : length new ≡ length image
  pub same : (i : ℕ) → is_inside r i ≡ false → slice_index new i ≡ slice_index image i

abbrev region_at : ℕ → ℕ → DiscRegion
region_at at n = record { offset = at; size = n }

-- the images differ in the size field, the table of the first and one of n bytes at its place at most
pub record DifferOnlyInTable (image new : List ℕ) (n : ℕ) : Type 0 where
  pub len : length new ≡ length image
  pub same : (i : ℕ) → is_inside (region_at fst_size_field.at 4) i ≡ false → is_inside (region_at (fst_offset image) (fst_size image)) i ≡ false →
      is_inside (region_at (fst_offset image) n) i ≡ false → slice_index new i ≡ slice_index image i

-- each of its bytes is below the disc end, and no used region's
abbrev pub IsWhollyFree : List ℕ → DiscRegion → Type 0
IsWhollyFree image r = (i : ℕ) → is_inside r i ≡ true → (i < disc_end image) × (is_free_in (used_in image) i ≡ true)
