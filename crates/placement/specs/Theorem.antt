-- What is proved of the placement: the files do not fit exactly if no placement does, the least disc end, and where the files lie.
-- Proved in proofs/Laws/Theorems.
-- Assumes nothing: these are definitions.
use Rattle.std.specs.Prelude.{ℕ, ◌%◌, ◌<◌, ◌≤◌, ◌≡◌, true, false, List, [], ◌∷◌, length, slice_index}
use Rattle.space.specs.declared.region.DiscRegion.{DiscRegion}
use Rattle.space.specs.Used.{used_regions}
use Rattle.space.specs.Layout.{are_disjoint_below}
use Rattle.placement.specs.Placement.{unused_rest, largest_rest, least_end, is_placeable, last_file, offsets_of}
use Rattle.placement.specs.Places.{IsPlaced}

-- THEOREM: files that are placed, however they are placed, fit
abbrev pub Complete : Type 0
Complete = (t end : ℕ) (sizes offsets : List ℕ) → IsPlaced t end sizes offsets → is_placeable t end sizes ≡ true

-- THEOREM: where the files fit, they are placed
abbrev pub Sound : Type 0
Sound = (t end : ℕ) (sizes : List ℕ) → is_placeable t end sizes ≡ true → IsPlaced t end sizes (offsets_of t sizes)

-- THEOREM: not fitting means that no offsets will do, and where no offsets will do, they do not fit
abbrev pub Exactly : Type 0
Exactly =
    (t end : ℕ) (sizes : List ℕ) →
    (is_placeable t end sizes ≡ false → (offsets : List ℕ) → IsPlaced t end sizes offsets → ⊥)
    × (((offsets : List ℕ) → IsPlaced t end sizes offsets → ⊥) → is_placeable t end sizes ≡ false)

-- THEOREM: no placement ends before the least disc end, and one ends there
abbrev pub EndsLeast : Type 0
EndsLeast =
    (t : ℕ) (sizes : List ℕ) →
    ((end : ℕ) (offsets : List ℕ) → IsPlaced t end sizes offsets → least_end t sizes ≤ end) × IsPlaced t (least_end t sizes) sizes (offsets_of t sizes)

-- THEOREM: an empty file has offset 0
abbrev pub EmptyAtZero : Type 0
EmptyAtZero = (t : ℕ) (sizes : List ℕ) (i : ℕ) → slice_index sizes i ≡ 0 → slice_index (offsets_of t sizes) i ≡ 0

-- THEOREM: the last file is one with the largest unused rest
abbrev pub LastLargest : Type 0
LastLargest = (sizes : List ℕ) → unused_rest (slice_index sizes (last_file sizes)) ≡ largest_rest sizes

-- ---- against the layout test of opening

-- the files as regions
unfoldable pub regions_of : List ℕ → List ℕ → List DiscRegion
regions_of [] offsets = []
regions_of (size ∷ sizes) [] = []
regions_of (size ∷ sizes) (offset ∷ offsets) = record { offset = offset; size = size } ∷ regions_of sizes offsets

-- THEOREM: what is placed passes the layout test, and files on multiples of 0x8000 that pass it are placed
abbrev pub PassesLayout : Type 0
PassesLayout =
    (t end : ℕ) (sizes offsets : List ℕ) → 0 < t →
    (IsPlaced t end sizes offsets → are_disjoint_below end (used_regions t (regions_of sizes offsets)) ≡ true)
    × (length offsets ≡ length sizes → ((i : ℕ) → 0 < slice_index sizes i → slice_index offsets i % 0x8000 ≡ 0) →
    are_disjoint_below end (used_regions t (regions_of sizes offsets)) ≡ true → IsPlaced t end sizes offsets)
