-- Each theorem about the placement, applied: to `a` of 1 byte and `b` of 0x8000 behind a table that ends at 0x468, and to an empty file beside one of
-- 3 bytes. Assumes nothing.
use Rattle.std.specs.Prelude.{ℕ, zero, suc, ◌%◌, ◌<◌, ◌≤◌, ◌≡◌, refl, true, false, List, [], ◌∷◌, slice_index}
use Rattle.std.proofs.Common.{arith, sym, ◌∙◌}
use Rattle.space.specs.Align.{align_up}
use Rattle.space.specs.Used.{used_regions, nonempty_regions}
use Rattle.space.specs.Layout.{are_disjoint, is_disjoint_from_all, are_pairwise_disjoint, are_below, are_disjoint_below}
use Rattle.placement.specs.Placement.{unused_rest, whole_total, largest_rest, are_all_empty, least_end, is_placeable, offsets_in_order, offsets_with_last, last_file, offsets_of}
use Rattle.placement.specs.Places.{IsPlaced}
use Rattle.placement.specs.Theorem.{regions_of}
use Rattle.placement.proofs.Laws.Theorems.{fits-if-placed, placed-if-fits, fits-exactly, ends-least, empty-files, last-rest, layout-passes}

abbrev pub two : List ℕ
two = 1 ∷ 0x8000 ∷ []

-- as wished; as they come, with `a` before `b`
abbrev pub placed : List ℕ
placed = 0x10000 ∷ 0x8000 ∷ []

abbrev pub as-listed : List ℕ
as-listed = 0x8000 ∷ 0x10000 ∷ []

offsets : offsets_of 0x468 two ≡ placed
unfolding align_up whole_total largest_rest offsets_in_order offsets_with_last last_file offsets_of
offsets = refl

fits : (is_placeable 0x468 0x10001 two ≡ true) × (is_placeable 0x468 0x10000 two ≡ false)
unfolding align_up whole_total largest_rest are_all_empty least_end is_placeable
fits = (refl, refl)

least : least_end 0x468 two ≡ 0x10001
unfolding align_up whole_total largest_rest are_all_empty least_end
least = refl

on-clusters : (i : ℕ) → 0 < slice_index two i → slice_index as-listed i % 0x8000 ≡ 0
on-clusters zero h = refl
on-clusters (suc zero) h = refl
on-clusters (suc (suc i)) h = refl

disjoint : are_disjoint_below 0x18000 (used_regions 0x468 (regions_of two as-listed)) ≡ true
unfolding regions_of nonempty_regions are_disjoint is_disjoint_from_all are_pairwise_disjoint are_below are_disjoint_below
disjoint = refl

-- `a` before `b` is a placement too, by the layout test of opening
pub listed : IsPlaced 0x468 0x18000 two as-listed
listed = (layout-passes 0x468 0x18000 two as-listed (omega arith)).1 refl on-clusters disjoint

pub at-least : IsPlaced 0x468 0x10001 two placed
at-least = rw offsets at (placed-if-fits 0x468 0x10001 two fits.0)

-- an empty file, and one of 3 bytes
abbrev pub some_empty : List ℕ
some_empty = 0 ∷ 3 ∷ []

nowhere : (offsets : List ℕ) → IsPlaced 0x468 0x8002 some_empty offsets → ⊥
nowhere offsets p = omega (arith, p.behind 1 (omega arith), p.multiple 1 (omega arith), p.within 1 (omega arith))

pub record Placed : Type 0 where
  -- what is placed fits
  pub listed-fits : is_placeable 0x468 0x18000 two ≡ true
  -- what fits is placed: `b`, which fills its cluster, before `a`
  pub has-place : IsPlaced 0x468 0x10001 two placed
  -- one byte less: there is no place; and where there is none, it does not fit
  pub no-place : (offsets : List ℕ) → IsPlaced 0x468 0x10000 two offsets → ⊥
  pub no-fit : is_placeable 0x468 0x8002 some_empty ≡ false
  -- whatever their places, they end at 0x10001 or later
  pub late : (end : ℕ) (offsets : List ℕ) → IsPlaced 0x468 end two offsets → 0x10001 ≤ end
  pub there : IsPlaced 0x468 0x10001 two placed
  pub empty : slice_index (offsets_of 0x468 some_empty) 0 ≡ 0
  -- file 0, `a`, lies last
  pub last : (last_file two ≡ 0) × (largest_rest two ≡ 0x7FFF)
  pub passes : are_disjoint_below 0x10001 (used_regions 0x468 (regions_of two placed)) ≡ true

last-is : last_file two ≡ 0
unfolding align_up largest_rest last_file
last-is = refl

rest-of-a : unused_rest 1 ≡ 0x7FFF
unfolding align_up
rest-of-a = refl

pub placed-worked : Placed
placed-worked = record {
  listed-fits = fits-if-placed 0x468 0x18000 two as-listed listed;
  has-place = at-least;
  no-place = (fits-exactly 0x468 0x10000 two).0 fits.1;
  no-fit = (fits-exactly 0x468 0x8002 some_empty).1 nowhere;
  late = λ end offsets p. rw least at ((ends-least 0x468 two).0 end offsets p);
  there = rw (least, offsets) at ((ends-least 0x468 two).1);
  empty = empty-files 0x468 some_empty 0 refl;
  last = (last-is, sym (rw last-is at (last-rest two)) ∙ rest-of-a);
  passes = (layout-passes 0x468 0x10001 two placed (omega arith)).0 at-least;
}
