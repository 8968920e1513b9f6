-- Where a file that keeps its place ends. Assumes nothing.
use Prim.Native.Nat.{ℕ, ◌+◌, ◌<◌, ◌≤◌, max}
use mathlib.Core.Path.{◌≡◌}
use mathlib.Core.Logic.{inr, ⊎_elim}
use mathlib.Core.Bool.{true, ◌||◌}
use mathlib.Core.List.{List, map}
use native.Mathlib.Omega.{arith}
use borrow.Author.Tests.{leb-true}
use lib.Dec.{leb}
use lib.ListN.{length, get_or, length-map, get_or-map}
use Rattle.refusal.specs.Laws.Tests.{lt-or-le, or_cases}
use Rattle.header.specs.Verdicts.{disc_end, table_end}
use Rattle.tree.specs.Table.{Node, empty_root}
use Rattle.space.specs.declared.region.DiscRegion.{DiscRegion}
use Rattle.space.specs.Used.{end_of}
use Rattle.space.specs.Laws.FreeLaws.{In}
use Rattle.space.specs.MaxRegionSize.{max_region_size}
use Rattle.space.specs.Laws.GrowthLaws.{file-largest}
use Rattle.opened.specs.Opening.{nodes_in, region_of, regions_behind_table, used_in, free_space_of}
use Rattle.opened.specs.Inner.Prepared.{IsOpenImage}
use Rattle.edit_rules.proofs.Laws.PlaceTests.{in-region}
use Rattle.edit.proofs.Images.{file-lies, place-lies}
use Rattle.edit.specs.Inner.Files.{IsFile}

-- a file's region is one of its table's
in-files : (xs : List Node) (k : ℕ) → k < length xs → In (region_of (get_or xs k empty_root)) (map region_of xs)
in-files xs k h = rw (← get_or-map region_of xs k empty_root) (in-region (map region_of xs) k (rw (length-map xs region_of) h))

module _ (image : List ℕ) (words : ℕ) (known : IsOpenImage image words) (k : ℕ) (f : IsFile (nodes_in image) k) (old : DiscRegion) (here : region_of (get_or (nodes_in image) k empty_root) ≡ old) (n : ℕ) where
  old-lies : 0 < old.size → (table_end image ≤ old.offset) × (end_of old ≤ disc_end image)
  old-lies z = rw here at (file-lies image words known k (rw here z))

  grows-below : old.offset + max_region_size old.offset old.size (free_space_of image) ≤ max (end_of old) (disc_end image)
  unfolding used_in regions_behind_table
  grows-below = (file-largest (disc_end image) (table_end image) (regions_behind_table image) old (inr (rw here at (in-files (nodes_in image) k f.inside)))).below

  -- LAW: where a file stays, its n bytes lie behind the table and on the disc
  pub stays-on-disc : (leb n old.size || leb n (max_region_size old.offset old.size (free_space_of image))) ≡ true → 0 < n → (table_end image ≤ old.offset) × (old.offset + n ≤ disc_end image)
  stays-on-disc t z = ⊎_elim full empty (lt-or-le 0 old.size)
    where
      full : 0 < old.size → (table_end image ≤ old.offset) × (old.offset + n ≤ disc_end image)
      full y =
          let l = old-lies y in
          ⊎_elim (λ a. (l.0, omega (arith, l.1, leb-true n old.size a)))
          (λ a. (l.0, omega (arith, l.1, leb-true n (max_region_size old.offset old.size (free_space_of image)) a, grows-below))) (or_cases (leb n old.size) _ t)

      empty : old.size ≤ 0 → (table_end image ≤ old.offset) × (old.offset + n ≤ disc_end image)
      empty y =
          let e : old.size ≡ 0 = omega arith in
          ⊎_elim (λ a. absurd (omega (arith, leb-true n old.size a)))
          (λ a. place-lies image words known old.offset n (rw e at (leb-true n (max_region_size old.offset old.size (free_space_of image)) a)) z) (or_cases (leb n old.size) _ t)
